use Rattle.std.proofs.Common.{◌∷◌, ◌++◌, [], map, filter, ap, sym, subst, ◌∙◌, if◌then◌else◌}
use Rattle.std.specs.List.{flat_map}
use Rattle.timing_defs.specs.Netlist.{pins, is_on}
use Rattle.timing_defs.specs.Wires.{is_lumped, root_node}
use Rattle.timing_defs.specs.NetChecks.{named_nodes}
use Rattle.design_link.specs.Nodes.{nodes_in, is_node, HaveSameNodes}
use Rattle.design_link.proofs.NodeLaws.{all_nodes}
use Rattle.design_link.proofs.NetNodeLaws.{lumped_or}
use Rattle.design_link.proofs.net_nodes.rc_nodes.Goals as goal

pub returns : goal.returns
returns c = λ q.
    all_nodes c.args.rc.now (nodes_in c.in_ok-lumped.lumped) (nodes_in c.in_ok-ends.ends) (nodes_in c.in_ok-all.all)
    (if is_lumped c.args.rc.now then map root_node (filter (is_on c.args.rc.now.net) (pins c.args.store.now.design)) else []) c.in_ok-lumped.ensures
    (subst (λ rs. HaveSameNodes (nodes_in c.in_ok-ends.ends) (nodes_in c.in_ok-lumped.lumped ++ flat_map (λ r. r.a ∷ r.b ∷ []) rs)) c.as_slice.ensures c.in_ok-ends.ensures)
    (subst (λ cs. HaveSameNodes (nodes_in c.in_ok-all.all) (nodes_in c.in_ok-ends.ends ++ map (λ x. x.node) cs)) c.as_slice-2.ensures c.in_ok-all.ensures) q
    ∙ ap (λ ns. is_node ns q) (sym (lumped_or c.args.rc.now (map root_node (filter (is_on c.args.rc.now.net) (pins c.args.store.now.design))) (named_nodes c.args.rc.now)))
