use Rattle.std.proofs.Common.{◌∷◌, ◌++◌, [], ◌∙◌, ap, filter, subst}
use Rattle.std.specs.List.{list_all, flat_map}
use Rattle.timing_defs.specs.Netlist.{pins, is_on}
use Rattle.timing_defs.specs.Wires.{root_node}
use Rattle.design_link.specs.Nodes.{nodes_in, HaveSameNodes}
use Rattle.design_link.proofs.RcPinLaws.{is_end, all_at_ends}
use Rattle.design_link.proofs.rc_pins.are_pins_at_ends.Goals as goal

pub returns-then-len-le-FEW : goal.returns-then-len-le-FEW
returns-then-len-le-FEW c = λ word here.
    c.are_pins_at.ensures word here
    ∙ ap (λ rs. list_all (λ pin. is_end rs (root_node pin)) (filter (is_on word) (pins c.args.store.now.design))) c.as_slice.ensures

pub returns : goal.returns
returns c = λ word here.
    c.are_pins_in.ensures word here
    ∙ all_at_ends c.args.rc.now (nodes_in c.in_ok-ends.ends) (filter (is_on word) (pins c.args.store.now.design))
    (subst (λ ns. HaveSameNodes (nodes_in c.in_ok-ends.ends) (ns ++ flat_map (λ r. r.a ∷ r.b ∷ []) c.args.rc.now.ress)) c.new-none.ensures
    (subst (λ rs. HaveSameNodes (nodes_in c.in_ok-ends.ends) (nodes_in c.new-none.result ++ flat_map (λ r. r.a ∷ r.b ∷ []) rs)) c.as_slice-2.ensures c.in_ok-ends.ensures))
