use Rattle.std.proofs.Common.{map, filter, ap, ◌∙◌, arith}
use Rattle.timing_defs.specs.Netlist.{pins, is_on}
use Rattle.timing_defs.specs.Wires.{root_node}
use Rattle.design_link.specs.Nodes.{is_node}
use Rattle.design_link.proofs.NetNodeLaws.{rc_net, not_lumped, lumped_nodes}
use Rattle.design_link.proofs.net_nodes.lumped_nodes.Goals as goal

pub returns-then-len-gt0 : goal.returns-then-len-gt0
returns-then-len-gt0 c = λ q.
    ap (λ ns. is_node ns q)
    (c.new.ensures ∙ not_lumped c.args.rc.now (map root_node (filter (is_on c.args.rc.now.net) (pins c.args.store.now.design)))
    (omega (arith, c.if-len-gt0.true, c.len.ensures)))

pub returns : goal.returns
returns c = λ q.
    c.in_ok-nodes.ensures c.args.rc.now.net (rc_net c.args.store.now c.args.net c.args.rc.now c.requires.rc).here q
    ∙ ap (λ ns. is_node ns q) (lumped_nodes c.args.rc.now (map root_node (filter (is_on c.args.rc.now.net) (pins c.args.store.now.design)))
    (omega (arith, c.if-len-gt0.false, c.len.ensures)))
