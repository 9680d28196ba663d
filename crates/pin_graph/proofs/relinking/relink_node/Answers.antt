use Rattle.std.proofs.Common.{◌∙◌, ℕ, length, ap, subst}
use Rattle.pin_graph.specs.Nodes.{node_bound, node_number}
use Rattle.pin_graph.specs.Relinking.{IsPutNode}
use Rattle.pin_graph.specs.Graphs.{fan_at}
use Rattle.pin_graph.proofs.MergeLaws.{ok_map}
use Rattle.pin_graph.proofs.RelinkLaws.{both_as, node_below_as, joined_low_as, relinked_same, relinked_put}
use Rattle.pin_graph.proofs.relinking.relink_node.Goals as goal

pub at-requires-clause-fans : goal.at-requires-clause-fans
at-requires-clause-fans c = (both_as (node_bound c.args.store.now) c.args.ins.now c.args.outs.now c.requires.both).in_fan

pub at-requires-clause-node : goal.at-requires-clause-node
at-requires-clause-node c =
    node_below_as c.args.store.now c.laws.ensures.numbered c.laws.ensures.linked c.args.network.now c.args.pin c.args.tran c.requires.pin
    (length c.args.ins.now.later) c.node_number-node.result c.requires.both.in_fan.count c.node_number-node.ensures.number

pub put_node-requires-clause-both : goal.put_node-requires-clause-both
put_node-requires-clause-both c = both_as (node_bound c.args.store.now) c.args.ins.now c.args.outs.now c.requires.both

pub put_node-requires-clause-node : goal.put_node-requires-clause-node
put_node-requires-clause-node c =
    node_below_as c.args.store.now c.laws.ensures.numbered c.laws.ensures.linked c.args.network.now c.args.pin c.args.tran c.requires.pin
    (length c.args.ins.now.later) c.node_number-node.result c.requires.both.in_fan.count c.node_number-node.ensures.number

pub put_node-requires-clause-within : goal.put_node-requires-clause-within
put_node-requires-clause-within c =
    joined_low_as c.args.store.now c.laws.ensures.numbered c.laws.ensures.linked c.args.network.now c.args.pin c.args.tran c.requires.pin
    (length c.args.ins.now.later) c.node_number-node.result c.requires.both.in_fan.count c.node_number-node.ensures.number c.in_ok-arcs.arcs c.in_ok-arcs.ensures

pub put_node-requires-clause-once : goal.put_node-requires-clause-once
put_node-requires-clause-once c = c.in_ok-arcs.ensures.once

pub returns : goal.returns
returns c =
    ok_map c.put_node.result
    (λ put. relinked_put c.args.store.now c.args.network.now (length c.args.ins.now.later) (node_number c.args.pin c.args.tran) c.args.ins.now c.put_node.new.ins c.put_node.new.outs
    c.in_ok-arcs.arcs c.requires.both.in_fan.count c.in_ok-arcs.ensures
    (subst (λ (k : ℕ). IsPutNode (length c.args.ins.now.later) k c.in_ok-arcs.arcs c.args.ins.now c.put_node.new.ins c.put_node.new.outs) c.node_number-node.ensures.number put))
    c.put_node.ensures

pub returns-then-same_arcs : goal.returns-then-same_arcs
returns-then-same_arcs c =
    relinked_same c.args.store.now c.args.network.now (node_number c.args.pin c.args.tran) c.args.ins.now c.args.outs.now c.at.result.now c.in_ok-arcs.arcs c.requires.both
    c.in_ok-arcs.ensures (c.at.ensures ∙ ap (fan_at c.args.ins.now) c.node_number-node.ensures.number) (c.same_arcs.ensures c.if-same_arcs.true ∙ c.as_slice.ensures)
