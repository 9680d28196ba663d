use Rattle.pin_graph.proofs.MergeLaws.{ok_map}
use Rattle.pin_graph.proofs.RelinkLaws.{pin_relinked}
use Rattle.pin_graph.proofs.relinking.relink_pin.Goals as goal

pub returns : goal.returns
returns c =
    ok_map c.relink_node-2.result
    (λ fall. pin_relinked c.args.store.now c.args.network.now c.args.pin c.args.ins.now c.relink_node.new.ins c.relink_node-2.new.ins c.relink_node.new.outs c.relink_node-2.new.outs
    c.in_ok-relink_node.ensures fall)
    c.relink_node-2.ensures

pub relink_node-requires-2-clause-both : goal.relink_node-requires-2-clause-both
relink_node-requires-2-clause-both c = c.in_ok-relink_node.ensures.both
