use Rattle.std.proofs.Common.{map, ap, subst, ◌∙◌}
use Rattle.std.proofs.lemmas.List.{take_all}
use Rattle.design_link.specs.Nodes.{nodes_in, is_node, HaveSameNodes}
use Rattle.design_link.proofs.NetPinLaws.{pins_on_net}
use Rattle.design_link.proofs.NetNodeLaws.{pin_node, pin_nodes_more, on_nodes}
use Rattle.design_link.proofs.net_nodes.pin_nodes.Goals as goal

pub loop-pin-init : goal.loop-pin-init
loop-pin-init c = λ q. ap (λ ns. is_node ns q) c.new-nodes.ensures

pub loop-pin-preserved : goal.loop-pin-preserved
loop-pin-preserved c =
    pin_nodes_more c.args.store.now c.pins_on-pin-items.result.now c.loop-pin.pin-index c.pin_name.result.now (nodes_in c.loop-pin.nodes) (nodes_in c.in_ok-nodes.nodes)
    c.loop-pin-test.true c.pin_name.ensures c.loop-pin.invariant c.in_ok-nodes.ensures

pub returns : goal.returns
returns c = λ name here q.
    (subst (λ xs. HaveSameNodes (nodes_in c.loop-pin.nodes) (map (pin_node c.args.store.now) xs))
    (take_all c.loop-pin.pin-index c.pins_on-pin-items.result.now c.loop-pin-test.false) c.loop-pin.invariant) q
    ∙ on_nodes c.args.store.now c.laws.ensures.numbered c.laws.ensures.linked c.args.net name c.pins_on-pin-items.result.now here
    (pins_on_net c.args.store.now c.args.net c.pins_on-pin-items.result.now c.pins_on-pin-items.ensures.counts c.pins_on-pin-items.ensures.numbers
    c.pins_on-pin-items.ensures.on c.pins_on-pin-items.ensures.all) q
