use Rattle.std.proofs.Common.{◌∙◌, ap, sym, arith, get_or}
use Rattle.std.proofs.lemmas.List.Elements.{Contains-get_or}
use Rattle.design_link.specs.Nodes.{is_node, nodes_in}
use Rattle.design_link.proofs.NetPinLaws.{pins_on_net}
use Rattle.design_link.proofs.NetNodeLaws.{node_at_number}
use Rattle.design_link.proofs.RcPinLaws.{pins_more, all_pins_pass, one_pin_fails}
use Rattle.design_link.proofs.rc_pins.are_pins_in.Goals as goal

pub loop-pin-preserved : goal.loop-pin-preserved
loop-pin-preserved c =
    pins_more c.args.store.now c.pins_on-pin-items.result.now (is_node (nodes_in c.args.ends.now)) c.loop-pin.pin-index c.pin_name.result.now c.loop-pin.invariant c.pin_name.ensures
    (sym c.has_pin.ensures ∙ c.if-not-has_pin.false)

pub returns-then-not-has_pin : goal.returns-then-not-has_pin
returns-then-not-has_pin c = λ word here.
    one_pin_fails c.args.store.now c.laws.ensures.numbered c.laws.ensures.linked c.args.net c.pins_on-pin-items.result.now (is_node (nodes_in c.args.ends.now)) word
    (pins_on_net c.args.store.now c.args.net c.pins_on-pin-items.result.now c.pins_on-pin-items.ensures.counts c.pins_on-pin-items.ensures.numbers
    c.pins_on-pin-items.ensures.on c.pins_on-pin-items.ensures.all) here (get_or c.pins_on-pin-items.result.now c.loop-pin.pin-index 0)
    (Contains-get_or c.pins_on-pin-items.result.now c.loop-pin.pin-index 0 c.loop-pin-test.true)
    (ap (is_node (nodes_in c.args.ends.now)) (sym (node_at_number c.args.store.now (get_or c.pins_on-pin-items.result.now c.loop-pin.pin-index 0) c.pin_name.result.now c.pin_name.ensures))
    ∙ sym c.has_pin.ensures ∙ c.if-not-has_pin.true)

pub returns : goal.returns
returns c = λ word here.
    all_pins_pass c.args.store.now c.laws.ensures.numbered c.laws.ensures.linked c.args.net c.pins_on-pin-items.result.now (is_node (nodes_in c.args.ends.now)) word
    (pins_on_net c.args.store.now c.args.net c.pins_on-pin-items.result.now c.pins_on-pin-items.ensures.counts c.pins_on-pin-items.ensures.numbers
    c.pins_on-pin-items.ensures.on c.pins_on-pin-items.ensures.all) here
    (λ k l. c.loop-pin.invariant k (omega (arith, l, c.loop-pin-test.false)))
