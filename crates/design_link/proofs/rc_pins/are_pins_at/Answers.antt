use Rattle.std.proofs.Common.{◌∙◌, ap, sym, arith, get_or}
use Rattle.std.proofs.lemmas.List.Elements.{Contains-get_or}
use Rattle.design_link.proofs.NetPinLaws.{pins_on_net}
use Rattle.design_link.proofs.NetNodeLaws.{node_at_number}
use Rattle.design_link.proofs.RcPinLaws.{is_end, pins_more, all_pins_pass, one_pin_fails}
use Rattle.design_link.proofs.rc_pins.are_pins_at.Goals as goal

pub loop-pin-preserved : goal.loop-pin-preserved
loop-pin-preserved c =
    pins_more c.args.store.now c.pins_on-pin-items.result.now (is_end c.args.ress.now) c.loop-pin.pin-index c.pin_name.result.now c.loop-pin.invariant c.pin_name.ensures
    (sym c.is_at_end.ensures ∙ c.if-not-is_at_end.false)

pub returns-then-not-is_at_end : goal.returns-then-not-is_at_end
returns-then-not-is_at_end c = λ word here.
    one_pin_fails c.args.store.now c.laws.ensures.numbered c.laws.ensures.linked c.args.net c.pins_on-pin-items.result.now (is_end c.args.ress.now) word
    (pins_on_net c.args.store.now c.args.net c.pins_on-pin-items.result.now c.pins_on-pin-items.ensures.counts c.pins_on-pin-items.ensures.numbers
    c.pins_on-pin-items.ensures.on c.pins_on-pin-items.ensures.all) here (get_or c.pins_on-pin-items.result.now c.loop-pin.pin-index 0)
    (Contains-get_or c.pins_on-pin-items.result.now c.loop-pin.pin-index 0 c.loop-pin-test.true)
    (ap (is_end c.args.ress.now) (sym (node_at_number c.args.store.now (get_or c.pins_on-pin-items.result.now c.loop-pin.pin-index 0) c.pin_name.result.now c.pin_name.ensures))
    ∙ sym c.is_at_end.ensures ∙ c.if-not-is_at_end.true)

pub returns : goal.returns
returns c = λ word here.
    all_pins_pass c.args.store.now c.laws.ensures.numbered c.laws.ensures.linked c.args.net c.pins_on-pin-items.result.now (is_end c.args.ress.now) word
    (pins_on_net c.args.store.now c.args.net c.pins_on-pin-items.result.now c.pins_on-pin-items.ensures.counts c.pins_on-pin-items.ensures.numbers
    c.pins_on-pin-items.ensures.on c.pins_on-pin-items.ensures.all) here
    (λ k l. c.loop-pin.invariant k (omega (arith, l, c.loop-pin-test.false)))
