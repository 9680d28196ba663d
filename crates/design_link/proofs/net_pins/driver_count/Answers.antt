use Rattle.std.proofs.Common.{◌+◌, ◌∙◌, filter, length, ap, arith, if◌then◌else◌}
use Rattle.std.proofs.lemmas.List.{take_all}
use Rattle.store_pins.specs.Drivers.{drives_at}
use Rattle.design_link.proofs.NetPinLaws.{pins_on_net, driving_more, drivers_counted}
use Rattle.design_link.proofs.net_pins.driver_count.Goals as goal

pub loop-pin-preserved : goal.loop-pin-preserved
loop-pin-preserved c = record {
  is =
      driving_more c.args.store.now c.pins_on-pin-items.result.now c.loop-pin.pin-index c.loop-pin.count (c.loop-pin.count + c.one_if-count.result) c.loop-pin-test.true
      c.loop-pin.invariant.is (ap (λ n. c.loop-pin.count + n) (c.one_if-count.ensures.value ∙ ap (λ b. if b then 1 else 0) c.is_driving.ensures));
  low = omega (arith, c.loop-pin.invariant.low, c.one_if-count.ensures.small);
}

pub returns : goal.returns
returns c =
    drivers_counted c.args.store.now c.laws.ensures.numbered c.laws.ensures.linked c.args.net c.loop-pin.count c.pins_on-pin-items.result.now c.requires
    (pins_on_net c.args.store.now c.args.net c.pins_on-pin-items.result.now c.pins_on-pin-items.ensures.counts c.pins_on-pin-items.ensures.numbers
    c.pins_on-pin-items.ensures.on c.pins_on-pin-items.ensures.all)
    (c.loop-pin.invariant.is ∙ ap (λ xs. length (filter (drives_at c.args.store.now) xs)) (take_all c.loop-pin.pin-index c.pins_on-pin-items.result.now c.loop-pin-test.false))
