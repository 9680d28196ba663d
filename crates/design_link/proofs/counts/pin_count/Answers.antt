use Rattle.std.proofs.Common.{◌+◌, ◌∙◌, ap, arith, if◌then◌else◌}
use Rattle.design_link.proofs.CountLaws.{count_more, pins_counted}
use Rattle.design_link.proofs.counts.pin_count.Goals as goal

pub loop-pin-preserved : goal.loop-pin-preserved
loop-pin-preserved c = record {
  is =
      count_more c.args.store.now.pins c.loop-pin.pin c.loop-pin.count (c.loop-pin.count + c.one_if-count.result) c.loop-pin.invariant.is
      (ap (λ n. c.loop-pin.count + n) (c.one_if-count.ensures.value ∙ ap (λ b. if b then 1 else 0) c.has_pin.ensures));
  low = omega (arith, c.loop-pin.invariant.low, c.one_if-count.ensures.small);
}

pub returns : goal.returns
returns c =
    pins_counted c.args.store.now c.laws.ensures.numbered c.laws.ensures.linked c.loop-pin.pin c.loop-pin.count
    (omega (arith, c.loop-pin-test.false, c.loop-pin.auto.pin-end, c.pin_bound-pin-end.ensures.bound)) c.loop-pin.invariant.is
