use Rattle.std.proofs.Common.{get_or, refl, ◌∙◌, rules, arith}
use Rattle.arrival_engine.proofs.UpdatedLaws.{pins_emptied}
use Rattle.arrival_engine.proofs.updates.empty_pins.Goals as goal

pub empty_pin-requires : goal.empty_pin-requires
empty_pin-requires c = λ pin low.
    let long = c.loop-pin.invariant.long in
    let high = c.requires pin (omega (arith, low, long)) in
    omega (arith, high, long)

pub loop-pin-preserved : goal.loop-pin-preserved
loop-pin-preserved c = record {
  long = c.in_ok-empty_pin.ensures.long ∙ c.loop-pin.invariant.long;
  rows = λ n low. pins_emptied c.loop-pin.rows c.empty_pin.new.rows c.args.rows.now c.args.pins.now c.loop-pin.pin-index (get_or c.args.pins.now c.loop-pin.pin-index 0) n (search rules) refl
      (c.in_ok-empty_pin.ensures.rows n (let long = c.loop-pin.invariant.long in omega (arith, low, long))) (c.loop-pin.invariant.rows n low);
}
