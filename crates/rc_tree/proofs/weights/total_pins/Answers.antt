use Rattle.std.proofs.Common.{◌∙◌}
use Rattle.timing_defs.specs.declared.rows.PinCap.{PinCap}
use Rattle.rc_tree.proofs.Weighing.{total_more}
use Rattle.rc_tree.proofs.weights.total_pins.Goals as goal

pub loop-pin-preserved : goal.loop-pin-preserved
loop-pin-preserved c =
    total_more (λ (p : PinCap). p.cap.0) c.args.pins.now c.loop-pin.pin-index c.pin-item.result c.loop-pin.total c.from-total.result c.requires c.loop-pin-test.true c.pin-item.is (c.from-total.ensures ∙ c.amount.ensures) c.loop-pin.invariant
