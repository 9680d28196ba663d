use Rattle.std.proofs.Common.{◌≡◌, true, false, sym, ◌∙◌}
use Rattle.slack_summaries.specs.Registers.{clocks_pin}
use Rattle.affected_cone.proofs.RisingLists.{passing_more, passing_same}
use Rattle.slack_summaries.proofs.registers.register_pins.Goals.{then-clocks_pin+in_ok-push, else-clocks_pin}
use Rattle.slack_summaries.proofs.registers.register_pins.Goals as goal

pub loop-pin-preserved : goal.loop-pin-preserved
loop-pin-preserved c = elim c.if-clocks_pin.branch [
  | then-clocks_pin+in_ok-push w ↦
      let passes : clocks_pin c.args.store.now c.loop-pin.pin ≡ true = sym c.clocks_pin.ensures ∙ w.if-clocks_pin.true in
      passing_more (clocks_pin c.args.store.now) c.loop-pin.pin c.loop-pin.pins c.if-clocks_pin.pins c.loop-pin.invariant passes (cc (w.pins-is, w.in_ok-push.ensures.ok))
  | else-clocks_pin w ↦
      let fails : clocks_pin c.args.store.now c.loop-pin.pin ≡ false = sym c.clocks_pin.ensures ∙ w.if-clocks_pin.false in
      w.pins-is ∙ passing_same (clocks_pin c.args.store.now) c.loop-pin.pin c.loop-pin.pins c.loop-pin.invariant fails
]
