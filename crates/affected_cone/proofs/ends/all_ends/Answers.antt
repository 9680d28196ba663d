use Rattle.std.proofs.Common.{◌≡◌, true, false, sym, ◌∙◌}
use Rattle.affected_cone.specs.Analysed.{is_end}
use Rattle.affected_cone.proofs.RisingLists.{passing_more, passing_same}
use Rattle.affected_cone.proofs.ends.all_ends.Goals.{then-is_end+in_ok-push, else-is_end}
use Rattle.affected_cone.proofs.ends.all_ends.Goals as goal

pub loop-pin-preserved : goal.loop-pin-preserved
loop-pin-preserved c = elim c.if-is_end.branch [
  | then-is_end+in_ok-push w ↦
      let passes : is_end c.args.store.now c.loop-pin.pin ≡ true = sym c.is_end.ensures ∙ w.if-is_end.true in
      passing_more (is_end c.args.store.now) c.loop-pin.pin c.loop-pin.ends c.if-is_end.ends c.loop-pin.invariant passes (cc (w.ends-is, w.in_ok-push.ensures.ok))
  | else-is_end w ↦
      let fails : is_end c.args.store.now c.loop-pin.pin ≡ false = sym c.is_end.ensures ∙ w.if-is_end.false in
      w.ends-is ∙ passing_same (is_end c.args.store.now) c.loop-pin.pin c.loop-pin.ends c.loop-pin.invariant fails
]
