use Rattle.std.proofs.Common.{get_or}
use Rattle.std.proofs.lemmas.List.{get_or_default}
use Rattle.affected_cone.specs.Analysed.{IsEnd}
use Rattle.affected_cone.proofs.RenewedEnds.{map_put}
use Rattle.affected_cone.proofs.end_updates.each_slacks.Goals as goal

pub end_after-requires-clause-pin : goal.end_after-requires-clause-pin
end_after-requires-clause-pin c = c.requires.ends c.loop-pin.pin-index _ c.loop-pin-test.true

pub loop-pin-preserved : goal.loop-pin-preserved
loop-pin-preserved c =
    map_put (IsEnd c.args.weighed.now.search.now.store.now) c.args.ends.now c.loop-pin.found c.push.new.self c.loop-pin.pin-index (get_or c.args.ends.now c.loop-pin.pin-index 0) c.in_ok-end_after.field-0
    c.loop-pin-test.true (get_or_default c.args.ends.now c.loop-pin.pin-index 0 _ c.loop-pin-test.true) c.loop-pin.invariant c.in_ok-end_after.ensures c.in_ok-push.ensures.ok
