use Rattle.std.specs.Arc.{arc_value}
use Rattle.session_engine.proofs.Sights.{same_then, tried_moved}
use Rattle.session_engine.proofs.commands.change.Goals as goal

pub loop-preserved : goal.loop-preserved
loop-preserved g c =
    let t = tried_moved c.args.who c.args.seat.now.view c.loop.seat.view c.try_once.new.seat.view (arc_value c.loop.base) c.args.eco.now
    c.loop.invariant.holds c.loop.invariant.saw c.in_ok-held.field-0 c.in-Moved.newest c.in_ok-held.ensures.tried c.in-Moved.is in
    record {
      same = same_then c.args.seat.now c.loop.seat c.try_once.new.seat c.loop.invariant.same c.in_ok-held.ensures.same;
      saw = t.0;
      holds = t.1;
    }
