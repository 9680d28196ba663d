use Rattle.std.proofs.Common.{◌<◌, rules}
use Rattle.std.specs.Arc.{arc_value}
use Rattle.session_engine.proofs.Sights.{same_then, wait_more, wait_reached}
use Rattle.session_engine.proofs.commands.wait.Goals as goal

pub loop-at-preserved : goal.loop-at-preserved
loop-at-preserved g c =
    let t = wait_more c.args.seat.now.view c.loop-at.seat.view c.look.new.seat.view c.loop-at.seen c.push.new.self
    (arc_value c.args.held).number c.args.number (arc_value c.loop-at.newest).number (arc_value c.in_ok-newest.newest).number c.number-found.result c.loop-at.at
    c.loop-at.invariant.saw c.loop-at.invariant.looks c.loop-at.invariant.long c.in_ok-newest.ensures.saw c.in_ok-newest.ensures.rises (search rules)
    c.if-number-found.false c.in_default.ensures.ok in
    record {
      same = same_then c.args.seat.now c.loop-at.seat c.look.new.seat c.loop-at.invariant.same c.in_ok-newest.ensures.same;
      saw = t.0;
      holds = c.in_ok-newest.ensures.holds;
      looks = t.1;
      long = t.2;
    }

pub returns-then-number-found-clause-waits : goal.returns-then-number-found-clause-waits
returns-then-number-found-clause-waits g c =
    let few : c.loop-at.at < c.args.looks = search rules in
    wait_reached c.args.seat.now.view c.loop-at.seat.view c.look.new.seat.view c.loop-at.seen (arc_value c.args.held).number c.args.number (arc_value c.loop-at.newest).number
    (arc_value c.in_ok-newest.newest).number c.number-found.result c.loop-at.at c.args.looks
    c.loop-at.invariant.saw c.loop-at.invariant.looks c.loop-at.invariant.long few c.in_ok-newest.ensures.saw c.in_ok-newest.ensures.rises (search rules) c.if-number-found.true
