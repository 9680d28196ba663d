use Rattle.std.proofs.Common.{◌≤◌, ◌<◌, sym, ◌∙◌, arith}
use Rattle.design_maker.proofs.Steps.{scripts_less, scripts_none}
use Rattle.design_maker.proofs.sessions.scripts.Goals as goal

pub loop-lane-preserved : goal.loop-lane-preserved
loop-lane-preserved c =
    let below : c.loop-lane.lane < 4 = omega (arith, c.loop-lane-test.true) in
    rw (c.in_ok-push.ensures.ok, c.in_ok-text.ensures.0, c.in_ok-text.ensures.1)
    (scripts_less c.loop-lane.lane c.args.gates c.args.edits c.loop-lane.x c.loop-lane.all below ∙ c.loop-lane.invariant)

pub returns : goal.returns
returns c =
    let high : 4 ≤ c.loop-lane.lane = omega (arith, c.loop-lane-test.false) in
    sym (scripts_none c.loop-lane.lane c.args.gates c.args.edits c.loop-lane.x c.loop-lane.all high) ∙ c.loop-lane.invariant
