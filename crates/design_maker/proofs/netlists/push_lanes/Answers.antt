use Rattle.std.proofs.Common.{◌≤◌, ◌<◌, sym, ◌∙◌, arith}
use Rattle.design_maker.proofs.Steps.{lanes_less, lanes_none, behind_less, behind_none}
use Rattle.design_maker.proofs.netlists.push_lanes.Goals as goal

pub loop-lane-preserved : goal.loop-lane-preserved
loop-lane-preserved c =
    let below : c.loop-lane.lane < 4 = omega (arith, c.loop-lane-test.true) in
    record {
      last = rw c.in_ok-x.ensures.last (behind_less c.loop-lane.lane c.args.gates c.loop-lane.x below ∙ c.loop-lane.invariant.last);
      text = rw (c.in_ok-x.ensures.text, c.in_ok-x.ensures.last)
          (lanes_less c.loop-lane.lane c.args.gates c.loop-lane.x c.loop-lane.out.items below ∙ c.loop-lane.invariant.text);
    }

pub returns-clause-last : goal.returns-clause-last
returns-clause-last c =
    let high : 4 ≤ c.loop-lane.lane = omega (arith, c.loop-lane-test.false) in
    sym (behind_none c.loop-lane.lane c.args.gates c.loop-lane.x high) ∙ c.loop-lane.invariant.last

pub returns-clause-text : goal.returns-clause-text
returns-clause-text c =
    let high : 4 ≤ c.loop-lane.lane = omega (arith, c.loop-lane-test.false) in
    sym (lanes_none c.loop-lane.lane c.args.gates c.loop-lane.x c.loop-lane.out.items high) ∙ c.loop-lane.invariant.text
