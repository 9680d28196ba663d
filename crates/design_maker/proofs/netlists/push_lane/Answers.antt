use Rattle.design_maker.proofs.Steps.{lane_whole}
use Rattle.design_maker.proofs.netlists.push_lane.Goals as goal

pub returns-clause-text : goal.returns-clause-text
returns-clause-text c =
    rw (c.in_ok-push_registers.ensures, c.in_ok-x.ensures.text, c.in_ok-push_first.ensures)
    (lane_whole c.args.lane c.args.gates c.args.start c.args.out.now.items)
