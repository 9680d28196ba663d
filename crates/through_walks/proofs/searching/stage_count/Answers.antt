use Rattle.std.proofs.Common.{◌≤◌, length}
use Rattle.std.proofs.lemmas.List.Elements.{All-more}
use Rattle.through_walks.proofs.Stages.{all_few}
use Rattle.through_walks.proofs.searching.stage_count.Goals as goal

pub loop-stage-preserved : goal.loop-stage-preserved
loop-stage-preserved c =
    All-more (λ s. s ≤ length c.args.stops.now) c.args.begun.now c.loop-stage.stage-index 0 c.loop-stage-test.true c.loop-stage.invariant c.if-stage-last.false

pub returns : goal.returns
returns c = all_few c.args.stops.now c.args.begun.now c.loop-stage.stage-index c.loop-stage.invariant c.loop-stage-test.false
