use Rattle.std.proofs.Common.{◌≤◌, length, take}
use Rattle.std.specs.Prelude.{All}
use Rattle.through_walks.proofs.searching.stage_count.Given as goal

abbrev pub invariant-loop-stage : goal.invariant-loop-stage
invariant-loop-stage l = All (λ s. s ≤ length l.stops) (take l.stage-index l.begun)
