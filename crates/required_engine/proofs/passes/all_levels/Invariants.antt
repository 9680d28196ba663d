use Rattle.std.proofs.Common.{◌≤◌, length}
use Rattle.required_engine.specs.Worked.{AreDoneFrom}
use Rattle.required_engine.proofs.passes.all_levels.Given as goal

abbrev pub invariant-loop-left : goal.invariant-loop-left
invariant-loop-left g l = AreDoneFrom l.graph l.rows l.left × (l.left ≤ length l.levels)

abbrev pub decreases-loop-left : goal.decreases-loop-left
decreases-loop-left g l = l.left
