use Rattle.std.proofs.Common.{Ok}
use Rattle.std.specs.Fn.{FnReturnsAt}
use Rattle.level_workers.specs.Parts.{AreRuns}
use Rattle.level_workers.proofs.mapping.map_blocks.Given as goal

abbrev pub invariant-loop-turn : goal.invariant-loop-turn
invariant-loop-turn g l = AreRuns (λ x r. FnReturnsAt g.F.Fn l.f x (Ok r)) l.items l.all.items
