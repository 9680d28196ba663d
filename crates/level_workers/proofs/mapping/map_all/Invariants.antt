use Rattle.std.proofs.Common.{Ok}
use Rattle.std.specs.Fn.{FnReturnsAt}
use Rattle.level_workers.specs.Parts.{AreRuns}
use Rattle.level_workers.proofs.mapping.map_all.Given as goal

abbrev pub invariant-loop-k : goal.invariant-loop-k
invariant-loop-k g l = AreRuns (λ x r. FnReturnsAt g.F.Fn l.f x (Ok r)) l.items l.all.items
