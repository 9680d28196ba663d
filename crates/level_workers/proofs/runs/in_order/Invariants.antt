use Rattle.std.proofs.Common.{Ok}
use Rattle.std.specs.Fn.{FnReturnsAt}
use Rattle.level_workers.proofs.Pile.{IsFar}
use Rattle.level_workers.proofs.runs.in_order.Given as goal

abbrev pub invariant-loop-run : goal.invariant-loop-run
invariant-loop-run g l = IsFar (λ x r. FnReturnsAt g.F.Fn l.f x (Ok r)) l.items l.at l.all.items l.run-iterator.rest.items
