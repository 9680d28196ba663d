use Rattle.std.proofs.Common.{take, Ok}
use Rattle.std.specs.Fn.{FnReturnsAt}
use Rattle.level_workers.specs.Parts.{IsMapOnto}
use Rattle.level_workers.proofs.runs.map_onto.Given as goal

abbrev pub invariant-loop-item : goal.invariant-loop-item
invariant-loop-item g l = IsMapOnto (λ x r. FnReturnsAt g.F.Fn l.f x (Ok r)) l.fn.before (take l.item-index l.items) l.results
