use Rattle.std.proofs.Common.{◌≡◌, map, take}
use Rattle.size_advice.specs.Keeping.{advice_of}
use Rattle.size_advice.proofs.advising.advices_of.Given as goal

abbrev pub invariant-loop-one : goal.invariant-loop-one
invariant-loop-one l = l.rows ≡ map advice_of (take l.one-index l.found)
