use Rattle.std.proofs.Common.{drop}
use Rattle.timing_rules.specs.SizeAdvice.{same_candidate}
use Rattle.size_advice.proofs.OnceLaws.{IsSoFar}
use Rattle.size_advice.proofs.candidates.once.Given as goal

abbrev pub invariant-loop-candidate : goal.invariant-loop-candidate
invariant-loop-candidate l = IsSoFar same_candidate l.candidates (drop l.candidate-index l.candidates) l.made
