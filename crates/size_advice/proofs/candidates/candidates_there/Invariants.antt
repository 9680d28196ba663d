use Rattle.std.proofs.Common.{◌≡◌, drop}
use Rattle.timing_defs.specs.Wires.{first_some}
use Rattle.timing_rules.specs.Closing.{unknown_candidate}
use Rattle.size_advice.proofs.candidates.candidates_there.Given as goal

abbrev pub invariant-loop-candidate : goal.invariant-loop-candidate
invariant-loop-candidate l =
    first_some (unknown_candidate l.store.design) (drop l.candidate-index l.candidates) ≡ first_some (unknown_candidate l.store.design) l.candidates
