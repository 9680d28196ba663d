use Rattle.std.proofs.Common.{◌≡◌, [], drop, map}
use Rattle.timing_rules.specs.SizeAdvice.{advised_before, improving}
use Rattle.size_advice.specs.Keeping.{advice_of, kept_by}
use Rattle.size_advice.proofs.kept.best_found.Given as goal

abbrev pub invariant-loop-place : goal.invariant-loop-place
invariant-loop-place l =
    kept_by (advised_before l.target.kind l.target.aim) 5 (map advice_of l.kept.items)
    (improving l.target.kind l.target.aim l.now (drop l.place l.candidates) (drop l.place l.outcomes))
    ≡ kept_by (advised_before l.target.kind l.target.aim) 5 [] (improving l.target.kind l.target.aim l.now l.candidates l.outcomes)
