use Rattle.std.proofs.Common.{ℕ, ◌<◌, map, sym, subst, ◌∙◌}
use Rattle.std.proofs.lemmas.List.{drop_more}
use Rattle.size_advice.specs.Keeping.{advice_of}
use Rattle.size_advice.proofs.Placing.{at_place, next_one}
use Rattle.size_advice.proofs.kept.best_found.Goals as goal

pub loop-place-preserved : goal.loop-place-preserved
loop-place-preserved c =
    next_one c.args.target.kind c.args.target.aim c.args.now c.args.candidates.now c.args.outcomes.now c.loop-place.place c.index-candidates-place.result _
    (map advice_of c.loop-place.kept.items) (map advice_of c.keep_better.new.kept.items)
    (at_place c.args.candidates.now c.loop-place.place c.index-candidates-place.result c.loop-place-test.true c.index-candidates-place.is)
    (drop_more c.args.outcomes.now c.loop-place.place _ (subst (λ (n : ℕ). c.loop-place.place < n) (sym c.requires) c.loop-place-test.true))
    c.in_ok-keep_better.ensures
    ∙ c.loop-place.invariant
