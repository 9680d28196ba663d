-- The value is tested as it was interpolated.
use Rattle.std.proofs.Common.{rules, FitsSigned, ◌≡◌, false, refl, subst, to_z, of_z, ◌∙◌, w64, MatchResult}
use Rattle.std.proofs.lemmas.Int.{to_z-of_z}
use Rattle.sta_units.specs.Numbers.{is_within}
use Rattle.timing_defs.specs.Lookup.{look}
use Rattle.nldm_lookup.proofs.lookups.look_up.Goals as goal
use mir.Syntax.{w128}

pub returns-clause-value : goal.returns-clause-value
returns-clause-value c =
    let x-fits : FitsSigned w64 c.args.x = c.ranges.x in
    let y-fits : FitsSigned w64 c.args.y = c.ranges.y in
    let fits : FitsSigned w128 c.interpolated.result = search rules in
    let kept : to_z w128 (of_z w128 c.interpolated.result) ≡ c.interpolated.result = simp to_z-of_z refl in
    let met : c.interpolated.result ≡ look c.args.t.now c.args.x c.args.y = simp to_z-of_z at c.interpolated.ensures in
    subst (λ z. MatchResult c.in_range.result (λ v. v ≡ z) (λ _. is_within z ≡ false)) (kept ∙ met) c.in_range.ensures.value
