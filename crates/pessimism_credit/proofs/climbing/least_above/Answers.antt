use Rattle.std.proofs.Common.{◌≤ℤ◌, pos, ap, sym, subst, ◌∙◌, arith}
use Rattle.std.proofs.lemmas.Int.{ints}
use Rattle.std.specs.Int.{int_min}
use Rattle.pessimism_credit.specs.Credit.{root_path, least_over}
use Rattle.pessimism_credit.proofs.Climbs.{above}
use Rattle.pessimism_credit.proofs.Lowest.{least_more, least_start, min_low}
use Rattle.pessimism_credit.proofs.climbing.least_above.Goals as goal

pub loop-at-init : goal.loop-at-init
loop-at-init c = (least_start c.args.rows.now (root_path c.args.rows.now c.args.n), omega (arith, ints))

pub loop-at-preserved : goal.loop-at-preserved
loop-at-preserved c = (
  ap (λ x. int_min x (least_over c.args.rows.now (above c.args.rows.now c.parent_at-at.result))) c.lesser-least.ensures
      ∙ ap (λ x. int_min (int_min c.loop-at.least.0 x) (least_over c.args.rows.now (above c.args.rows.now c.parent_at-at.result))) c.pessimism_in.ensures
      ∙ least_more c.args.rows.now c.in-Some.place c.parent_at-at.result c.loop-at.least.0 c.requires (sym c.parent_at-at.ensures)
      ∙ ap (λ o. int_min c.loop-at.least.0 (least_over c.args.rows.now (above c.args.rows.now o))) (sym c.in-Some.is)
      ∙ c.loop-at.invariant.0,
  subst (λ x. x ≤ℤ pos 0) (sym c.lesser-least.ensures) (min_low c.loop-at.least.0 c.pessimism_in.result.0 c.loop-at.invariant.1),
)
