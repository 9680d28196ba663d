use Rattle.std.proofs.Common.{◌≡◌, None, Some, rules, sym, ap, subst, ◌∙◌, FitsSigned, w64, to_z, of_z}
use Rattle.std.specs.Prelude.{int_lt}
use Rattle.std.proofs.lemmas.Int.{to_z-of_z}
use Rattle.worst_walks.specs.Best.{BestOf}
use Rattle.worst_walks.specs.Searches.{IsSlackTo}
use Rattle.worst_walks.specs.Tables.{least_from}
use Rattle.worst_walks.proofs.Offers.{to_best_as}
use Rattle.worst_walks.proofs.Ties.{to_none}
use Rattle.worst_walks.proofs.searching.worst_to.Goals as goal

pub returns-in-None : goal.returns-in-None
returns-in-None g c =
    to_none (g.O.WalkOrder.rank c.args.order.now) (g.O.WalkOrder.before c.args.order.now) c.args.cone.now c.args.place
    (to_best_as (g.O.WalkOrder.rank c.args.order.now) c.args.cone.now c.args.place c.end_at-end.result.now c.in_ok-rows.rows.items None c.requires.cone c.requires.order.ranked c.end_at-end.ensures.there c.in_ok-rows.ensures
    (c.in-None.ensures ∙ ap (λ rows. least_from rows None c.end_at-end.result.now.launches) c.as_slice.ensures.value))

pub first_tied-requires-clause-least : goal.first_tied-requires-clause-least
first_tied-requires-clause-least g c =
    let fits : FitsSigned w64 c.in-Some.least = search rules in
    let is : to_z w64 (of_z w64 c.in-Some.least) ≡ c.in-Some.least = to_z-of_z w64 c.in-Some.least fits in
    subst (λ s. BestOf int_lt (IsSlackTo c.args.cone.now c.args.place) (Some s)) (sym is)
    (to_best_as (g.O.WalkOrder.rank c.args.order.now) c.args.cone.now c.args.place c.end_at-end.result.now c.in_ok-rows.rows.items (Some c.in-Some.least) c.requires.cone c.requires.order.ranked c.end_at-end.ensures.there c.in_ok-rows.ensures
    (c.in-Some.ensures ∙ ap (λ rows. least_from rows None c.end_at-end.result.now.launches) c.as_slice.ensures.value))
