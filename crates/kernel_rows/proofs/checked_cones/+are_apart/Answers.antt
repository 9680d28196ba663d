use Rattle.std.proofs.Common.{◌≡◌, false, ◌==◌, List, [], ◌∷◌, drop, get_or, sym, subst, ◌∙◌}
use Rattle.std.specs.List.{list_any}
use Rattle.worst_walks.specs.declared.cones.WalkArc.{WalkArc}
use Rattle.worst_walks.specs.Walks.{AreApart}
use Rattle.kernel_rows.proofs.checked_cones.+are_apart.Goals as goal

apart_more : (arcs others : List WalkArc) (d : WalkArc) → others ≡ drop 1 arcs → list_any (λ arc. arc.from == (get_or arcs 0 d).from) others ≡ false → AreApart others → AreApart arcs
apart_more [] others d e off more = tt
apart_more (first ∷ arcs) others d e off more =
    (subst (λ (xs : List WalkArc). list_any (λ arc. arc.from == first.from) xs ≡ false) e off, subst AreApart e more)

pub returns : goal.returns
returns t c = λ told.
    apart_more c.args.arcs.now c.others-others.result.now _ c.others-others.ensures (sym c.has_from.ensures ∙ c.if-has_from.false) (c.are_apart.ensures told)
