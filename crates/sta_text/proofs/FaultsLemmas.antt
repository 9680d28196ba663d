use Rattle.std.proofs.Common.{◌≡◌, List, [], ◌∷◌, ◌++◌, true, false, Option, Some, None, cond, refl, subst}
use Rattle.sta_text.specs.declared.faults.Wrong.{Wrong}
use Rattle.sta_text.specs.Faults.{is_before, lesser, least_from}

-- the least of two lists is that of the second, begun with that of the first
pub least_append : (best : Option Wrong) (xs ys : List Wrong) → least_from best (xs ++ ys) ≡ least_from (least_from best xs) ys
unfolding least_from
least_append best [] ys = refl
least_append best (x ∷ xs) ys = least_append (lesser best x) xs ys

lesser_some : (y x : Wrong) → (z : Wrong) × (lesser (Some y) x ≡ Some z)
lesser_some y x =
    elim (is_before x y) as (λ b. (z : Wrong) × (cond b (Some x) (Some y) ≡ Some z)) [ true ↦ (x, refl) | false ↦ (y, refl) ]

-- a list with a fault has a least one
least_some : (y : Wrong) (xs : List Wrong) → least_from (Some y) xs ≡ None → ⊥
unfolding least_from
least_some y [] h = cc
least_some y (x ∷ xs) h =
    let p = lesser_some y x in least_some p.0 xs (subst (λ best. least_from best xs ≡ None) p.1 h)

-- where nothing is the least there is no fault
pub least_none : (xs : List Wrong) → least_from None xs ≡ None → xs ≡ []
unfolding least_from
least_none [] h = refl
least_none (x ∷ xs) h = absurd (least_some x xs h)
