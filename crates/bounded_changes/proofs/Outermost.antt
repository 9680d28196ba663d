-- The outermost of some times is beyond each of them.

use Rattle.std.proofs.Common.{◌≡◌, ℤ, List, [], ◌∷◌, Option, None, Some, sym, ap, subst, ◌∙◌, inl, inr, arith}
use Rattle.std.specs.List.{Contains}
use Rattle.std.proofs.lemmas.Int.{ints, clamps}
use Rattle.timing_defs.specs.declared.kinds.Split.{Split}
use Rattle.timing_defs.specs.declared.kinds.Split.TheVariants.{Early, Late}
use Rattle.timing_rules.specs.Rows.{outer_some, outermost}
use Rattle.timing_defs.proofs.Members.{none_in, in_cases}
use Rattle.bounded_changes.specs.Carried.{IsBeyond}

pub keep_beyond : (split : Split) (o p : Option ℤ) (t : ℤ) → IsBeyond split o t → IsBeyond split (outer_some split o p) t
keep_beyond split None p t h = absurd h
keep_beyond split (Some x) None t h = h
keep_beyond Early (Some x) (Some y) t h = omega (arith, ints, clamps, h)
keep_beyond Late (Some x) (Some y) t h = omega (arith, ints, clamps, h)

pub add_beyond : (split : Split) (o p : Option ℤ) (t : ℤ) → IsBeyond split p t → IsBeyond split (outer_some split o p) t
add_beyond split None p t h = h
add_beyond split (Some x) None t h = absurd h
add_beyond Early (Some x) (Some y) t h = omega (arith, ints, clamps, h)
add_beyond Late (Some x) (Some y) t h = omega (arith, ints, clamps, h)

pub self_beyond : (split : Split) (t : ℤ) → IsBeyond split (Some t) t
self_beyond Early t = omega (arith, ints)
self_beyond Late t = omega (arith, ints)

module _ {X : Type 0} (split : Split) (f : X → Option ℤ) (t : ℤ) where
  pub keep_all : (xs : List X) (o : Option ℤ) → IsBeyond split o t → IsBeyond split (outermost split f o xs) t
  keep_all [] o h = h
  keep_all (x ∷ xs) o h = keep_all xs (outer_some split o (f x)) (keep_beyond split o (f x) t h)

  pub each_beyond : (xs : List X) (o : Option ℤ) (x : X) → Contains xs x → f x ≡ Some t → IsBeyond split (outermost split f o xs) t
  each_beyond [] o x c e = absurd (none_in x c)
  each_beyond (y ∷ ys) o x c e = elim (in_cases y ys x c) [
    | inl same ↦
        keep_all ys (outer_some split o (f y))
        (add_beyond split o (f y) t (subst (λ (p : Option ℤ). IsBeyond split p t) (sym (ap f same ∙ e)) (self_beyond split t)))
    | inr later ↦ each_beyond ys (outer_some split o (f y)) x later e
  ]
