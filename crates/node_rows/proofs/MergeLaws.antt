-- Outermost values and tests over lists depend on no order: lists with the same members give the same.

use Rattle.std.proofs.Common.{◌≡◌, ℤ, Bool, true, false, not, ◌||◌, List, [], ◌∷◌, map, Option, None, Some, refl, sym, ap, subst, ◌∙◌, inl, inr, arith}
use Rattle.std.specs.Prelude.{Contains}
use Rattle.std.specs.List.{cons_option, list_any, list_all, filter_map}
use Rattle.std.proofs.lemmas.Bool.{cases_Bool, false≢true, and_parts}
use Rattle.std.proofs.lemmas.Int.{ints, clamps}
use Rattle.std.specs.Int.{int_max, int_min}
use Rattle.timing_defs.specs.declared.kinds.Split.{Split}
use Rattle.timing_defs.specs.declared.kinds.Split.TheVariants.{Early, Late}
use Rattle.timing_rules.specs.Rows.{outer_some, outermost}
use Rattle.timing_rules.specs.Range.{within_some}
use Rattle.timing_defs.proofs.ListLemmas.{bool_iff}
use Rattle.timing_defs.proofs.Members.{in_cases, none_in, any_in, any_back, first_in, later_in}
use Rattle.node_rows.proofs.ArcLaws.{outer_some_within}

max_comm : (x y : ℤ) → int_max x y ≡ int_max y x
max_comm x y = omega (arith, ints, clamps)

min_comm : (x y : ℤ) → int_min x y ≡ int_min y x
min_comm x y = omega (arith, ints, clamps)

max_assoc : (x y z : ℤ) → int_max (int_max x y) z ≡ int_max x (int_max y z)
max_assoc x y z = omega (arith, ints, clamps)

min_assoc : (x y z : ℤ) → int_min (int_min x y) z ≡ int_min x (int_min y z)
min_assoc x y z = omega (arith, ints, clamps)

max_same : (x : ℤ) → int_max x x ≡ x
max_same x = omega (arith, ints, clamps)

min_same : (x : ℤ) → int_min x x ≡ x
min_same x = omega (arith, ints, clamps)

comm : (split : Split) (a b : Option ℤ) → outer_some split a b ≡ outer_some split b a
comm split None None = refl
comm split None (Some y) = refl
comm split (Some x) None = refl
comm Early (Some x) (Some y) = ap Some (min_comm x y)
comm Late (Some x) (Some y) = ap Some (max_comm x y)

assoc : (split : Split) (a b c : Option ℤ) → outer_some split (outer_some split a b) c ≡ outer_some split a (outer_some split b c)
assoc split None b c = refl
assoc split (Some x) None c = refl
assoc split (Some x) (Some y) None = refl
assoc Early (Some x) (Some y) (Some z) = ap Some (min_assoc x y z)
assoc Late (Some x) (Some y) (Some z) = ap Some (max_assoc x y z)

same : (split : Split) (a : Option ℤ) → outer_some split a a ≡ a
same split None = refl
same Early (Some x) = ap Some (min_same x)
same Late (Some x) = ap Some (max_same x)

pub outer_none : (split : Split) (a : Option ℤ) → outer_some split a None ≡ a
outer_none split None = refl
outer_none split (Some x) = refl

module _ (split : Split) where
  -- `a` is no further out than `c`
  abbrev Covers : Option ℤ → Option ℤ → Type 0
  Covers c a = outer_some split c a ≡ c

  covers_both : (c a b : Option ℤ) → Covers c a → Covers c b → Covers c (outer_some split a b)
  covers_both c a b h k = sym (assoc split c a b) ∙ ap (λ o. outer_some split o b) h ∙ k

  covers_left : (c a b : Option ℤ) → Covers c (outer_some split a b) → Covers c a
  covers_left c a b h =
      ap (λ o. outer_some split o a) (sym h)
      ∙ assoc split c (outer_some split a b) a
      ∙ ap (outer_some split c) (comm split (outer_some split a b) a ∙ sym (assoc split a a b) ∙ ap (λ o. outer_some split o b) (same split a))
      ∙ h

  covers_right : (c a b : Option ℤ) → Covers c (outer_some split a b) → Covers c b
  covers_right c a b h = covers_left c b a (ap (outer_some split c) (comm split b a) ∙ h)

  module _ {X : Type 0} (v : X → Option ℤ) where
    covers_all : (c best : Option ℤ) (xs : List X) → Covers c best → ((x : X) → Contains xs x → Covers c (v x)) → Covers c (outermost split v best xs)
    covers_all c best [] h all = h
    covers_all c best (x ∷ xs) h all =
        covers_all c (outer_some split best (v x)) xs (covers_both c best (v x) h (all x (first_in x xs))) (λ y k. all y (later_in x xs y k))

    covers_best : (best : Option ℤ) (xs : List X) → Covers (outermost split v best xs) best
    covers_best best [] = same split best
    covers_best best (x ∷ xs) = covers_left (outermost split v (outer_some split best (v x)) xs) best (v x) (covers_best (outer_some split best (v x)) xs)

    covers_member : (best : Option ℤ) (xs : List X) (x : X) → Contains xs x → Covers (outermost split v best xs) (v x)
    covers_member best [] x c = absurd (none_in x c)
    covers_member best (y ∷ ys) x c = elim (in_cases y ys x c) [
      | inl e ↦
          subst (λ (z : X). Covers (outermost split v best (y ∷ ys)) (v z)) e
          (covers_right (outermost split v (outer_some split best (v y)) ys) best (v y) (covers_best (outer_some split best (v y)) ys))
      | inr d ↦ covers_member (outer_some split best (v y)) ys x d
    ]

    pub outermost_within : (best : Option ℤ) (xs : List X) → within_some best ≡ true → list_all (λ x. within_some (v x)) xs ≡ true → within_some (outermost split v best xs) ≡ true
    outermost_within best [] h all = h
    outermost_within best (x ∷ xs) h all =
        let parts = and_parts (within_some (v x)) (list_all (λ y. within_some (v y)) xs) all in
        outermost_within (outer_some split best (v x)) xs (outer_some_within split best (v x) h parts.0) parts.1

  pub outermost_map : {X Y : Type 0} (v : Y → Option ℤ) (f : X → Y) (best : Option ℤ) (xs : List X) → outermost split v best (map f xs) ≡ outermost split (λ x. v (f x)) best xs
  outermost_map v f best [] = refl
  outermost_map v f best (x ∷ xs) = outermost_map v f (outer_some split best (v (f x))) xs

-- each member of one list stands for one of the other
pub record AreMatched {X Y : Type 0} (xs : List X) (ys : List Y) (R : X → Y → Type 0) : Type 0 where
  pub there : (x : X) → Contains xs x → (y : Y) × Contains ys y × R x y
  pub back : (y : Y) → Contains ys y → (x : X) × Contains xs x × R x y

module _ {X Y : Type 0} (xs : List X) (ys : List Y) (R : X → Y → Type 0) (m : AreMatched xs ys R) where
  pub outermost_same : (split : Split) (v : X → Option ℤ) (w : Y → Option ℤ) → ((x : X) (y : Y) → Contains xs x → R x y → v x ≡ w y)
      → outermost split v None xs ≡ outermost split w None ys
  outermost_same split v w alike =
      sym front ∙ comm split (outermost split v None xs) (outermost split w None ys) ∙ behind
    where
      front : outer_some split (outermost split v None xs) (outermost split w None ys) ≡ outermost split v None xs
      front =
          covers_all split w (outermost split v None xs) None ys (outer_none split (outermost split v None xs))
          (λ y c. let x = m.back y c in
          subst (λ (o : Option ℤ). outer_some split (outermost split v None xs) o ≡ outermost split v None xs) (alike x.0 y x.1 x.2) (covers_member split v None xs x.0 x.1))

      behind : outer_some split (outermost split w None ys) (outermost split v None xs) ≡ outermost split w None ys
      behind =
          covers_all split v (outermost split w None ys) None xs (outer_none split (outermost split w None ys))
          (λ x c. let y = m.there x c in
          subst (λ (o : Option ℤ). outer_some split (outermost split w None ys) o ≡ outermost split w None ys) (sym (alike x y.0 c y.2)) (covers_member split w None ys y.0 y.1))

  pub any_same : (p : X → Bool) (q : Y → Bool) → ((x : X) (y : Y) → Contains xs x → R x y → p x ≡ q y) → list_any p xs ≡ list_any q ys
  any_same p q alike =
      bool_iff (list_any p xs) (list_any q ys)
      (λ h. let r = any_back p xs h in let y = m.there r.item r.within in any_in q ys y.0 y.1 (sym (alike r.item y.0 r.within y.2) ∙ r.passes))
      (λ h. let r = any_back q ys h in let x = m.back r.item r.within in any_in p xs x.0 x.1 (alike x.0 r.item x.1 x.2 ∙ r.passes))

pub filter_map_agree : {X Y : Type 0} (f g : X → Option Y) → ((x : X) → f x ≡ g x) → (xs : List X) → filter_map f xs ≡ filter_map g xs
filter_map_agree f g alike [] = refl
filter_map_agree f g alike (x ∷ xs) = ap (λ o. cons_option o (filter_map f xs)) (alike x) ∙ ap (cons_option (g x)) (filter_map_agree f g alike xs)

pub any_agree : {X : Type 0} (p q : X → Bool) → ((x : X) → p x ≡ q x) → (xs : List X) → list_any p xs ≡ list_any q xs
any_agree p q alike [] = refl
any_agree p q alike (x ∷ xs) = ap (λ b. b || list_any p xs) (alike x) ∙ ap (λ b. q x || b) (any_agree p q alike xs)

-- where no test passes, all fail
pub none_any : {X : Type 0} (p : X → Bool) (xs : List X) → list_any (λ x. not (p x)) xs ≡ false → list_all p xs ≡ true
none_any p [] h = refl
none_any p (x ∷ xs) h = elim (cases_Bool (p x)) [
  | inl e ↦
      let rest : list_any (λ y. not (p y)) xs ≡ false = rw e at h in
      rw e (none_any p xs rest)
  | inr e ↦
      let bad : true ≡ false = rw e at h in
      absurd (false≢true (sym bad))
]
