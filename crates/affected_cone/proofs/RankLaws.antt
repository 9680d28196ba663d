-- The least items by what a function makes of them.

use Rattle.std.proofs.Common.{◌≡◌, ℕ, ◌+◌, ◌<◌, Bool, false, List, [], ◌∷◌, ◌++◌, map, take, drop, length, length-drop, get_or, Result, Ok, Err, sym, ap, subst, ◌∙◌, arith}
use Rattle.std.specs.Prelude.{All, Contains, IfOk}
use Rattle.std.specs.Cmp.{IsStrictWeakOrder}
use Rattle.std.specs.List.Sorted.{IsSortedBy, IsPermutation}
use Rattle.std.proofs.lemmas.List.{length-map, map-append, get_or-map, length-take, get_or-take, get_or-drop, get_or_default, drop_all, take-append-drop}
use Rattle.std.proofs.lemmas.List.Elements.{All-map, All-weaker, All-contains_itself}
use Rattle.std.proofs.lemmas.List.Sorted.{IsPermutation-map, sorted_far}
use Rattle.itertools.specs.Extremes.{IsKLeast}

pub ok_more : {T E : Type 0} (r : Result T E) (P Q : T → Type 0) → ((x : T) → P x → Q x) → IfOk r P → IfOk r Q
ok_more (Ok x) P Q f h = f x h
ok_more (Err e) P Q f h = tt

module _ {A B : Type 0} (f : A → B) (lt : B → B → Bool) where
  sorted_mapped : (ys : List A) → IsSortedBy (λ a b. lt (f a) (f b)) ys → IsSortedBy lt (map f ys)
  sorted_mapped [] s k d low up = absurd (omega (arith, up))
  sorted_mapped (y ∷ ys) s k d low up =
      let long = length-map (y ∷ ys) f in
      let here : k + 1 < length (y ∷ ys) = omega (arith, up, long) in
      let before : k < length (y ∷ ys) = omega arith in
      ap (λ b. lt b (get_or (map f (y ∷ ys)) k d)) (get_or-map f (y ∷ ys) (k + 1) y d here)
      ∙ ap (λ b. lt (f (get_or (y ∷ ys) (k + 1) y)) b) (get_or-map f (y ∷ ys) k y d before)
      ∙ s k y low here

  pub least_mapped : (k : ℕ) (xs ys : List A) → IsKLeast (λ a b. lt (f a) (f b)) k xs ys → IsKLeast lt k (map f xs) (map f ys)
  least_mapped k xs ys (sorted, few, rest, same, short, out) =
      let long = length-map ys f in (
        sorted_mapped ys sorted,
        omega (arith, few, long),
        map f rest,
        subst (λ (zs : List B). IsPermutation (map f xs) zs) (map-append f ys rest) (IsPermutation-map f xs (ys ++ rest) same),
        λ low. ap (map f) (short (omega (arith, low, long))),
        All-map (λ z. All (λ r. lt z r ≡ false) (map f ys)) f rest
            (All-weaker (λ z. All (λ r. lt (f z) (f r) ≡ false) ys) (λ z. All (λ r. lt (f z) r ≡ false) (map f ys)) (λ z h. All-map (λ r. lt (f z) r ≡ false) f ys h) rest out),
      )

-- the first of a sorted list are the least
module _ {A : Type 0} (lt : A → A → Bool) (o : IsStrictWeakOrder lt) (zs : List A) (up : IsSortedBy lt zs) (k : ℕ) where
  far : (z : A) → Contains (drop k zs) z → (r : A) → Contains (take k zs) r → lt z r ≡ false
  far z c r t =
      let over = c.1 in
      let under = t.1 in
      let long = length-drop k zs in
      let short = length-take k zs in
      let few : t.0 < k = omega (arith, under, short) in
      let first : t.0 < length zs = omega (arith, under, short) in
      let last : k + c.0 < length zs = omega (arith, over, long) in
      let z_at : get_or zs (k + c.0) z ≡ z = sym (get_or-drop k zs c.0 z) ∙ c.2 in
      let r_at : get_or zs t.0 z ≡ r = get_or_default zs t.0 z r first ∙ sym (get_or-take k zs t.0 r few) ∙ t.2 in
      subst (λ (x : A). lt x r ≡ false) z_at
      (subst (λ (x : A). lt (get_or zs (k + c.0) z) x ≡ false) r_at (sorted_far lt o zs up t.0 (k + c.0) z (omega arith) last))

  sorted_front : IsSortedBy lt (take k zs)
  sorted_front i d low next =
      let short = length-take k zs in
      let here : i + 1 < k = omega (arith, next, short) in
      let there : i + 1 < length zs = omega (arith, next, short) in
      ap (λ x. lt x (get_or (take k zs) i d)) (get_or-take k zs (i + 1) d here)
      ∙ ap (λ x. lt (get_or zs (i + 1) d) x) (get_or-take k zs i d (omega arith))
      ∙ up i d low there

  pub first_least : (xs : List A) → IsPermutation xs zs → IsKLeast lt k xs (take k zs)
  first_least xs same =
      let short = length-take k zs in (
        sorted_front,
        omega (arith, short),
        drop k zs,
        subst (λ (ys : List A). IsPermutation xs ys) (sym (take-append-drop k zs)) same,
        λ low. drop_all k zs (omega (arith, low, short)),
        All-weaker (Contains (drop k zs)) (λ z. All (λ r. lt z r ≡ false) (take k zs))
            (λ z c. All-weaker (Contains (take k zs)) (λ r. lt z r ≡ false) (λ r t. far z c r t) (take k zs) (All-contains_itself (take k zs)))
            (drop k zs) (All-contains_itself (drop k zs)),
      )
