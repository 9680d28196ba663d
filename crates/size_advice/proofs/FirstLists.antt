-- Lists of the first of a claim, with more put in order among them.

use Rattle.std.proofs.Common.{◌≡◌, ◌⊎◌, ℕ, zero, suc, Bool, true, false, if◌then◌else◌, List, [], ◌∷◌, take, refl, sym, subst, inl, inr}
use Rattle.std.specs.Prelude.{◌≢◌, ⊤}
use Rattle.std.specs.List.{Contains}
use Rattle.timing_defs.specs.Firsts.{AreFirst}
use Rattle.timing_defs.proofs.Members.{first_in, later_in, in_cases, none_in}
use Rattle.size_advice.specs.Keeping.{put_by, kept_by}

-- an order of the items that have a property
pub record IsOrderOf {X : Type 0} (before : X → X → Bool) (Has : X → Type 0) : Type 0 where
  pub itself : (x : X) → Has x → before x x ≡ false
  pub chain : (x y z : X) → Has x → Has y → Has z → before x y ≡ false → before y z ≡ false → before x z ≡ false
  pub turns : (x y : X) → Has x → Has y → before x y ≡ true → before y x ≡ false

-- no item is there twice
abbrev pub Apart : {X : Type 0} → List X → Type 0
Apart [] = ⊤
Apart (x ∷ xs) = (Contains xs x → ⊥) × Apart xs

module _ {X : Type 0} (before : X → X → Bool) where
  -- claims that admit the same
  pub same_first : (count : ℕ) (Is Other : X → Type 0) (xs : List X) → ((x : X) → Is x → Other x) → ((x : X) → Other x → Is x) → AreFirst before count Is xs
      → AreFirst before count Other xs
  same_first zero Is Other [] f g a = tt
  same_first zero Is Other (x ∷ xs) f g a = absurd a
  same_first (suc count) Is Other [] f g a = λ y o. a y (g y o)
  same_first (suc count) Is Other (x ∷ xs) f g a = (
    f x a.0,
    λ y o. a.1 y (g y o),
    same_first count (λ y. Is y × (y ≢ x)) (λ y. Other y × (y ≢ x)) xs (λ y p. (f y p.0, p.1)) (λ y p. (g y p.0, p.1)) a.2,
  )

  -- one fewer
  fewer_first : (count : ℕ) (Is : X → Type 0) (xs : List X) → AreFirst before (suc count) Is xs → AreFirst before count Is (take count xs)
  fewer_first zero Is [] a = tt
  fewer_first zero Is (x ∷ xs) a = tt
  fewer_first (suc count) Is [] a = a
  fewer_first (suc count) Is (x ∷ xs) a = (a.0, a.1, fewer_first count (λ y. Is y × (y ≢ x)) xs a.2)

  pub none_first : (count : ℕ) (Is : X → Type 0) → ((y : X) → Is y → ⊥) → AreFirst before count Is []
  none_first zero Is never = tt
  none_first (suc count) Is never = never

  alone_first : (count : ℕ) (Is : X → Type 0) → ((y : X) → Is y → ⊥) → AreFirst before count Is (take count [])
  alone_first zero Is never = tt
  alone_first (suc count) Is never = never

  module _ (Has : X → Type 0) (order : IsOrderOf before Has) where
    -- one more
    pub put_first : (count : ℕ) (Is Other : X → Type 0) (xs : List X) (r : X) → (Is r → ⊥) → Other r → ((y : X) → Other y → Has y) → ((x : X) → Is x → Other x)
        → ((y : X) → Other y → (y ≡ r) ⊎ Is y) → AreFirst before count Is xs → AreFirst before count Other (take count (put_by before r xs))
    put_first zero Is Other xs r never there has f g a = tt
    put_first (suc count) Is Other [] r never there has f g a = (there, lowest, alone_first count (λ y. Other y × (y ≢ r)) gone)
      where
        lowest : (y : X) → Other y → before y r ≡ false
        lowest y o = elim (g y o) [
          | inl s ↦ subst (λ (z : X). before z r ≡ false) (sym s) (order.itself r (has r there))
          | inr i ↦ absurd (a y i)
        ]

        gone : (y : X) → Other y × (y ≢ r) → ⊥
        gone y o = elim (g y o.0) [ inl s ↦ o.1 s | inr i ↦ a y i ]
    put_first (suc count) Is Other (x ∷ xs) r never there has f g a =
        by (before r x) refl
        (put_first count (λ y. Is y × (y ≢ x)) (λ y. Other y × (y ≢ x)) xs r (λ i. never i.0)
        (there, λ s. never (subst Is (sym s) a.0)) (λ y o. has y o.0) (λ y i. (f y i.0, i.1)) left a.2)
      where
        lowest : before r x ≡ true → (y : X) → Other y → before y r ≡ false
        lowest e y o = elim (g y o) [
          | inl s ↦ subst (λ (z : X). before z r ≡ false) (sym s) (order.itself r (has r there))
          | inr i ↦ order.chain y x r (has y o) (has x (f x a.0)) (has r there) (a.1 y i) (order.turns r x (has r there) (has x (f x a.0)) e)
        ]

        others : (y : X) → Other y × (y ≢ r) → Is y
        others y o = elim (g y o.0) [ inl s ↦ absurd (o.1 s) | inr i ↦ i ]

        lowest_yet : before r x ≡ false → (y : X) → Other y → before y x ≡ false
        lowest_yet e y o = elim (g y o) [ inl s ↦ subst (λ (z : X). before z x ≡ false) (sym s) e | inr i ↦ a.1 y i ]

        left : (y : X) → Other y × (y ≢ x) → (y ≡ r) ⊎ (Is y × (y ≢ x))
        left y o = elim (g y o.0) [ inl s ↦ inl s | inr i ↦ inr (i, o.1) ]

        by : (b : Bool) → before r x ≡ b → AreFirst before count (λ y. Other y × (y ≢ x)) (take count (put_by before r xs))
            → AreFirst before (suc count) Other (take (suc count) (if b then r ∷ x ∷ xs else x ∷ put_by before r xs))
        by true e more = (
          there,
          lowest e,
          same_first count Is (λ y. Other y × (y ≢ r)) (take count (x ∷ xs)) (λ y i. (f y i, λ s. never (subst Is s i))) others
              (fewer_first count Is (x ∷ xs) a),
        )
        by false e more = (f x a.0, lowest_yet e, more)

    -- all of some more
    kept_first : (count : ℕ) (Is : X → Type 0) (kept ys : List X) → Apart ys → ((y : X) → Contains ys y → Is y → ⊥) → ((y : X) → Is y → Has y)
        → ((y : X) → Contains ys y → Has y) → AreFirst before count Is kept
        → AreFirst before count (λ y. Is y ⊎ Contains ys y) (kept_by before count kept ys)
    kept_first count Is kept [] each never had has a =
        same_first count Is (λ y. Is y ⊎ Contains [] y) kept (λ y i. inl i) back a
      where
        back : (y : X) → Is y ⊎ Contains [] y → Is y
        back y o = elim o [ inl i ↦ i | inr c ↦ absurd (none_in y c) ]
    kept_first count Is kept (z ∷ zs) each never had has a =
        same_first count (λ y. (Is y ⊎ (y ≡ z)) ⊎ Contains zs y) (λ y. Is y ⊎ Contains (z ∷ zs) y)
        (kept_by before count (take count (put_by before z kept)) zs) forth back
        (kept_first count (λ y. Is y ⊎ (y ≡ z)) (take count (put_by before z kept)) zs each.1 none has_one (λ y c. has y (later_in z zs y c))
        (put_first count Is (λ y. Is y ⊎ (y ≡ z)) kept z (never z (first_in z zs)) (inr refl) has_one (λ x i. inl i) turn a))
      where
        has_one : (y : X) → Is y ⊎ (y ≡ z) → Has y
        has_one y o = elim o [ inl i ↦ had y i | inr s ↦ subst Has (sym s) (has z (first_in z zs)) ]

        turn : (y : X) → Is y ⊎ (y ≡ z) → (y ≡ z) ⊎ Is y
        turn y o = elim o [ inl i ↦ inr i | inr s ↦ inl s ]

        none : (y : X) → Contains zs y → Is y ⊎ (y ≡ z) → ⊥
        none y c o = elim o [ inl i ↦ never y (later_in z zs y c) i | inr s ↦ each.0 (subst (λ (w : X). Contains zs w) s c) ]

        put_one : (y : X) → Is y ⊎ (y ≡ z) → Is y ⊎ Contains (z ∷ zs) y
        put_one y o = elim o [ inl i ↦ inl i | inr s ↦ inr (subst (λ (w : X). Contains (z ∷ zs) w) (sym s) (first_in z zs)) ]

        forth : (y : X) → (Is y ⊎ (y ≡ z)) ⊎ Contains zs y → Is y ⊎ Contains (z ∷ zs) y
        forth y o = elim o [ inl p ↦ put_one y p | inr c ↦ inr (later_in z zs y c) ]

        one_of : (y : X) → Contains (z ∷ zs) y → (Is y ⊎ (y ≡ z)) ⊎ Contains zs y
        one_of y c = elim (in_cases z zs y c) [ inl e ↦ inl (inr (sym e)) | inr d ↦ inr d ]

        back : (y : X) → Is y ⊎ Contains (z ∷ zs) y → (Is y ⊎ (y ≡ z)) ⊎ Contains zs y
        back y o = elim o [ inl i ↦ inl (inl i) | inr c ↦ one_of y c ]

    -- the first of a list are those that are kept
    pub first_kept : (count : ℕ) (ys : List X) → Apart ys → ((y : X) → Contains ys y → Has y) → AreFirst before count (Contains ys) (kept_by before count [] ys)
    first_kept count ys each has =
        same_first count (λ y. ⊥ ⊎ Contains ys y) (Contains ys) (kept_by before count [] ys) just (λ y c. inr c)
        (kept_first count (λ y. ⊥) [] ys each (λ y c never. never) (λ y never. absurd never) has (none_first count (λ y. ⊥) (λ y never. never)))
      where
        just : (y : X) → ⊥ ⊎ Contains ys y → Contains ys y
        just y o = elim o [ inl never ↦ absurd never | inr c ↦ c ]
