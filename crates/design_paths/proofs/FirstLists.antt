-- Lists of the first of a claim: of the same claim, of a wider one, and with more put in order among them.

use Rattle.std.proofs.Common.{◌≡◌, ◌⊎◌, ℕ, zero, suc, Bool, true, false, if◌then◌else◌, List, [], ◌∷◌, take, length, refl, sym, subst, inl, inr, arith}
use Rattle.std.specs.Prelude.{◌≢◌, ⊤}
use Rattle.std.specs.List.{Contains}
use Rattle.timing_defs.specs.Firsts.{AreFirst}
use Rattle.timing_defs.proofs.Members.{first_in, later_in, in_cases, none_in}

-- an order of which ties are the same
pub record IsOrder {X : Type 0} (before : X → X → Bool) : Type 0 where
  pub itself : (x : X) → before x x ≡ false
  pub chain : (x y z : X) → before x y ≡ false → before y z ≡ false → before x z ≡ false
  pub turns : (x y : X) → before x y ≡ true → before y x ≡ false
  pub apart : (x y : X) → before x y ≡ false → before y x ≡ false → x ≡ y

-- no item is there twice
abbrev pub Apart : {X : Type 0} → List X → Type 0
Apart [] = ⊤
Apart (x ∷ xs) = (Contains xs x → ⊥) × Apart xs

abbrev pub put_by : {X : Type 0} → (X → X → Bool) → X → List X → List X
put_by before x [] = x ∷ []
put_by before x (y ∷ ys) = (if before x y then x ∷ y ∷ ys else y ∷ put_by before x ys)

abbrev pub kept_by : {X : Type 0} → (X → X → Bool) → ℕ → List X → List X → List X
kept_by before most kept [] = kept
kept_by before most kept (x ∷ xs) = kept_by before most (take most (put_by before x kept)) xs

module _ {X : Type 0} (before : X → X → Bool) where
  -- claims that admit the same
  pub same_first : (count : ℕ) (Is Other : X → Type 0) (xs : List X) → ((x : X) → Is x → Other x) → ((x : X) → Other x → Is x) → AreFirst before count Is xs
      → AreFirst before count Other xs
  same_first zero Is Other [] f g a = tt
  same_first zero Is Other (x ∷ xs) f g a = absurd a
  same_first (suc count) Is Other [] f g a = λ y o. a y (g y o)
  same_first (suc count) Is Other (x ∷ xs) f g a = (
    f x a.0,
    λ y o. a.1 y (g y o),
    same_first count (λ y. Is y × (y ≢ x)) (λ y. Other y × (y ≢ x)) xs (λ y p. (f y p.0, p.1)) (λ y p. (g y p.0, p.1)) a.2,
  )

  -- one fewer
  pub fewer_first : (count : ℕ) (Is : X → Type 0) (xs : List X) → AreFirst before (suc count) Is xs → AreFirst before count Is (take count xs)
  fewer_first zero Is [] a = tt
  fewer_first zero Is (x ∷ xs) a = tt
  fewer_first (suc count) Is [] a = a
  fewer_first (suc count) Is (x ∷ xs) a = (a.0, a.1, fewer_first count (λ y. Is y × (y ≢ x)) xs a.2)

  -- each is one
  pub is_first : (count : ℕ) (Is : X → Type 0) (xs : List X) → AreFirst before count Is xs → (x : X) → Contains xs x → Is x
  is_first zero Is [] a x c = absurd (none_in x c)
  is_first zero Is (y ∷ ys) a x c = absurd a
  is_first (suc count) Is [] a x c = absurd (none_in x c)
  is_first (suc count) Is (y ∷ ys) a x c = elim (in_cases y ys x c) [
    | inl e ↦ subst (λ (z : X). Is z) e a.0
    | inr d ↦ (is_first count (λ z. Is z × (z ≢ y)) ys a.2 x d).0
  ]

  pub apart_first : (count : ℕ) (Is : X → Type 0) (xs : List X) → AreFirst before count Is xs → Apart xs
  apart_first zero Is [] a = tt
  apart_first zero Is (y ∷ ys) a = absurd a
  apart_first (suc count) Is [] a = tt
  apart_first (suc count) Is (y ∷ ys) a =
      (λ c. (is_first count (λ z. Is z × (z ≢ y)) ys a.2 y c).1 refl, apart_first count (λ z. Is z × (z ≢ y)) ys a.2)

  -- a wider claim, where what is more comes before none of them
  pub wider_first : (count : ℕ) (Is Other : X → Type 0) (xs : List X) → length xs ≡ count → ((x : X) → Is x → Other x)
      → ((y : X) → Other y → Is y ⊎ ((x : X) → Contains xs x → before y x ≡ false)) → AreFirst before count Is xs → AreFirst before count Other xs
  wider_first zero Is Other [] l f g a = tt
  wider_first zero Is Other (x ∷ xs) l f g a = absurd a
  wider_first (suc count) Is Other [] l f g a = absurd (omega arith)
  wider_first (suc count) Is Other (x ∷ xs) l f g a =
      (f x a.0, lowest, wider_first count (λ y. Is y × (y ≢ x)) (λ y. Other y × (y ≢ x)) xs (omega arith) (λ y p. (f y p.0, p.1)) left a.2)
    where
      lowest : (y : X) → Other y → before y x ≡ false
      lowest y o = elim (g y o) [ inl i ↦ a.1 y i | inr h ↦ h x (first_in x xs) ]

      left : (y : X) → Other y × (y ≢ x) → (Is y × (y ≢ x)) ⊎ ((z : X) → Contains xs z → before y z ≡ false)
      left y o = elim (g y o.0) [ inl i ↦ inl (i, o.1) | inr h ↦ inr (λ z c. h z (later_in x xs z c)) ]

  none_first : (count : ℕ) (Is : X → Type 0) → ((y : X) → Is y → ⊥) → AreFirst before count Is (take count [])
  none_first zero Is never = tt
  none_first (suc count) Is never = never

  module _ (order : IsOrder before) where
    -- they are the only ones
    pub one_first : (count : ℕ) (Is : X → Type 0) (xs ys : List X) → AreFirst before count Is xs → AreFirst before count Is ys → xs ≡ ys
    one_first zero Is [] [] a b = refl
    one_first zero Is (x ∷ xs) ys a b = absurd a
    one_first zero Is [] (y ∷ ys) a b = absurd b
    one_first (suc count) Is [] [] a b = refl
    one_first (suc count) Is [] (y ∷ ys) a b = absurd (a y b.0)
    one_first (suc count) Is (x ∷ xs) [] a b = absurd (b x a.0)
    one_first (suc count) Is (x ∷ xs) (y ∷ ys) a b =
        let same : x ≡ y = order.apart x y (b.1 x a.0) (a.1 y b.0) in
        let rest : xs ≡ ys =
        one_first count (λ z. Is z × (z ≢ x)) xs ys a.2
        (subst (λ (w : X). AreFirst before count (λ z. Is z × (z ≢ w)) ys) (sym same) b.2) in
        λ i. same i ∷ rest i

    -- one more
    pub put_first : (count : ℕ) (Is Other : X → Type 0) (xs : List X) (r : X) → (Is r → ⊥) → Other r → ((x : X) → Is x → Other x)
        → ((y : X) → Other y → (y ≡ r) ⊎ Is y) → AreFirst before count Is xs → AreFirst before count Other (take count (put_by before r xs))
    put_first zero Is Other xs r never there f g a = tt
    put_first (suc count) Is Other [] r never there f g a = (there, lowest, none_first count (λ y. Other y × (y ≢ r)) gone)
      where
        lowest : (y : X) → Other y → before y r ≡ false
        lowest y o = elim (g y o) [ inl s ↦ subst (λ (z : X). before z r ≡ false) (sym s) (order.itself r) | inr i ↦ absurd (a y i) ]

        gone : (y : X) → Other y × (y ≢ r) → ⊥
        gone y o = elim (g y o.0) [ inl s ↦ o.1 s | inr i ↦ a y i ]
    put_first (suc count) Is Other (x ∷ xs) r never there f g a =
        by (before r x) refl
        (put_first count (λ y. Is y × (y ≢ x)) (λ y. Other y × (y ≢ x)) xs r (λ i. never i.0)
        (there, λ s. never (subst Is (sym s) a.0)) (λ y i. (f y i.0, i.1)) left a.2)
      where
        lowest : before r x ≡ true → (y : X) → Other y → before y r ≡ false
        lowest e y o = elim (g y o) [
          | inl s ↦ subst (λ (z : X). before z r ≡ false) (sym s) (order.itself r)
          | inr i ↦ order.chain y x r (a.1 y i) (order.turns r x e)
        ]

        others : (y : X) → Other y × (y ≢ r) → Is y
        others y o = elim (g y o.0) [ inl s ↦ absurd (o.1 s) | inr i ↦ i ]

        lowest_yet : before r x ≡ false → (y : X) → Other y → before y x ≡ false
        lowest_yet e y o = elim (g y o) [ inl s ↦ subst (λ (z : X). before z x ≡ false) (sym s) e | inr i ↦ a.1 y i ]

        left : (y : X) → Other y × (y ≢ x) → (y ≡ r) ⊎ (Is y × (y ≢ x))
        left y o = elim (g y o.0) [ inl s ↦ inl s | inr i ↦ inr (i, o.1) ]

        by : (b : Bool) → before r x ≡ b → AreFirst before count (λ y. Other y × (y ≢ x)) (take count (put_by before r xs))
            → AreFirst before (suc count) Other (take (suc count) (if b then r ∷ x ∷ xs else x ∷ put_by before r xs))
        by true e more = (
          there,
          lowest e,
          same_first count Is (λ y. Other y × (y ≢ r)) (take count (x ∷ xs)) (λ y i. (f y i, λ s. never (subst Is s i))) others
              (fewer_first count Is (x ∷ xs) a),
        )
        by false e more = (f x a.0, lowest_yet e, more)

    -- all of some more
    pub kept_first : (count : ℕ) (Is : X → Type 0) (kept ys : List X) → Apart ys → ((y : X) → Contains ys y → Is y → ⊥) → AreFirst before count Is kept
        → AreFirst before count (λ y. Is y ⊎ Contains ys y) (kept_by before count kept ys)
    kept_first count Is kept [] each never a =
        same_first count Is (λ y. Is y ⊎ Contains [] y) kept (λ y i. inl i) back a
      where
        back : (y : X) → Is y ⊎ Contains [] y → Is y
        back y o = elim o [ inl i ↦ i | inr c ↦ absurd (none_in y c) ]
    kept_first count Is kept (z ∷ zs) each never a =
        same_first count (λ y. (Is y ⊎ (y ≡ z)) ⊎ Contains zs y) (λ y. Is y ⊎ Contains (z ∷ zs) y)
        (kept_by before count (take count (put_by before z kept)) zs) forth back
        (kept_first count (λ y. Is y ⊎ (y ≡ z)) (take count (put_by before z kept)) zs each.1 none
        (put_first count Is (λ y. Is y ⊎ (y ≡ z)) kept z (never z (first_in z zs)) (inr refl) (λ x i. inl i) turn a))
      where
        turn : (y : X) → Is y ⊎ (y ≡ z) → (y ≡ z) ⊎ Is y
        turn y o = elim o [ inl i ↦ inr i | inr s ↦ inl s ]

        none : (y : X) → Contains zs y → Is y ⊎ (y ≡ z) → ⊥
        none y c o = elim o [ inl i ↦ never y (later_in z zs y c) i | inr s ↦ each.0 (subst (λ (w : X). Contains zs w) s c) ]

        put_one : (y : X) → Is y ⊎ (y ≡ z) → Is y ⊎ Contains (z ∷ zs) y
        put_one y o = elim o [ inl i ↦ inl i | inr s ↦ inr (subst (λ (w : X). Contains (z ∷ zs) w) (sym s) (first_in z zs)) ]

        forth : (y : X) → (Is y ⊎ (y ≡ z)) ⊎ Contains zs y → Is y ⊎ Contains (z ∷ zs) y
        forth y o = elim o [ inl p ↦ put_one y p | inr c ↦ inr (later_in z zs y c) ]

        one_of : (y : X) → Contains (z ∷ zs) y → (Is y ⊎ (y ≡ z)) ⊎ Contains zs y
        one_of y c = elim (in_cases z zs y c) [ inl e ↦ inl (inr (sym e)) | inr d ↦ inr d ]

        back : (y : X) → Is y ⊎ Contains (z ∷ zs) y → (Is y ⊎ (y ≡ z)) ⊎ Contains zs y
        back y o = elim o [ inl i ↦ inl (inl i) | inr c ↦ one_of y c ]
