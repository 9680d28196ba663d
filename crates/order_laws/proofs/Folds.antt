-- Steps that commute where their keys differ may be taken key by key.
use Rattle.std.proofs.Common.{◌≡◌, ℕ, zero, suc, ◌+◌, ◌<◌, ◌≤◌, Bool, true, false, not, nat_eq, List, [], ◌∷◌, ◌++◌, filter, length, Result, Ok, Err, refl, sym, ap, ◌∙◌, inl, inr, arith, length-append, if◌then◌else◌}
use Rattle.std.specs.List.{AllByRecursion}
use Rattle.std.proofs.lemmas.Bool.{cases_Bool}
use Rattle.order_laws.specs.Orders.{folded}

-- the elements of a key, and the others
abbrev pub with_key : {Y : Type 0} → (Y → ℕ) → ℕ → List Y → List Y
with_key key k ys = filter (λ y. nat_eq (key y) k) ys

abbrev pub others : {Y : Type 0} → (Y → ℕ) → ℕ → List Y → List Y
others key k ys = filter (λ y. not (nat_eq (key y) k)) ys

-- the elements of so many keys from one on, key by key
abbrev pub by_key : {Y : Type 0} → (Y → ℕ) → ℕ → ℕ → List Y → List Y
by_key key k zero ys = []
by_key key k (suc n) ys = with_key key k ys ++ by_key key (k + 1) n ys

-- what holds of all elements holds of those that pass a test
pub all_filter : {Y : Type 0} (P : Y → Type 0) (p : Y → Bool) (ys : List Y) → AllByRecursion P ys → AllByRecursion P (filter p ys)
all_filter P p [] h = tt
all_filter P p (y ∷ ys) h = elim (cases_Bool (p y)) [
  | inl e ↦ rw e (h.0, all_filter P p ys h.1)
  | inr e ↦ rw e (all_filter P p ys h.1)
]

module _ {Y : Type 0} (key : Y → ℕ) where
  -- keys from one on, so many
  abbrev pub Between : ℕ → ℕ → Y → Type 0
  Between low n y = (low ≤ key y) × (key y < low + n)

  eq_same : (m k : ℕ) → nat_eq m k ≡ true → m ≡ k
  eq_same m k h = grind (arith, h)

  eq_other : (m k : ℕ) → nat_eq m k ≡ false → m ≡ k → ⊥
  eq_other m k h e = grind (arith, h, e)

  -- others of one key have those of another
  with_others : (k j : ℕ) → k < j → (ys : List Y) → with_key key j (others key k ys) ≡ with_key key j ys
  with_others k j low [] = refl
  with_others k j low (y ∷ ys) = elim (cases_Bool (nat_eq (key y) k)) [
    | inl e ↦
        let no : nat_eq (key y) j ≡ false = let m = eq_same (key y) k e in grind arith in
        rw (e, no) (with_others k j low ys)
    | inr e ↦ rw e (ap (λ rest. if nat_eq (key y) j then y ∷ rest else rest) (with_others k j low ys))
  ]

  by_others : (k j n : ℕ) → k < j → (ys : List Y) → by_key key j n (others key k ys) ≡ by_key key j n ys
  by_others k j zero low ys = refl
  by_others k j (suc n) low ys = rw (with_others k j low ys) (ap (λ rest. with_key key j ys ++ rest) (by_others k (j + 1) n (omega arith) ys))

  between_others : (k n : ℕ) (ys : List Y) → AllByRecursion (Between k (suc n)) ys → AllByRecursion (Between (k + 1) n) (others key k ys)
  between_others k n [] h = tt
  between_others k n (y ∷ ys) h = elim (cases_Bool (nat_eq (key y) k)) [
    | inl e ↦ rw e (between_others k n ys h.1)
    | inr e ↦
        let apart = eq_other (key y) k e in
        rw e ((above (key y) h.0.0 apart, omega (arith, h.0.1)), between_others k n ys h.1)
  ]
    where
      above : (m : ℕ) → k ≤ m → (m ≡ k → ⊥) → k + 1 ≤ m
      above m low apart = grind arith

  nothing : (k : ℕ) (ys : List Y) → AllByRecursion (Between k 0) ys → ys ≡ []
  nothing k [] h = refl
  nothing k (y ∷ ys) h = absurd (omega (arith, h.0.0, h.0.1))

  -- both kinds together are all
  split_length : (k : ℕ) (ys : List Y) → length (with_key key k ys) + length (others key k ys) ≡ length ys
  split_length k [] = refl
  split_length k (y ∷ ys) = elim (cases_Bool (nat_eq (key y) k)) [
    | inl e ↦ rw e (omega (arith, split_length k ys))
    | inr e ↦ rw e (omega (arith, split_length k ys))
  ]

  pub by_key_length : (k n : ℕ) (ys : List Y) → AllByRecursion (Between k n) ys → length (by_key key k n ys) ≡ length ys
  by_key_length k zero ys h = ap length (sym (nothing k ys h))
  by_key_length k (suc n) ys h =
      let rest = by_key_length (k + 1) n (others key k ys) (between_others k n ys h) in
      let same = ap length (by_others k (k + 1) n (omega arith) ys) in
      omega (arith, split_length k ys, rest, same, length-append (with_key key k ys) (by_key key (k + 1) n ys))

module _ {X Y Z : Type 0} (step : X → Y → Result X Z) where
  pub folded_joined : (r : Result X Z) (ys zs : List Y) → folded step r (ys ++ zs) ≡ folded step (folded step r ys) zs
  folded_joined (Err f) ys zs = refl
  folded_joined (Ok x) [] zs = refl
  folded_joined (Ok x) (y ∷ ys) zs = folded_joined (step x y) ys zs

  -- the state between a step and those behind it
  record Through (r : Result X Z) (ys : List Y) (end : X) : Type 0 where
    at : X
    first : r ≡ Ok at
    rest : folded step (Ok at) ys ≡ Ok end

  through : (r : Result X Z) (ys : List Y) (end : X) → folded step r ys ≡ Ok end → Through r ys end
  through (Ok m) ys end h = record { at = m; first = refl; rest = h }
  through (Err f) ys end h = cc

  onward : (r : Result X Z) (m : X) (ys : List Y) (end : X) → r ≡ Ok m → folded step (Ok m) ys ≡ Ok end → folded step r ys ≡ Ok end
  onward r m ys end e h = ap (λ s. folded step s ys) e ∙ h

  -- where the one step and then the other lead, the other and then the one lead too
  pub record Swapped (x : X) (a b : Y) (end : X) : Type 0 where
    pub at : X
    pub first : step x b ≡ Ok at
    pub second : step at a ≡ Ok end

  abbrev pub Commute : Y → Y → Type 0
  Commute a b = (x m end : X) → step x a ≡ Ok m → step m b ≡ Ok end → Swapped x a b end

  -- a step goes behind steps with which it commutes
  to_back : (a : Y) (ys zs : List Y) (x end : X) → AllByRecursion (Commute a) ys
      → folded step (Ok x) (a ∷ (ys ++ zs)) ≡ Ok end → folded step (Ok x) (ys ++ a ∷ zs) ≡ Ok end
  to_back a [] zs x end h run = run
  to_back a (b ∷ ys) zs x end h run =
      let one = through (step x a) (b ∷ (ys ++ zs)) end run in
      let two = through (step one.at b) (ys ++ zs) end one.rest in
      let swap = h.0 x one.at two.at one.first two.first in
      onward (step x b) swap.at (ys ++ a ∷ zs) end swap.first
      (to_back a ys zs swap.at end h.1 (onward (step swap.at a) two.at (ys ++ zs) end swap.second two.rest))

  module _ (key : Y → ℕ) (Q : Y → Type 0) (commute : (a b : Y) → Q a → Q b → (key a ≡ key b → ⊥) → Commute a b) where
    all_commute : (k : ℕ) (a : Y) → nat_eq (key a) k ≡ false → Q a → (ys : List Y) → AllByRecursion Q ys → AllByRecursion (Commute a) (with_key key k ys)
    all_commute k a off q [] h = tt
    all_commute k a off q (y ∷ ys) h = elim (cases_Bool (nat_eq (key y) k)) [
      | inl e ↦
          rw e (
            commute a y q h.0 (λ same. eq_other key (key a) k off (same ∙ eq_same key (key y) k e)),
            all_commute k a off q ys h.1,
          )
      | inr e ↦ rw e (all_commute k a off q ys h.1)
    ]

    -- first the steps of a key, then the others
    parted : (k : ℕ) (ys : List Y) (x end : X) → AllByRecursion Q ys → folded step (Ok x) ys ≡ Ok end
        → folded step (Ok x) (with_key key k ys ++ others key k ys) ≡ Ok end
    parted k [] x end h run = run
    parted k (y ∷ ys) x end h run =
        let one = through (step x y) ys end run in
        let rest = parted k ys one.at end h.1 one.rest in
        let all : folded step (Ok x) (y ∷ (with_key key k ys ++ others key k ys)) ≡ Ok end =
        onward (step x y) one.at (with_key key k ys ++ others key k ys) end one.first rest in
        elim (cases_Bool (nat_eq (key y) k)) [
          | inl e ↦ rw e all
          | inr e ↦ rw e (to_back y (with_key key k ys) (others key k ys) x end (all_commute k y e h.0 ys h.1) all)
        ]

    -- steps of so many keys, taken key by key
    pub key_by_key : (k n : ℕ) (ys : List Y) (x end : X) → AllByRecursion Q ys → AllByRecursion (Between key k n) ys
        → folded step (Ok x) ys ≡ Ok end → folded step (Ok x) (by_key key k n ys) ≡ Ok end
    key_by_key k zero ys x end h within run = ap (folded step (Ok x)) (sym (nothing key k ys within)) ∙ run
    key_by_key k (suc n) ys x end h within run =
        let front : List Y = with_key key k ys in
        let behind : List Y = others key k ys in
        let split : folded step (folded step (Ok x) front) behind ≡ Ok end =
        sym (folded_joined (Ok x) front behind) ∙ parted k ys x end h run in
        let one = through (folded step (Ok x) front) behind end split in
        let rest : folded step (Ok one.at) (by_key key (k + 1) n behind) ≡ Ok end =
        key_by_key (k + 1) n behind one.at end (all_filter Q (λ y. not (nat_eq (key y) k)) ys h) (between_others key k n ys within) one.rest in
        let same : folded step (Ok one.at) (by_key key (k + 1) n ys) ≡ Ok end =
        ap (folded step (Ok one.at)) (sym (by_others key k (k + 1) n (omega arith) ys)) ∙ rest in
        folded_joined (Ok x) front (by_key key (k + 1) n ys)
        ∙ onward (folded step (Ok x) front) one.at (by_key key (k + 1) n ys) end one.first same
