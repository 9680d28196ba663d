-- Rows of endpoints in their order, and those before the first whose slack is not negative.

use Rattle.std.proofs.Common.{◌≡◌, ◌⊎◌, ℕ, zero, suc, ◌+◌, ◌<◌, ◌≤◌, ℤ, pos, ◌≤ℤ◌, Bool, true, false, cond, not, List, [], ◌∷◌, take, length, refl, sym, ap, subst, ◌∙◌, inl, inr, arith, int_lt}
use Rattle.std.specs.Prelude.{⊤, ◌≢◌, ◌<ℤ◌, nat_lt, if◌then◌else◌, Contains}
use Rattle.std.specs.List.{IsDistinct, AllByRecursion, position_or_len}
use Rattle.std.specs.Ordering.{nat_cmp, int_cmp, ordering_then, ordering_reverse, is_lt, MatchOrdering}
use Rattle.std.specs.Cmp.Lexicographic.{slice_cmp}
use Rattle.std.specs.declared.cmp.Ordering.{Ordering}
use Rattle.std.specs.declared.cmp.Ordering.TheVariants.{Less, Equal, Greater}
use Rattle.std.proofs.lemmas.Bool.{cases_Bool, cases_lt, not-true}
use Rattle.std.proofs.lemmas.Bool.Decides.{nat_tests}
use Rattle.std.proofs.lemmas.Cmp.{int_ranked}
use Rattle.std.proofs.lemmas.Int.{ints}
use Rattle.std.proofs.lemmas.List.Recursion.{is_position_or_len}
use Rattle.timing_defs.specs.Firsts.{AreFirst}
use Rattle.timing_defs.specs.declared.reports.EndRow.{EndRow}
use Rattle.timing_defs.proofs.Members.{first_in, later_in, in_cases, none_in}
use Rattle.timing_rules.specs.Reports.{goes_before, AreInOrder}
use Rattle.timing_rules.specs.Summaries.{is_negative}
use Rattle.affected_cone.proofs.OrderLaws.{row_cmp, row_total, ties, ties_same}
use Rattle.slack_summaries.specs.Failures.{is_met, negative_count, listed_count}

pub all_by : {X : Type 0} (P : X → Type 0) (xs : List X) → ((x : X) → Contains xs x → P x) → AllByRecursion P xs
all_by P [] each = tt
all_by P (x ∷ xs) each = (each x (first_in x xs), all_by P xs (λ y c. each y (later_in x xs y c)))

less_of : (o : Ordering) → is_lt o ≡ true → o ≡ Less
less_of Less e = refl
less_of Equal e = let bad : false ≡ true = e in absurd (cc)
less_of Greater e = let bad : false ≡ true = e in absurd (cc)

-- the order is strict
goes_on : (a b c : EndRow) → goes_before a b ≡ true → goes_before b c ≡ true → goes_before a c ≡ true
goes_on a b c h k = ap is_lt (row_total.trans a b c (less_of (row_cmp a b) h) (less_of (row_cmp b c) k))

goes_back : (a b : EndRow) → goes_before a b ≡ true → goes_before b a ≡ false
goes_back a b h = ap is_lt (row_total.antisymm b a ∙ ap ordering_reverse (less_of (row_cmp a b) h))

differ : true ≡ false → ⊥
differ e = cc

goes_apart : (a b : EndRow) → goes_before a b ≡ true → a ≡ b → ⊥
goes_apart a b h same =
    differ
    (sym (subst (λ (x : EndRow). goes_before a x ≡ true) (sym same) h)
    ∙ subst (λ (x : EndRow). goes_before x a ≡ false) (sym same) (goes_back a b h))

goes_itself : (a : EndRow) → goes_before a a ≡ false
goes_itself a = elim (cases_Bool (goes_before a a)) [
  | inl h ↦ absurd (goes_apart a a h refl)
  | inr h ↦ h
]

-- a row before another has no greater slack
up_by : (o p : Ordering) (x y : ℤ) → int_cmp x y ≡ o → is_lt (ordering_then o p) ≡ true → x ≤ℤ y
up_by Less p x y e h =
    let m : x <ℤ y = subst (λ (o : Ordering). MatchOrdering o (x <ℤ y) (x ≡ y) (y <ℤ x)) e (int_ranked x y (int_cmp x y) refl) in
    omega (arith, ints, m)
up_by Equal p x y e h =
    let m : x ≡ y = subst (λ (o : Ordering). MatchOrdering o (x <ℤ y) (x ≡ y) (y <ℤ x)) e (int_ranked x y (int_cmp x y) refl) in
    omega (arith, ints, m)
up_by Greater p x y e h = let bad : false ≡ true = h in absurd (cc)

slack_up : (a b : EndRow) → goes_before a b ≡ true → a.slack.0 ≤ℤ b.slack.0
slack_up a b h = up_by (int_cmp a.slack.0 b.slack.0) (slice_cmp nat_cmp a.pin b.pin) a.slack.0 b.slack.0 refl h

still_less : (x y z : ℤ) → x ≤ℤ y → int_lt y z ≡ true → int_lt x z ≡ true
still_less x y z h k = grind (arith, ints)

negative_up : (a b : EndRow) → goes_before a b ≡ true → is_negative b.slack.0 ≡ true → is_negative a.slack.0 ≡ true
negative_up a b h k = still_less a.slack.0 b.slack.0 (pos 0) (slack_up a b h) k

-- each row goes before those after it
abbrev pub AreUp : List EndRow → Type 0
AreUp [] = ⊤
AreUp (r ∷ rows) = ((s : EndRow) → Contains rows s → goes_before r s ≡ true) × AreUp rows

pub ups : (rows : List EndRow) → AreInOrder rows → AreUp rows
ups [] h = tt
ups (r ∷ []) h = (λ s c. absurd (none_in s c), tt)
ups (r ∷ s ∷ rows) h =
    let rest = ups (s ∷ rows) h.1 in (
      λ t c. (elim (in_cases s rows t c) [
        | inl e ↦ subst (λ (x : EndRow). goes_before r x ≡ true) e h.0
        | inr k ↦ goes_on r s t h.0 (rest.0 t k)
      ]),
      rest,
    )

pub taken_in : {X : Type 0} (n : ℕ) (xs : List X) (x : X) → Contains (take n xs) x → Contains xs x
taken_in zero xs x c = absurd (none_in x c)
taken_in (suc n) [] x c = absurd (none_in x c)
taken_in (suc n) (y ∷ ys) x c = elim (in_cases y (take n ys) x c) [
  | inl e ↦ subst (λ z. Contains (y ∷ ys) z) e (first_in y ys)
  | inr d ↦ later_in y ys x (taken_in n ys x d)
]

pub up_apart : (n : ℕ) (rows : List EndRow) → AreUp rows → IsDistinct ties (take n rows)
unfolding IsDistinct
up_apart zero rows up = tt
up_apart (suc n) [] up = tt
up_apart (suc n) (r ∷ rows) up = (
  all_by (λ (y : EndRow). ties r y ≡ false) (take n rows)
      (λ y c. elim (cases_Bool (ties r y)) [
        | inl t ↦ absurd (goes_apart r y (up.0 y (taken_in n rows y c)) (ties_same r y t))
        | inr f ↦ f
      ]),
  up_apart n rows up.1,
)

-- the lesser of two counts
abbrev pub few : ℕ → ℕ → ℕ
few zero c = zero
few (suc n) zero = zero
few (suc n) (suc c) = suc (few n c)

few_low : (n c : ℕ) → n ≤ c → few n c ≡ n
few_low zero c h = refl
few_low (suc n) zero h = absurd (omega arith)
few_low (suc n) (suc c) h = ap suc (few_low n c (omega arith))

few_high : (n c : ℕ) → c ≤ n → few n c ≡ c
few_high zero zero h = refl
few_high zero (suc c) h = absurd (omega arith)
few_high (suc n) zero h = refl
few_high (suc n) (suc c) h = ap suc (few_high n c (omega arith))

test_low : (n c : ℕ) → n < c → nat_lt n c ≡ true
test_low n c h = grind (arith, nat_tests)

test_high : (n c : ℕ) → c ≤ n → nat_lt n c ≡ false
test_high n c h = grind (arith, nat_tests)

pub few_is : (n c : ℕ) → (if nat_lt n c then n else c) ≡ few n c
few_is n c = elim (cases_lt n c) [
  | inl low ↦ ap (λ b. if b then n else c) (test_low n c low) ∙ sym (few_low n c (omega arith))
  | inr high ↦ ap (λ b. if b then n else c) (test_high n c high) ∙ sym (few_high n c high)
]

-- the first of the rows of a claim
pub firsts : (count n : ℕ) (rows : List EndRow) (Is : EndRow → Type 0) → AreUp rows → ((r : EndRow) → Contains (take n rows) r → Is r)
    → ((r : EndRow) → Is r → Contains (take n rows) r) → AreFirst goes_before count Is (take (few n count) rows)
firsts zero zero rows Is up sound all = tt
firsts zero (suc n) rows Is up sound all = tt
firsts (suc c) zero rows Is up sound all = λ y i. none_in y (all y i)
firsts (suc c) (suc n) [] Is up sound all = λ y i. none_in y (all y i)
firsts (suc c) (suc n) (r ∷ rows) Is up sound all = (
  sound r (first_in r (take n rows)),
  λ y i. (elim (in_cases r (take n rows) y (all y i)) [
    | inl e ↦ subst (λ (z : EndRow). goes_before z r ≡ false) e (goes_itself r)
    | inr d ↦ goes_back r y (up.0 y (taken_in n rows y d))
  ]),
  firsts c n rows (λ y. Is y × (y ≢ r)) up.1
      (λ s d. (sound s (later_in r (take n rows) s d), λ e. goes_apart r s (up.0 s (taken_in n rows s d)) (sym e)))
      (λ s i. elim (in_cases r (take n rows) s (all s i.0)) [
        | inl e ↦ absurd (i.1 (sym e))
        | inr d ↦ d
      ]),
)

-- the count of rows before the first that is not negative
abbrev pub lead : List EndRow → ℕ
lead [] = 0
lead (x ∷ xs) = cond (is_met x) 0 (suc (lead xs))

pub lead_low : (rows : List EndRow) → lead rows ≤ length rows
lead_low [] = omega arith
lead_low (x ∷ xs) = let low = lead_low xs in elim (cases_Bool (is_met x)) [
  | inl m ↦ subst (λ b. cond b 0 (suc (lead xs)) ≤ length (x ∷ xs)) (sym m) (omega arith)
  | inr m ↦ subst (λ b. cond b 0 (suc (lead xs)) ≤ length (x ∷ xs)) (sym m) (omega (arith, low))
]

pub lead_is : (rows : List EndRow) → negative_count rows ≡ lead rows
lead_is rows = by (nat_lt (position_or_len is_met rows) (length rows)) refl
  where
    same : lead rows ≡ position_or_len is_met rows
    same = is_position_or_len lead is_met refl (λ x xs. ap (λ n. cond (is_met x) 0 n) (let e : suc (lead xs) ≡ 1 + lead xs = omega arith in e)) rows

    by : (b : Bool) → nat_lt (position_or_len is_met rows) (length rows) ≡ b → negative_count rows ≡ lead rows
    by true h = rw h (sym same)
    by false h =
        let low = lead_low rows in
        let high : length rows ≤ position_or_len is_met rows = grind (arith, nat_tests) in
        rw h (let e : length rows ≡ lead rows = omega (arith, low, high, same) in e)

unmet : (b : Bool) → not b ≡ false → b ≡ true
unmet true e = refl
unmet false e = let bad : true ≡ false = e in absurd (cc)

abbrev led : EndRow → List EndRow → Bool → List EndRow
led x xs b = take (cond b 0 (suc (lead xs))) (x ∷ xs)

pub lead_negative : (rows : List EndRow) (r : EndRow) → Contains (take (lead rows) rows) r → is_negative r.slack.0 ≡ true
lead_negative [] r c = absurd (none_in r c)
lead_negative (x ∷ xs) r c = elim (cases_Bool (is_met x)) [
  | inl m ↦ absurd (none_in r (subst (λ b. Contains (led x xs b) r) m c))
  | inr m ↦ elim (in_cases x (take (lead xs) xs) r (subst (λ b. Contains (led x xs b) r) m c)) [
    | inl e ↦ subst (λ (z : EndRow). is_negative z.slack.0 ≡ true) e (unmet (is_negative x.slack.0) m)
    | inr d ↦ lead_negative xs r d
  ]
]

pub lead_all : (rows : List EndRow) → AreUp rows → (r : EndRow) → Contains rows r → is_negative r.slack.0 ≡ true → Contains (take (lead rows) rows) r
lead_all [] up r c h = absurd (none_in r c)
lead_all (x ∷ xs) up r c h = elim (cases_Bool (is_met x)) [
  | inl m ↦ absurd (differ (sym (negative (in_cases x xs r c)) ∙ not-true (is_negative x.slack.0) m))
  | inr m ↦ subst (λ b. Contains (led x xs b) r) (sym m) (elim (in_cases x xs r c) [
    | inl e ↦ subst (λ (z : EndRow). Contains (x ∷ take (lead xs) xs) z) e (first_in x (take (lead xs) xs))
    | inr d ↦ later_in x (take (lead xs) xs) r (lead_all xs up.1 r d h)
  ])
]
  where
    negative : (x ≡ r) ⊎ Contains xs r → is_negative x.slack.0 ≡ true
    negative (inl e) = subst (λ (z : EndRow). is_negative z.slack.0 ≡ true) (sym e) h
    negative (inr d) = negative_up x r (up.0 r d) h

-- a row that is not negative, where there is one
pub lead_short : (rows : List EndRow) → lead rows < length rows → (s : EndRow) × Contains rows s × (is_negative s.slack.0 ≡ false)
lead_short [] low = absurd (omega arith)
lead_short (x ∷ xs) low = elim (cases_Bool (is_met x)) [
  | inl m ↦ (x, first_in x xs, not-true (is_negative x.slack.0) m)
  | inr m ↦
      let under : suc (lead xs) < suc (length xs) = subst (λ b. cond b 0 (suc (lead xs)) < length (x ∷ xs)) m low in
      let r = lead_short xs (omega (arith, under)) in
      (r.0, later_in x xs r.0 r.1, r.2)
]

-- a negative row goes before none that is left out behind one that is not
pub not_behind : (s y : EndRow) → goes_before s y ≡ true → is_negative s.slack.0 ≡ false → is_negative y.slack.0 ≡ true → ⊥
not_behind s y before met negative = differ (sym (negative_up s y before negative) ∙ met)
