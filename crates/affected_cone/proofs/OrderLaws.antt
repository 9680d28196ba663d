-- The order of rows of endpoints, and the worst of them.

use Rattle.std.proofs.Common.{◌≡◌, ◌⊎◌, ℕ, suc, ◌+◌, ◌<◌, ◌≤◌, ℤ, Bool, true, false, List, [], ◌∷◌, ◌++◌, length, get_or, refl, sym, ap, subst, ◌∙◌, inl, inr, arith}
use Rattle.std.specs.Prelude.{nat_lt, ◌<ℤ◌, Contains, All}
use Rattle.std.specs.List.{IsDistinct, AllByRecursion}
use Rattle.std.specs.List.Sorted.{IsSortedBy}
use Rattle.std.specs.Cmp.{IsTotalOrder}
use Rattle.std.specs.Ordering.{nat_cmp, int_cmp, ordering_then, ordering_reverse, is_lt, is_eq, eq_by_cmp, MatchOrdering}
use Rattle.std.specs.Cmp.Lexicographic.{slice_cmp}
use Rattle.std.specs.declared.cmp.Ordering.{Ordering}
use Rattle.std.specs.declared.cmp.Ordering.TheVariants.{Less, Equal, Greater}
use Rattle.std.proofs.lemmas.Cmp.{then_total, on_total, int_cmp_total, nat_list_cmp_total, int_ranked, tied_itself, eq_by_cmp_equiv}
use Rattle.std.proofs.lemmas.Bool.{cases_lt}
use Rattle.std.proofs.lemmas.Bool.Decides.{nat_tests}
use Rattle.std.proofs.lemmas.List.Elements.{All-contains, Contains-append_left, Contains-append_cases}
use Rattle.std.proofs.lemmas.List.Sorted.{Contains-permutation, IsPermutation-sym}
use Rattle.std.proofs.lemmas.Map.Keys.{IsDistinct-IsPermutation}
use Rattle.std.proofs.lemmas.Map.Lookups.{exact_bytes}
use Rattle.timing_defs.specs.declared.kinds.Kind.{Kind}
use Rattle.timing_defs.specs.declared.design.Design.{Design}
use Rattle.timing_defs.specs.declared.reports.EndRow.{EndRow}
use Rattle.timing_rules.specs.Reports.{goes_before, AreInOrder, IsEndRow, AreWorst}
use Rattle.affected_cone.proofs.MapLaws.{none_in}
use Rattle.itertools.specs.Extremes.{IsKLeast}

abbrev pub row_cmp : EndRow → EndRow → Ordering
row_cmp a b = ordering_then (int_cmp a.slack.0 b.slack.0) (slice_cmp nat_cmp a.pin b.pin)

pub row_total : IsTotalOrder row_cmp
row_total =
    then_total {R = λ a b. int_cmp a.slack.0 b.slack.0} {S = λ a b. slice_cmp nat_cmp a.pin b.pin}
    (on_total (λ (r : EndRow). r.slack.0) int_cmp_total) (on_total (λ (r : EndRow). r.pin) nat_list_cmp_total)

then_equal : (o p : Ordering) → ordering_then o p ≡ Equal → (o ≡ Equal) × (p ≡ Equal)
then_equal Less p e = absurd (cc)
then_equal Equal p e = (refl, e)
then_equal Greater p e = absurd (cc)

same_int : (x y : ℤ) → int_cmp x y ≡ Equal → x ≡ y
same_int x y e = subst (λ (o : Ordering). MatchOrdering o (x <ℤ y) (x ≡ y) (y <ℤ x)) e (int_ranked x y (int_cmp x y) refl)

same_row : (a b : EndRow) → row_cmp a b ≡ Equal → a ≡ b
same_row a b e =
    let parts = then_equal (int_cmp a.slack.0 b.slack.0) (slice_cmp nat_cmp a.pin b.pin) e in
    let slack : a.slack.0 ≡ b.slack.0 = same_int a.slack.0 b.slack.0 parts.0 in
    let pin : a.pin ≡ b.pin = exact_bytes a.pin b.pin parts.1 in
    λ k. record { pin = pin k; slack = record { 0 = slack k } }

-- of two rows that differ one goes before the other
before_or : (a b : EndRow) → goes_before a b ≡ false → (goes_before b a ≡ true) ⊎ (a ≡ b)
before_or a b h = by (row_cmp a b) refl
  where
    by : (o : Ordering) → row_cmp a b ≡ o → (goes_before b a ≡ true) ⊎ (a ≡ b)
    by Less e = let bad : true ≡ false = sym (ap is_lt e) ∙ h in absurd (cc)
    by Equal e = inr (same_row a b e)
    by Greater e = inl (ap is_lt (row_total.antisymm b a ∙ ap ordering_reverse e))

abbrev pub ties : EndRow → EndRow → Bool
ties = eq_by_cmp row_cmp

itself : (a : EndRow) → ties a a ≡ true
itself a = ap is_eq (tied_itself row_total a)

pub ties_same : (a b : EndRow) → ties a b ≡ true → a ≡ b
ties_same a b h = by (row_cmp a b) refl
  where
    by : (o : Ordering) → row_cmp a b ≡ o → a ≡ b
    by Less e = let bad : false ≡ true = sym (ap is_eq e) ∙ h in absurd (cc)
    by Equal e = same_row a b e
    by Greater e = let bad : false ≡ true = sym (ap is_eq e) ∙ h in absurd (cc)

-- rising rows are in order
front_all : {X : Type 0} (P : X → Type 0) (xs ys : List X) → AllByRecursion P (xs ++ ys) → AllByRecursion P xs
front_all P [] ys h = tt
front_all P (x ∷ xs) ys h = (h.0, front_all P xs ys h.1)

front : (xs ys : List EndRow) → IsDistinct ties (xs ++ ys) → IsDistinct ties xs
unfolding IsDistinct
front [] ys h = tt
front (x ∷ xs) ys h = (front_all (λ y. ties x y ≡ false) xs ys h.0, front xs ys h.1)

abbrev AreUp : List EndRow → Type 0
AreUp rows = (k : ℕ) (d : EndRow) → suc k < length rows → goes_before (get_or rows (suc k) d) (get_or rows k d) ≡ false

up_at : (rows : List EndRow) → IsSortedBy goes_before rows → AreUp rows
up_at rows sorted k d low =
    let one : k + 1 ≡ suc k = omega arith in
    subst (λ (n : ℕ). goes_before (get_or rows n d) (get_or rows k d) ≡ false) one (sorted k d (omega arith) (omega arith))

in_order : (rows : List EndRow) → AreUp rows → IsDistinct ties rows → AreInOrder rows
unfolding IsDistinct
in_order [] up apart = tt
in_order (r ∷ []) up apart = tt
in_order (r ∷ s ∷ rows) up apart = (first, in_order (s ∷ rows) (λ k d low. up (suc k) d (omega arith)) apart.1)
  where
    first : goes_before r s ≡ true
    first = elim (before_or s r (up 0 r (omega arith))) [
      | inl e ↦ e
      | inr same ↦ (let bad : false ≡ true = sym apart.0.0 ∙ ap (ties r) same ∙ itself r in absurd (cc))
    ]

module _ (d : Design) (kind : Kind) (count : ℕ) (rows worst : List EndRow) (least : IsKLeast goes_before count rows worst)
    (sound : (r : EndRow) → Contains rows r → IsEndRow d kind r) (all : (r : EndRow) → IsEndRow d kind r → Contains rows r)
    (apart : IsDistinct ties rows) where
  abbrev rest : List EndRow
  rest = least.2

  listed : (r : EndRow) → Contains worst r → IsEndRow d kind r
  listed r c =
      sound r (Contains-permutation (worst ++ rest) rows r (IsPermutation-sym rows (worst ++ rest) least.3) (Contains-append_left worst rest r c))

  left_out : (r : EndRow) → IsEndRow d kind r → (Contains worst r → ⊥) → Contains rest r
  left_out r is lacks = elim (Contains-append_cases worst rest r (Contains-permutation rows (worst ++ rest) r least.3 (all r is))) [
    | inl c ↦ absurd (lacks c)
    | inr c ↦ c
  ]

  full : (r : EndRow) → Contains rest r → length worst ≡ count
  full r c = elim (cases_lt (length worst) count) [
    | inl low ↦ absurd (none_in r (subst (λ (xs : List EndRow). Contains xs r) (least.4 low) c))
    | inr high ↦ (let most = least.1 in omega arith)
  ]

  after : (r : EndRow) → Contains rest r → (Contains worst r → ⊥) → (s : EndRow) → Contains worst s → goes_before s r ≡ true
  after r c lacks s k =
      let not_before = All-contains (λ (t : EndRow). goes_before r t ≡ false) worst s
      (All-contains (λ (z : EndRow). All (λ t. goes_before z t ≡ false) worst) rest r least.5 c) k in
      elim (before_or r s not_before) [
        | inl e ↦ e
        | inr same ↦ absurd (lacks (subst (λ (t : EndRow). Contains worst t) (sym same) k))
      ]

  pub worst_told : AreWorst d kind count worst
  worst_told = (
    listed,
    in_order worst (up_at worst least.0) (front worst rest (IsDistinct-IsPermutation ties (eq_by_cmp_equiv row_total).symm rows (worst ++ rest) least.3 apart)),
    most count (length worst) least.1,
    λ r is lacks. (full r (left_out r is lacks), after r (left_out r is lacks) lacks),
  )
    where
      most : (a b : ℕ) → b ≤ a → nat_lt a b ≡ false
      most a b h = grind (arith, nat_tests)
