-- Rows of endpoints in their order, and the slack of an endpoint that has a path.

use Rattle.std.proofs.Common.{◌≡◌, ◌⊎◌, ℕ, zero, suc, ℤ, ◌≤ℤ◌, true, false, List, [], ◌∷◌, ◌++◌, Some, refl, sym, ap, subst, ◌∙◌, inl, inr, arith}
use Rattle.std.specs.List.{Contains}
use Rattle.std.specs.Cmp.{IsTotalOrder, then_total, on_total, int_cmp_total, nat_cmp_total}
use Rattle.std.specs.Cmp.Lexicographic.{slice_cmp, lists_total}
use Rattle.std.specs.Ordering.{nat_cmp, int_cmp, ordering_then, is_lt}
use Rattle.std.specs.Str.{bytes_eq}
use Rattle.std.specs.declared.cmp.Ordering.{Ordering}
use Rattle.std.specs.declared.cmp.Ordering.TheVariants.{Less, Equal, Greater}
use Rattle.std.proofs.lemmas.Bool.{cases_Bool, false≢true, true≢false}
use Rattle.std.proofs.lemmas.Int.{ints}
use Rattle.std.proofs.lemmas.List.Elements.{Contains-append_right}
use Rattle.std.proofs.lemmas.Map.Lookups.{exact_bytes}
use Rattle.timing_defs.specs.declared.kinds.Kind.{Kind}
use Rattle.timing_defs.specs.declared.design.Design.{Design}
use Rattle.timing_defs.specs.declared.reports.EndRow.{EndRow}
use Rattle.timing_defs.specs.Firsts.{AreFirst}
use Rattle.timing_defs.proofs.Members.{first_in, later_in, in_cases, none_in}
use Rattle.timing_defs.proofs.SameNames.{same_is, same_self}
use Rattle.timing_rules.specs.Tests.{Test}
use Rattle.timing_rules.specs.Paths.{Named, last_of, ends_at, nodes_cmp, path_slacks, IsSlack}
use Rattle.timing_rules.specs.Ranking.{Ranked, comes_before, IsRanked}
use Rattle.timing_rules.specs.Reports.{goes_before, AreInOrder}
use Rattle.design_paths.proofs.FirstLists.{IsOrder, is_first}
use Rattle.design_paths.proofs.PathOrder.{then_equal, same_int, order_of, up_to, down_to}

-- rows by slack and then by name: no two tie
abbrev row_cmp : EndRow → EndRow → Ordering
row_cmp a b = ordering_then (int_cmp a.slack.0 b.slack.0) (slice_cmp nat_cmp a.pin b.pin)

row_total : IsTotalOrder row_cmp
row_total =
    then_total {R = λ (a b : EndRow). int_cmp a.slack.0 b.slack.0} {S = λ (a b : EndRow). slice_cmp nat_cmp a.pin b.pin}
    (on_total (λ (r : EndRow). r.slack.0) int_cmp_total) (on_total (λ (r : EndRow). r.pin) (lists_total nat_cmp_total))

pub row_from : (a b : EndRow) → a.pin ≡ b.pin → a.slack.0 ≡ b.slack.0 → a ≡ b
row_from a b pin slack = λ k. record { pin = pin k; slack = record { 0 = slack k } }

same_row : (a b : EndRow) → row_cmp a b ≡ Equal → a ≡ b
same_row a b e =
    let parts = then_equal (int_cmp a.slack.0 b.slack.0) (slice_cmp nat_cmp a.pin b.pin) e in
    row_from a b (exact_bytes a.pin b.pin parts.1) (same_int a.slack.0 b.slack.0 parts.0)

pub row_order : IsOrder goes_before
row_order = order_of row_cmp row_total same_row

lt_less : (o : Ordering) → is_lt o ≡ true → o ≡ Less
lt_less Less e = refl
lt_less Equal e = absurd (false≢true e)
lt_less Greater e = absurd (false≢true e)

next_row : (r s t : EndRow) → goes_before r s ≡ true → goes_before s t ≡ true → goes_before r t ≡ true
next_row r s t e f = ap is_lt (row_total.trans r s t (lt_less (row_cmp r s) e) (lt_less (row_cmp s t) f))

after_first : (r : EndRow) (rows : List EndRow) → AreInOrder (r ∷ rows) → (s : EndRow) → Contains rows s → goes_before r s ≡ true
after_first r [] o s c = absurd (none_in s c)
after_first r (t ∷ rows) o s c = elim (in_cases t rows s c) [
  | inl e ↦ subst (λ (w : EndRow). goes_before r w ≡ true) e o.0
  | inr k ↦ next_row r t s o.0 (after_first t rows o.1 s k)
]

behind : (r : EndRow) (rows : List EndRow) → AreInOrder (r ∷ rows) → AreInOrder rows
behind r [] o = tt
behind r (s ∷ rows) o = o.1

pub rows_before : (front : List EndRow) (r : EndRow) (rest : List EndRow) → AreInOrder (front ++ r ∷ rest) → (s : EndRow) → Contains front s → goes_before s r ≡ true
rows_before [] r rest o s c = absurd (none_in s c)
rows_before (p ∷ front) r rest o s c = elim (in_cases p front s c) [
  | inl e ↦
      subst (λ (w : EndRow). goes_before w r ≡ true) e
      (after_first p (front ++ r ∷ rest) o r (Contains-append_right front (r ∷ rest) r (first_in r rest)))
  | inr k ↦ rows_before front r rest (behind p (front ++ r ∷ rest) o) s k
]

pub rows_after : (front : List EndRow) (r : EndRow) (rest : List EndRow) → AreInOrder (front ++ r ∷ rest) → (s : EndRow) → Contains rest s → goes_before r s ≡ true
rows_after [] r rest o s c = after_first r rest o s c
rows_after (p ∷ front) r rest o s c = rows_after front r rest (behind p (front ++ r ∷ rest) o) s c

-- whether a pin has a row
abbrev pub HasRow : List EndRow → List ℕ → Type 0
HasRow rows pin = (r : EndRow) × Contains rows r × (r.pin ≡ pin)

pub has_row : (rows : List EndRow) (pin : List ℕ) → HasRow rows pin ⊎ (HasRow rows pin → ⊥)
has_row [] pin = inr (λ h. none_in h.0 h.1)
has_row (r ∷ rows) pin = elim (cases_Bool (bytes_eq r.pin pin)) [
  | inl e ↦ inl (r, first_in r rows, same_is r.pin pin e)
  | inr e ↦ more e (has_row rows pin)
]
  where
    none : bytes_eq r.pin pin ≡ false → (HasRow rows pin → ⊥) → HasRow (r ∷ rows) pin → ⊥
    none e never h = elim (in_cases r rows h.0 h.1) [
      | inl same ↦
          let pins : r.pin ≡ pin = ap (λ (x : EndRow). x.pin) same ∙ h.2 in
          true≢false (sym (subst (λ (w : List ℕ). bytes_eq r.pin w ≡ true) pins (same_self r.pin)) ∙ e)
      | inr c ↦ never (h.0, c, h.2)
    ]

    more : bytes_eq r.pin pin ≡ false → HasRow rows pin ⊎ (HasRow rows pin → ⊥) → HasRow (r ∷ rows) pin ⊎ (HasRow (r ∷ rows) pin → ⊥)
    more e o = elim o [ inl h ↦ inl (h.0, later_in r rows h.0 h.1, h.2) | inr never ↦ inr (none e never) ]

-- a list of nodes ends at one pin
pub one_end : (path : List Named) (a b : List ℕ) → ends_at a path ≡ true → ends_at b path ≡ true → a ≡ b
one_end [] a b e f = absurd (false≢true e)
one_end (n ∷ ms) a b e f = sym (same_is (last_of n ms).0 a e) ∙ same_is (last_of n ms).0 b f

-- the least slack of tests
record IsLeast (xs : List (Test × ℤ)) : Type 0 where
  slack : ℤ
  test : Test
  within : Contains xs (test, slack)
  least : (u : Test) (t : ℤ) → Contains xs (u, t) → slack ≤ℤ t

least_of : (x : Test × ℤ) (xs : List (Test × ℤ)) → IsLeast (x ∷ xs)
least_of x [] = record { slack = x.1; test = x.0; within = first_in x []; least = least }
  where
    least : (u : Test) (t : ℤ) → Contains (x ∷ []) (u, t) → x.1 ≤ℤ t
    least u t c = elim (in_cases x [] (u, t) c) [
      | inl e ↦ let same : x.1 ≡ t = ap (λ (p : Test × ℤ). p.1) e in omega (arith, ints)
      | inr d ↦ absurd (none_in (u, t) d)
    ]
least_of x (y ∷ ys) = by (least_of y ys) (cases_le x.1 (least_of y ys).slack)
  where
    cases_le : (a b : ℤ) → (a ≤ℤ b) ⊎ (b ≤ℤ a)
    cases_le a b = elim (cases_Bool (is_lt (ordering_then (int_cmp a b) Equal))) [
      | inl e ↦ inl (up_to a b Equal e)
      | inr e ↦ inr (down_to a b Equal e)
    ]

    by : (l : IsLeast (y ∷ ys)) → (x.1 ≤ℤ l.slack) ⊎ (l.slack ≤ℤ x.1) → IsLeast (x ∷ y ∷ ys)
    by l (inl low) = record { slack = x.1; test = x.0; within = first_in x (y ∷ ys); least = least }
      where
        least : (u : Test) (t : ℤ) → Contains (x ∷ y ∷ ys) (u, t) → x.1 ≤ℤ t
        least u t c = elim (in_cases x (y ∷ ys) (u, t) c) [
          | inl e ↦ let same : x.1 ≡ t = ap (λ (p : Test × ℤ). p.1) e in omega (arith, ints)
          | inr d ↦ let under = l.least u t d in omega (arith, ints)
        ]
    by l (inr low) = record { slack = l.slack; test = l.test; within = later_in x (y ∷ ys) (l.test, l.slack) l.within; least = least }
      where
        least : (u : Test) (t : ℤ) → Contains (x ∷ y ∷ ys) (u, t) → l.slack ≤ℤ t
        least u t c = elim (in_cases x (y ∷ ys) (u, t) c) [
          | inl e ↦ let same : x.1 ≡ t = ap (λ (p : Test × ℤ). p.1) e in omega (arith, ints)
          | inr d ↦ l.least u t d
        ]

least_in : (xs : List (Test × ℤ)) (x : Test × ℤ) → Contains xs x → IsLeast xs
least_in [] x c = absurd (none_in x c)
least_in (y ∷ ys) x c = least_of y ys

module _ (d : Design) (kind : Kind) (pin : List ℕ) where
  none_within : {X : Type 0} (xs : List X) (x : X) → xs ≡ [] → Contains xs x → ⊥
  none_within xs x e c = none_in x (subst (λ ys. Contains ys x) e c)

  -- the slack of an endpoint is one
  pub one_slack : (s t : ℤ) → IsSlack d kind pin (Some s) → IsSlack d kind pin (Some t) → s ≡ t
  one_slack s t p q =
      let low = p.1 q.0.0 q.0.1 t q.0.2 q.0.3 in
      let high = q.1 p.0.0 p.0.1 s p.0.2 p.0.3 in
      omega (arith, ints)

  -- an endpoint of a path has a slack, and the path's is not less
  pub path_slack : (each : ℕ) (ends : List Ranked) (r : Ranked) → AreFirst comes_before each (IsRanked d kind pin) ends → Contains ends r
      → (s : ℤ) × IsSlack d kind pin (Some s) × (s ≤ℤ r.0)
  path_slack zero [] r a c = absurd (none_in r c)
  path_slack zero (x ∷ xs) r a c = absurd a
  path_slack (suc each) [] r a c = absurd (none_in r c)
  path_slack (suc each) (x ∷ xs) r a c = (
    x.0,
    ((x.1, a.0.1.0.0, a.0.0, a.0.1.0.1), least),
    under r (is_first comes_before (suc each) (IsRanked d kind pin) (x ∷ xs) a r c),
  )
    where
      under : (y : Ranked) → IsRanked d kind pin y → x.0 ≤ℤ y.0
      under y is = down_to y.0 x.0 (nodes_cmp y.1 x.1) (a.1 y is)

      least : (path : List Named) (test : Test) (t : ℤ) → ends_at pin path ≡ true → Contains (path_slacks d kind path) (test, t) → x.0 ≤ℤ t
      least path test t at within =
          let l = least_in (path_slacks d kind path) (test, t) within in
          let low = under (l.slack, path) (at, ((l.test, l.within), l.least)) in
          let more = l.least test t within in
          omega (arith, ints)
