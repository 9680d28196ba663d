-- Separations and credits that give no slack less than others.

use Rattle.std.proofs.Common.{◌≡◌, ℕ, zero, suc, ◌+◌, ◌*◌, ◌<◌, ◌≤◌, ℤ, pos, negsuc, ◌+ℤ◌, ◌-ℤ◌, ◌*ℤ◌, ◌≤ℤ◌, neg_ℤ, List, length, Option, None, Some, refl, sym, ap, subst, ◌∙◌, arith}
use Rattle.std.specs.Prelude.{slice_get}
use Rattle.std.specs.Int.{int_min}
use Rattle.std.proofs.lemmas.Int.{ints, clamps}
use Rattle.std.proofs.lemmas.Nat.{mul-le}
use Rattle.std.proofs.Math.IntN.{pos-*ℤ-pos, negsuc-*ℤ-pos}
use native.Mathlib.Nat.{suc-mul}
use Rattle.timing_defs.specs.declared.kinds.Kind.{Kind}
use Rattle.timing_defs.specs.declared.kinds.Kind.TheVariants.{Setup, Hold}
use Rattle.timing_defs.specs.declared.kinds.Tran.{Tran}
use Rattle.timing_defs.specs.declared.constraints.Clock.{Clock}
use Rattle.timing_defs.specs.declared.design.Design.{Design}
use Rattle.timing_defs.specs.declared.rows.Capture.{Capture}
use Rattle.timing_defs.specs.declared.rows.Launch.{Launch}
use Rattle.timing_rules.specs.Paths.{moved}
use Rattle.timing_rules.specs.Rules.{cycles, with_cycles}
use Rattle.timing_rules.specs.Tests.{separation_on}
use Rattle.netlist_store.specs.Linked.{IsLinked}
use Rattle.path_rules.specs.Clocks.{IsClock}
use Rattle.path_rules.proofs.CycleRanges.{ranged}
use Rattle.pessimism_credit.specs.declared.rows.TreeRow.{TreeRow}
use Rattle.pessimism_credit.specs.Credit.{root_path, least_over, least_credit_of}
use Rattle.pessimism_credit.proofs.Lowest.{least_start}
use Rattle.path_search.specs.Lows.{low_setup, low_hold, low_apart}
use Rattle.path_search.proofs.ConeCourses.{past}
use Rattle.path_search.proofs.SlackBounds.{clock_good, on_both}

-- cycles of a period
period_is : (p : ℤ) → pos 2 ≤ℤ p → (q : ℕ) × (p ≡ pos q)
period_is (pos q) h = (q, refl)
period_is (negsuc q) h = absurd (omega (arith, ints, h))

counted : (n q : ℕ) → (pos n -ℤ pos 1) *ℤ pos q ≡ pos (n * q) -ℤ pos q
counted zero q =
    let first : pos 0 -ℤ pos 1 ≡ negsuc 0 = omega (arith, ints) in
    let last : neg_ℤ (pos (1 * q)) ≡ pos (0 * q) -ℤ pos q = omega (arith, ints) in
    ap (λ (z : ℤ). z *ℤ pos q) first ∙ negsuc-*ℤ-pos 0 q ∙ last
counted (suc k) q =
    let first : pos (suc k) -ℤ pos 1 ≡ pos k = omega (arith, ints) in
    let more : suc k * q ≡ k * q + q = suc-mul k q in
    let last : pos (k * q) ≡ pos (suc k * q) -ℤ pos q = omega (arith, ints, more) in
    ap (λ (z : ℤ). z *ℤ pos q) first ∙ pos-*ℤ-pos k q ∙ last

fewer_periods : (m n q : ℕ) → m ≤ n → m * q ≤ n * q
fewer_periods m n q low = mul-le m q n q low (omega arith)

setup_less : (sep p : ℤ) (m n : ℕ) → pos 2 ≤ℤ p → m ≤ n → (sep +ℤ (pos m -ℤ pos 1) *ℤ p) ≤ℤ (sep +ℤ (pos n -ℤ pos 1) *ℤ p)
setup_less sep p m n h low =
    let q = period_is p h in
    let less = fewer_periods m n q.0 low in
    let a : (pos m -ℤ pos 1) *ℤ p ≡ pos (m * q.0) -ℤ pos q.0 = ap (λ (z : ℤ). (pos m -ℤ pos 1) *ℤ z) q.1 ∙ counted m q.0 in
    let b : (pos n -ℤ pos 1) *ℤ p ≡ pos (n * q.0) -ℤ pos q.0 = ap (λ (z : ℤ). (pos n -ℤ pos 1) *ℤ z) q.1 ∙ counted n q.0 in
    by ((pos m -ℤ pos 1) *ℤ p) ((pos n -ℤ pos 1) *ℤ p) (m * q.0) (n * q.0) q.0 a b less
  where
    by : (x y : ℤ) (i j k : ℕ) → x ≡ pos i -ℤ pos k → y ≡ pos j -ℤ pos k → i ≤ j → (sep +ℤ x) ≤ℤ (sep +ℤ y)
    by x y i j k a b l = omega (arith, ints, a, b, l)

hold_less : (p : ℤ) (m n : ℕ) → pos 2 ≤ℤ p → m ≤ n → (pos m *ℤ p) ≤ℤ (pos n *ℤ p)
hold_less p m n h low =
    let q = period_is p h in
    let less = fewer_periods m n q.0 low in
    let a : pos m *ℤ p ≡ pos (m * q.0) = ap (λ (z : ℤ). pos m *ℤ z) q.1 ∙ pos-*ℤ-pos m q.0 in
    let b : pos n *ℤ p ≡ pos (n * q.0) = ap (λ (z : ℤ). pos n *ℤ z) q.1 ∙ pos-*ℤ-pos n q.0 in
    by (pos m *ℤ p) (pos n *ℤ p) (m * q.0) (n * q.0) a b less
  where
    by : (x y : ℤ) (i j : ℕ) → x ≡ pos i → y ≡ pos j → i ≤ j → x ≤ℤ y
    by x y i j a b l = omega (arith, ints, a, b, l)

-- a separation counts for setup tests and against hold tests
abbrev pub IsLessFor : Kind → ℤ → ℤ → Type 0
IsLessFor Setup low sep = low ≤ℤ sep
IsLessFor Hold low sep = sep ≤ℤ low

-- cycles with which a separation is least for setup tests, greatest for hold tests
abbrev AreLessFor : Kind → ℕ → ℕ → ℕ → ℕ → Type 0
AreLessFor Setup s h s' h' = s' ≤ s
AreLessFor Hold s h s' h' = (s ≤ s') × (h' ≤ h)

cycles_less : (kind : Kind) (sep : ℤ) (s h s' h' : ℕ) (l c : Clock) → IsClock l → IsClock c → AreLessFor kind s h s' h'
    → IsLessFor kind (with_cycles kind sep s' h' l c) (with_cycles kind sep s h l c)
cycles_less Setup sep s h s' h' l c lg cg low = setup_less sep c.period.0 s' s cg.period low
cycles_less Hold sep s h s' h' l c lg cg low =
    by (sep +ℤ (pos s -ℤ pos 1) *ℤ c.period.0) (sep +ℤ (pos s' -ℤ pos 1) *ℤ c.period.0) (pos h *ℤ l.period.0) (pos h' *ℤ l.period.0)
    (setup_less sep c.period.0 s s' cg.period low.0) (hold_less l.period.0 h' h lg.period low.1)
  where
    by : (x y a b : ℤ) → x ≤ℤ y → b ≤ℤ a → (x -ℤ a) ≤ℤ (y -ℤ b)
    by x y a b p q = omega (arith, ints, p, q)

pub least_low : (rows : List TreeRow) (b : ℕ) → least_credit_of rows b ≤ℤ pos 0
least_low rows b =
    subst (λ (z : ℤ). z ≤ℤ pos 0) (least_start rows (root_path rows b)) (first (least_over rows (root_path rows b)))
  where
    first : (y : ℤ) → int_min (pos 0) y ≤ℤ pos 0
    first y = omega (arith, ints, clamps)

module _ (d : Design) (linked : IsLinked d) (kind : Kind) (rows : List TreeRow) where
  range_less : (k : Kind) (launch : Launch) (capture : Capture)
      → AreLessFor k (cycles d.constraints Setup launch capture) (cycles d.constraints Hold launch capture) (low_setup d.constraints k) (low_hold d.constraints)
  range_less Setup launch capture = (ranged d.constraints Setup launch capture).0
  range_less Hold launch capture = ((ranged d.constraints Setup launch capture).1, (ranged d.constraints Hold launch capture).0)

  pub moved_less : (launch : Launch) (capture : Capture) (from to : ℕ × Tran) → from.0 < length d.constraints.clocks → to.0 < length d.constraints.clocks
      → IsLessFor kind (low_apart d kind from to) (moved d kind launch capture from to)
  moved_less launch capture from to low high = by (slice_get d.constraints.clocks from.0) refl (slice_get d.constraints.clocks to.0) refl
    where
      by : (o : Option Clock) → slice_get d.constraints.clocks from.0 ≡ o → (p : Option Clock) → slice_get d.constraints.clocks to.0 ≡ p
          → IsLessFor kind (low_apart d kind from to) (moved d kind launch capture from to)
      by None e p f = absurd (past from.0 d.constraints.clocks low e)
      by (Some l) e None f = absurd (past to.0 d.constraints.clocks high f)
      by (Some l) e (Some c) f =
          subst (λ (z : ℤ). IsLessFor kind z (moved d kind launch capture from to))
          (sym (on_both d (λ x y. with_cycles kind (separation_on d kind from to) (low_setup d.constraints kind) (low_hold d.constraints) x y) from.0 to.0 l c e f))
          (subst (λ (z : ℤ). IsLessFor kind (with_cycles kind (separation_on d kind from to) (low_setup d.constraints kind) (low_hold d.constraints) l c) z)
          (sym (on_both d (λ x y. with_cycles kind (separation_on d kind from to) (cycles d.constraints Setup launch capture) (cycles d.constraints Hold launch capture) x y) from.0 to.0 l c e f))
          (cycles_less kind (separation_on d kind from to) (cycles d.constraints Setup launch capture) (cycles d.constraints Hold launch capture)
          (low_setup d.constraints kind) (low_hold d.constraints) l c (clock_good d linked from.0 l e).clock_is (clock_good d linked to.0 c f).clock_is
          (range_less kind launch capture)))
