-- The parts of a slack by their clocks, multicycles and credits: their values and their bounds.

use Rattle.std.proofs.Common.{◌≡◌, ℕ, zero, suc, ◌-◌, ◌*◌, ◌%◌, ◌<◌, ◌≤◌, ℤ, pos, negsuc, ◌+ℤ◌, ◌-ℤ◌, ◌*ℤ◌, ◌≤ℤ◌, unsigned_abs, nat_abs, Bool, true, false, int_lt, int_le, List, [], ◌∷◌, length, get_or, Option, None, Some, refl, sym, ap, subst, ◌∙◌, arith}
use Rattle.std.specs.Prelude.{Contains, nat_eq, nat_le, slice_get, ◌&&◌, if◌then◌else◌}
use Rattle.std.specs.Option.{option_map_or, unwrap_or}
use Rattle.std.specs.Int.{int_rem_euclid}
use Rattle.std.proofs.lemmas.Bool.{and_parts, leb-true}
use Rattle.std.proofs.lemmas.Int.{ints, unsigned_abs-mul}
use Rattle.std.proofs.lemmas.Nat.{mul-le, mod_below}
use Rattle.std.proofs.lemmas.Option.{slice_get_read}
use borrow.Author.Differences.{le-true, lt-true}
use Rattle.sta_units.specs.Numbers.{limit, Within, is_within}
use Rattle.timing_defs.specs.declared.kinds.Tran.{Tran}
use Rattle.timing_defs.specs.declared.kinds.Kind.{Kind}
use Rattle.timing_defs.specs.declared.kinds.Kind.TheVariants.{Setup, Hold}
use Rattle.timing_defs.specs.declared.constraints.Clock.{Clock}
use Rattle.timing_defs.specs.declared.constraints.Effect.{Effect}
use Rattle.timing_defs.specs.declared.constraints.Effect.TheVariants.{FalseSetup, FalseHold, CyclesSetup, CyclesHold}
use Rattle.timing_defs.specs.declared.constraints.Exception.{Exception}
use Rattle.timing_defs.specs.declared.rows.Launch.{Launch}
use Rattle.timing_defs.specs.declared.rows.Capture.{Capture}
use Rattle.timing_defs.specs.declared.design.Design.{Design}
use Rattle.timing_defs.specs.Documents.{is_clock, is_effect}
use Rattle.timing_rules.specs.Tests.{offset, divisor_up_to, common_period, separation, separation_on, uncertainty_on, on_clocks}
use Rattle.timing_defs.specs.Kinds.{uncertainty}
use Rattle.timing_rules.specs.Paths.{moved}
use Rattle.timing_rules.specs.Rules.{applies, cycles_in, last_some, without_cycles, cycles, with_cycles}
use Rattle.netlist_store.specs.Linked.{IsLinked}
use Rattle.path_rules.specs.declared.overrides.Rule.{Rule}
use Rattle.path_rules.specs.Clocks.{IsClock}
use Rattle.path_rules.specs.Exceptions.{rule_of}
use Rattle.pessimism_credit.specs.declared.rows.TreeRow.{TreeRow}
use Rattle.pessimism_credit.specs.Credit.{IsTree, root_path, last_common, pessimism_at, credit_of}
use Rattle.pessimism_credit.proofs.Climbs.{pessimism_there, pessimism_past, early_there, late_there}
use Rattle.timing_defs.proofs.Members.{all_in}
use Rattle.path_search.specs.Slacks.{credit_told}
use Rattle.path_search.proofs.TakenConstraints.{taken}

-- the clocks of constraints that a store takes
pub record IsGoodClock (clock : Clock) : Type 0 where
  pub clock_is : IsClock clock
  pub setup : Within clock.unc_setup.0
  pub hold : Within clock.unc_hold.0

good_clock : (c : Clock) → is_clock c ≡ true → IsGoodClock c
good_clock c h =
    let a = and_parts (int_le (pos 2) c.period.0 && is_within c.period.0 && int_le (pos 0) c.rise.0
    && int_lt c.rise.0 c.fall.0 && int_lt c.fall.0 (c.rise.0 +ℤ c.period.0)
    && is_within c.rise.0 && is_within c.fall.0 && is_within c.unc_setup.0) (is_within c.unc_hold.0) h in
    let b = and_parts (int_le (pos 2) c.period.0 && is_within c.period.0 && int_le (pos 0) c.rise.0
    && int_lt c.rise.0 c.fall.0 && int_lt c.fall.0 (c.rise.0 +ℤ c.period.0)
    && is_within c.rise.0 && is_within c.fall.0) (is_within c.unc_setup.0) a.0 in
    let e = and_parts (int_le (pos 2) c.period.0 && is_within c.period.0 && int_le (pos 0) c.rise.0
    && int_lt c.rise.0 c.fall.0 && int_lt c.fall.0 (c.rise.0 +ℤ c.period.0)
    && is_within c.rise.0) (is_within c.fall.0) b.0 in
    let f = and_parts (int_le (pos 2) c.period.0 && is_within c.period.0 && int_le (pos 0) c.rise.0
    && int_lt c.rise.0 c.fall.0 && int_lt c.fall.0 (c.rise.0 +ℤ c.period.0)) (is_within c.rise.0) e.0 in
    let i = and_parts (int_le (pos 2) c.period.0 && is_within c.period.0 && int_le (pos 0) c.rise.0
    && int_lt c.rise.0 c.fall.0) (int_lt c.fall.0 (c.rise.0 +ℤ c.period.0)) f.0 in
    let j = and_parts (int_le (pos 2) c.period.0 && is_within c.period.0 && int_le (pos 0) c.rise.0) (int_lt c.rise.0 c.fall.0) i.0 in
    let k = and_parts (int_le (pos 2) c.period.0 && is_within c.period.0) (int_le (pos 0) c.rise.0) j.0 in
    let l = and_parts (int_le (pos 2) c.period.0) (is_within c.period.0) k.0 in
    record {
      clock_is = record {
        period = (let h = le-true (pos 2) c.period.0 l.0 in omega (arith, ints, h));
        rise = (let h = le-true (pos 0) c.rise.0 k.1 in omega (arith, ints, h));
        fall = (let h = lt-true c.rise.0 c.fall.0 j.1 in omega (arith, ints, h));
        within = (let h = lt-true c.fall.0 (c.rise.0 +ℤ c.period.0) i.1 in omega (arith, ints, h));
        period_limit = leb-true (unsigned_abs c.period.0) limit l.1;
        rise_limit = leb-true (unsigned_abs c.rise.0) limit f.1;
      };
      setup = leb-true (unsigned_abs c.unc_setup.0) limit b.1;
      hold = leb-true (unsigned_abs c.unc_hold.0) limit a.1;
    }

got_in : {X : Type 0} (xs : List X) (i : ℕ) (x : X) → slice_get xs i ≡ Some x → Contains xs x
got_in [] i x e = absurd (cc)
got_in (y ∷ ys) zero x e = (0, omega arith, (let f : y ≡ x = cc in f))
got_in (y ∷ ys) (suc i) x e = let r = got_in ys i x e in (suc r.0, (let l = r.1 in omega (arith, l)), r.2)

pub clock_good : (d : Design) → IsLinked d → (i : ℕ) (c : Clock) → slice_get d.constraints.clocks i ≡ Some c → IsGoodClock c
clock_good d linked i c e =
    good_clock c (all_in is_clock d.constraints.clocks c (taken d.constraints linked.constraints).clocks (got_in d.constraints.clocks i c e))

pub clock_read : (d : Design) → IsLinked d → (items : List Clock) → items ≡ d.constraints.clocks → (i : ℕ) → i < length d.constraints.clocks → (x : Clock) → x ≡ get_or items i x
    → IsGoodClock x
clock_read d linked items e i low x at =
    clock_good d linked i x (slice_get_read d.constraints.clocks (length d.constraints.clocks) i x refl low (at ∙ ap (λ (xs : List Clock). get_or xs i x) e))

-- a look at two clocks that are there
pub on_both : (d : Design) (value : Clock → Clock → ℤ) (i j : ℕ) (l c : Clock) → slice_get d.constraints.clocks i ≡ Some l → slice_get d.constraints.clocks j ≡ Some c
    → on_clocks d value i j ≡ value l c
on_both d value i j l c e f =
    ap (λ o. option_map_or (λ (x : Clock). option_map_or (value x) (slice_get d.constraints.clocks j) (pos 0)) o (pos 0)) e
    ∙ ap (λ o. option_map_or (value l) o (pos 0)) f

pub moved_is : (d : Design) (kind : Kind) (launch : Launch) (capture : Capture) (i j : ℕ) (a b : Tran) (l c : Clock) → slice_get d.constraints.clocks i ≡ Some l
    → slice_get d.constraints.clocks j ≡ Some c
    → moved d kind launch capture (i, a) (j, b)
    ≡ with_cycles kind (separation kind l a c b) (cycles d.constraints Setup launch capture) (cycles d.constraints Hold launch capture) l c
moved_is d kind launch capture i j a b l c e f =
    on_both d (λ x y. with_cycles kind (separation_on d kind (i, a) (j, b)) (cycles d.constraints Setup launch capture) (cycles d.constraints Hold launch capture) x y) i j l c e f
    ∙ ap (λ s. with_cycles kind s (cycles d.constraints Setup launch capture) (cycles d.constraints Hold launch capture) l c)
    (on_both d (λ x y. separation kind x a y b) i j l c e f)

pub uncertainty_is : (d : Design) (kind : Kind) (i : ℕ) (c : Clock) → slice_get d.constraints.clocks i ≡ Some c → uncertainty kind c ≡ uncertainty_on d kind i
uncertainty_is d kind i c e = sym (ap (λ o. option_map_or (uncertainty kind) o (pos 0)) e)

-- multicycles of constraints that a store takes
last_low : (f : Exception → Option ℕ) (n : ℕ) (xs : List Exception) → n ≤ 1000 → ((x : Exception) → Contains xs x → (m : ℕ) → f x ≡ Some m → m ≤ 1000) → last_some f n xs ≤ 1000
last_low f n [] low each = low
last_low f n (x ∷ xs) low each = by (f x) refl (λ k l. last_low f k xs l (λ y c. each y (suc c.0, (let m = c.1 in omega (arith, m)), c.2)))
  where
    by : (o : Option ℕ) → f x ≡ o → ((k : ℕ) → k ≤ 1000 → last_some f k xs ≤ 1000) → last_some f (unwrap_or (f x) n) xs ≤ 1000
    by None e again = subst (λ (k : ℕ). last_some f k xs ≤ 1000) (sym (ap (λ o. unwrap_or o n) e)) (again n low)
    by (Some m) e again = subst (λ (k : ℕ). last_some f k xs ≤ 1000) (sym (ap (λ o. unwrap_or o n) e)) (again m (each x (0, omega arith, refl) m e))

pub effect_low : (kind : Kind) (x : Effect) (m : ℕ) → is_effect x ≡ true → cycles_in kind x ≡ Some m → m ≤ 1000
effect_low Setup (CyclesSetup n) m h e =
    let p = and_parts (nat_le 1 n) (nat_le n 1000) h in
    let same : n ≡ m = cc in
    let low = leb-true n 1000 p.1 in
    omega (arith, same, low)
effect_low Setup FalseSetup m h e = absurd (cc)
effect_low Setup FalseHold m h e = absurd (cc)
effect_low Setup (CyclesHold n) m h e = absurd (cc)
effect_low Hold (CyclesHold n) m h e =
    let same : n ≡ m = cc in
    let low = leb-true n 1000 h in
    omega (arith, same, low)
effect_low Hold FalseSetup m h e = absurd (cc)
effect_low Hold FalseHold m h e = absurd (cc)
effect_low Hold (CyclesSetup n) m h e = absurd (cc)

pub cycles_low : (d : Design) → IsLinked d → (kind : Kind) (launch : Launch) (capture : Capture) → cycles d.constraints kind launch capture ≤ 1000
cycles_low d linked kind launch capture =
    last_low (λ x. if applies d.constraints launch capture x then cycles_in kind x.effect else None) (without_cycles kind) d.constraints.exceptions (start kind)
    (λ x c m e. by x m (all_in (λ (y : Exception). is_effect y.effect) d.constraints.exceptions x (taken d.constraints linked.constraints).effects c)
    (applies d.constraints launch capture x) e)
  where
    start : (k : Kind) → without_cycles k ≤ 1000
    start Setup = omega arith
    start Hold = omega arith

    by : (x : Exception) (m : ℕ) → is_effect x.effect ≡ true → (b : Bool) → (if b then cycles_in kind x.effect else None) ≡ Some m → m ≤ 1000
    by x m good true e = effect_low kind x.effect m good e
    by x m good false e = absurd (cc)

-- separations are within the launch clock's period
divisor_low : (n a b : ℕ) → 1 ≤ divisor_up_to n a b
divisor_low zero a b = omega arith
divisor_low (suc n) a b = by (nat_eq (a % suc n) 0 && nat_eq (b % suc n) 0) (divisor_low n a b)
  where
    by : (c : Bool) → 1 ≤ divisor_up_to n a b → 1 ≤ (if c then suc n else divisor_up_to n a b)
    by true low = omega arith
    by false low = low

divisor_high : (n a b : ℕ) → 1 ≤ n → divisor_up_to n a b ≤ n
divisor_high zero a b h = absurd (omega (arith, h))
divisor_high (suc zero) a b h = by (nat_eq (a % 1) 0 && nat_eq (b % 1) 0)
  where
    by : (c : Bool) → (if c then 1 else 1) ≤ 1
    by true = omega arith
    by false = omega arith
divisor_high (suc (suc n)) a b h = by (nat_eq (a % suc (suc n)) 0 && nat_eq (b % suc (suc n)) 0) (divisor_high (suc n) a b (omega arith))
  where
    by : (c : Bool) → divisor_up_to (suc n) a b ≤ suc n → (if c then suc (suc n) else divisor_up_to (suc n) a b) ≤ suc (suc n)
    by true r = omega arith
    by false r = omega (arith, r)

pub record IsShort (m : ℕ) : Type 0 where
  pub low : 1 ≤ m
  pub high : m ≤ limit

period_short : (l c : Clock) → IsClock l → IsShort (common_period l.period.0 c.period.0)
unfolding common_period
period_short l c good =
    let some : 1 ≤ nat_abs l.period.0 = (let p = good.period in positive l.period.0 p) in
    record {
      low = divisor_low (nat_abs l.period.0) (nat_abs l.period.0) (nat_abs c.period.0);
      high =
          (let h = divisor_high (nat_abs l.period.0) (nat_abs l.period.0) (nat_abs c.period.0) some in
          let w = good.period_limit in
          omega (arith, h, w));
    }
  where
    positive : (z : ℤ) → pos 2 ≤ℤ z → 1 ≤ nat_abs z
    positive (pos n) h = omega (arith, ints, h)
    positive (negsuc n) h = absurd (omega (arith, ints, h))

record IsRest (m : ℕ) (z : ℤ) : Type 0 where
  pub rest : ℕ
  pub is : z ≡ pos rest
  pub low : rest < m

rest_low : (z : ℤ) (m : ℕ) → 1 ≤ m → IsRest m (int_rem_euclid z (pos m))
rest_low (pos a) m h = record { rest = a % m; is = refl; low = mod_below a m (omega (arith, h)) }
rest_low (negsuc a) m h = record { rest = m - 1 - a % m; is = refl; low = omega (arith, h) }

pub separation_low : (kind : Kind) (l c : Clock) (a b : Tran) → IsClock l → unsigned_abs (separation kind l a c b) ≤ limit
separation_low kind l c a b good = by kind
  where
    short : IsShort (common_period l.period.0 c.period.0)
    short = period_short l c good

    r : IsRest (common_period l.period.0 c.period.0) (int_rem_euclid (offset c b -ℤ offset l a -ℤ pos 1) (pos (common_period l.period.0 c.period.0)))
    r = rest_low (offset c b -ℤ offset l a -ℤ pos 1) (common_period l.period.0 c.period.0) short.low

    setup : unsigned_abs (pos r.rest +ℤ pos 1) ≤ limit
    setup = let x = r.low in let y = short.high in omega (arith, ints, x, y)

    hold : unsigned_abs (pos r.rest +ℤ pos 1 -ℤ pos (common_period l.period.0 c.period.0)) ≤ limit
    hold = let x = r.low in let y = short.high in let z = short.low in omega (arith, ints, x, y, z)

    by : (k : Kind) → unsigned_abs (separation k l a c b) ≤ limit
    by Setup = subst (λ (z : ℤ). unsigned_abs (z +ℤ pos 1) ≤ limit) (sym r.is) setup
    by Hold = subst (λ (z : ℤ). unsigned_abs (z +ℤ pos 1 -ℤ pos (common_period l.period.0 c.period.0)) ≤ limit) (sym r.is) hold

-- a moved separation
product_low : (a b : ℤ) → unsigned_abs a ≤ 1000 → unsigned_abs b ≤ limit → unsigned_abs (a *ℤ b) ≤ 1000 * limit
product_low a b h k = subst (λ (n : ℕ). n ≤ 1000 * limit) (sym (unsigned_abs-mul a b)) (mul-le (unsigned_abs a) (unsigned_abs b) 1000 limit h k)

sum_low : (a b c : ℤ) → unsigned_abs a ≤ limit → unsigned_abs b ≤ 1000 * limit → unsigned_abs c ≤ 1000 * limit → unsigned_abs (a +ℤ b -ℤ c) ≤ 2001 * limit
sum_low a b c h k l = omega (arith, ints, h, k, l)

half_low : (a b : ℤ) → unsigned_abs a ≤ limit → unsigned_abs b ≤ 1000 * limit → unsigned_abs (a +ℤ b) ≤ 2001 * limit
half_low a b h k = omega (arith, ints, h, k)

pub moved_low : (kind : Kind) (sep : ℤ) (s h : ℕ) (l c : Clock) → unsigned_abs sep ≤ limit → s ≤ 1000 → h ≤ 1000 → IsClock l → IsClock c
    → unsigned_abs (with_cycles kind sep s h l c) ≤ 2001 * limit
moved_low kind sep s h l c sl s_low h_low lg cg = by kind
  where
    more : unsigned_abs (pos s -ℤ pos 1) ≤ 1000
    more = omega (arith, ints, s_low)

    up : unsigned_abs ((pos s -ℤ pos 1) *ℤ c.period.0) ≤ 1000 * limit
    up = product_low (pos s -ℤ pos 1) c.period.0 more cg.period_limit

    down : unsigned_abs (pos h *ℤ l.period.0) ≤ 1000 * limit
    down = product_low (pos h) l.period.0 (omega (arith, h_low)) lg.period_limit

    by : (k : Kind) → unsigned_abs (with_cycles k sep s h l c) ≤ 2001 * limit
    by Setup = half_low sep ((pos s -ℤ pos 1) *ℤ c.period.0) sl up
    by Hold = sum_low sep ((pos s -ℤ pos 1) *ℤ c.period.0) (pos h *ℤ l.period.0) sl up down

-- the same, as a rule tells the cycles
module _ (d : Design) (linked : IsLinked d) (kind : Kind) (launch : Launch) (capture : Capture) (i j : ℕ) (a b : Tran) (l c : Clock)
    (from : slice_get d.constraints.clocks i ≡ Some l) (to : slice_get d.constraints.clocks j ≡ Some c) (rule : Rule) (told : rule ≡ rule_of d.constraints launch capture) where
  pub setup_low : rule.setup_cycles ≤ 1000
  setup_low = subst (λ (r : Rule). r.setup_cycles ≤ 1000) (sym told) (cycles_low d linked Setup launch capture)

  pub hold_low : rule.hold_cycles ≤ 1000
  hold_low = subst (λ (r : Rule). r.hold_cycles ≤ 1000) (sym told) (cycles_low d linked Hold launch capture)

  pub apart_low : (sep : ℤ) → sep ≡ separation kind l a c b → unsigned_abs sep ≤ limit
  apart_low sep e = subst (λ (z : ℤ). unsigned_abs z ≤ limit) (sym e) (separation_low kind l c a b (clock_good d linked i l from).clock_is)

  module _ (sep out : ℤ) (apart : sep ≡ separation kind l a c b) (found : out ≡ with_cycles kind sep rule.setup_cycles rule.hold_cycles l c) where
    pub moved_as : out ≡ moved d kind launch capture (i, a) (j, b)
    moved_as =
        found ∙ (λ k. with_cycles kind (apart k) (told k).setup_cycles (told k).hold_cycles l c) ∙ sym (moved_is d kind launch capture i j a b l c from to)

    pub moved_within : unsigned_abs out ≤ 2001 * limit
    moved_within =
        subst (λ (z : ℤ). unsigned_abs z ≤ 2001 * limit) (sym found)
        (moved_low kind sep rule.setup_cycles rule.hold_cycles l c (apart_low sep apart) setup_low hold_low (clock_good d linked i l from).clock_is (clock_good d linked j c to).clock_is)

-- credits
spread_low : (rows : List TreeRow) → IsTree rows → (p : ℕ) → unsigned_abs (pessimism_at rows p) ≤ 2 * limit
spread_low rows tree p = by (slice_get rows p) refl
  where
    low : (a b : ℤ) → Within a → Within b → unsigned_abs (b -ℤ a) ≤ 2 * limit
    low a b h k = omega (arith, ints, h, k)

    by : (o : Option TreeRow) → slice_get rows p ≡ o → unsigned_abs (pessimism_at rows p) ≤ 2 * limit
    by None e = subst (λ (z : ℤ). unsigned_abs z ≤ 2 * limit) (sym (pessimism_past rows p e)) (omega arith)
    by (Some row) e =
        subst (λ (z : ℤ). unsigned_abs z ≤ 2 * limit) (sym (pessimism_there rows p row e))
        (low row.early.0 row.late.0 (early_there rows p row tree e) (late_there rows p row tree e))

pub credit_low : (rows : List TreeRow) → IsTree rows → (a b : ℕ) → unsigned_abs (credit_of rows a b) ≤ 2 * limit
credit_low rows tree a b = by (last_common None (root_path rows a) (root_path rows b))
  where
    by : (o : Option ℕ) → unsigned_abs (option_map_or (pessimism_at rows) o (pos 0)) ≤ 2 * limit
    by None = omega arith
    by (Some p) = spread_low rows tree p

pub told_low : (rows : List TreeRow) → IsTree rows → (a b : Option ℕ) → unsigned_abs (credit_told rows a b) ≤ 2 * limit
told_low rows tree None b = omega arith
told_low rows tree (Some a) None = omega arith
told_low rows tree (Some a) (Some b) = credit_low rows tree a b
