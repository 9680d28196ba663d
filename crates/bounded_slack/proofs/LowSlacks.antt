-- Lowest slacks are at most the slacks.

use Rattle.std.proofs.Common.{◌≡◌, ℕ, zero, suc, ◌+◌, ◌*◌, ◌<◌, ◌≤◌, ℤ, pos, negsuc, ◌-ℤ◌, ◌*ℤ◌, ◌≤ℤ◌, List, [], ◌∷◌, length, slice_get, slice_index_or, Option, Some, None, refl, sym, ap, subst, ◌∙◌, arith, suc-mul, mul-le-mul_right}
use Rattle.std.specs.Prelude.{Contains}
use Rattle.std.specs.Int.{int_min}
use Rattle.std.specs.Option.{option_map_or}
use Rattle.std.proofs.lemmas.Int.{ints, clamps}
use Rattle.std.proofs.lemmas.Option.{none-some, same_Some}
use Rattle.timing_defs.specs.declared.kinds.Kind.{Kind}
use Rattle.timing_defs.specs.declared.kinds.Kind.TheVariants.{Setup, Hold}
use Rattle.timing_defs.specs.declared.kinds.Split.TheVariants.{Early}
use Rattle.timing_defs.specs.declared.kinds.Tran.{Tran}
use Rattle.timing_defs.specs.declared.constraints.Clock.{Clock}
use Rattle.timing_defs.specs.declared.design.Design.{Design}
use Rattle.timing_defs.specs.declared.rows.Launch.{Launch}
use Rattle.timing_defs.specs.declared.rows.Capture.{Capture}
use Rattle.timing_rules.specs.Rows.{outer_some, outermost}
use Rattle.timing_rules.specs.Tests.{Test, separation_on, uncertainty_on}
use Rattle.timing_rules.specs.Rules.{cycles, with_cycles}
use Rattle.timing_rules.specs.Paths.{moved, slack_by}
use Rattle.bounded_slack.specs.Nets.{IsAtMost}
use Rattle.bounded_slack.specs.Rows.{signed}
use Rattle.bounded_slack.specs.Lowest.{AreLow, ArePeriods, moved_by, low_slack}

-- the least value over a list
min_keeps : (o p : Option ℤ) (v : ℤ) → IsAtMost o v → IsAtMost (outer_some Early o p) v
min_keeps None p v h = absurd h
min_keeps (Some x) None v h = h
min_keeps (Some x) (Some y) v h = let low : x ≤ℤ v = h in omega (arith, ints, clamps)

min_new : (o p : Option ℤ) (v : ℤ) → IsAtMost p v → IsAtMost (outer_some Early o p) v
min_new None p v h = h
min_new (Some x) None v h = absurd h
min_new (Some x) (Some y) v h = let low : y ≤ℤ v = h in omega (arith, ints, clamps)

-- the least is at most each value
module _ {X : Type 0} (low : X → Option ℤ) where
  least-keeps : (xs : List X) (o : Option ℤ) (v : ℤ) → IsAtMost o v → IsAtMost (outermost Early low o xs) v
  least-keeps [] o v h = h
  least-keeps (x ∷ xs) o v h = least-keeps xs (outer_some Early o (low x)) v (min_keeps o (low x) v h)

  least-at : (xs : List X) (o : Option ℤ) (x : X) (v : ℤ) (k : ℕ) → k < length xs → slice_index_or xs k x ≡ x → IsAtMost (low x) v → IsAtMost (outermost Early low o xs) v
  least-at [] o x v k under at h = absurd (omega arith)
  least-at (y ∷ xs) o x v zero under at h =
      least-keeps xs (outer_some Early o (low y)) v (min_new o (low y) v (subst (λ z. IsAtMost (low z) v) (sym at) h))
  least-at (y ∷ xs) o x v (suc k) under at h = least-at xs (outer_some Early o (low y)) x v k (omega arith) at h

  pub lower_at : (xs : List X) (x : X) (v : ℤ) → Contains xs x → IsAtMost (low x) v → IsAtMost (outermost Early low None xs) v
  lower_at xs x v c h = least-at xs None x v c.0 c.1 c.2 h

lower-both : (x y v : ℤ) (p r : Option ℤ) → int_min x y ≡ v → IsAtMost p x → IsAtMost r y → IsAtMost (outer_some Early p r) v
lower-both x y v None r e f g = absurd f
lower-both x y v (Some a) None e f g = absurd g
lower-both x y v (Some a) (Some b) e f g =
    let one : a ≤ℤ x = f in
    let two : b ≤ℤ y = g in
    omega (arith, ints, clamps)

both-lower : (o p q r : Option ℤ) → ((v : ℤ) → o ≡ Some v → IsAtMost p v) → ((v : ℤ) → q ≡ Some v → IsAtMost r v)
    → (v : ℤ) → outer_some Early o q ≡ Some v → IsAtMost (outer_some Early p r) v
both-lower None p q r f g v e = min_new p r v (g v e)
both-lower (Some x) p None r f g v e = min_keeps p r v (f v e)
both-lower (Some x) p (Some y) r f g v e = lower-both x y v p r (same_Some (int_min x y) v e) (f x refl) (g y refl)

-- values that are all at least lower ones have a least value that is, where some are left out as well
module _ {X : Type 0} (low value : X → Option ℤ) (each : (x : X) (v : ℤ) → value x ≡ Some v → IsAtMost (low x) v) where
  lower-over : (xs : List X) (o p : Option ℤ) → ((v : ℤ) → o ≡ Some v → IsAtMost p v)
      → (v : ℤ) → outermost Early value o xs ≡ Some v → IsAtMost (outermost Early low p xs) v
  lower-over [] o p f v e = f v e
  lower-over (x ∷ xs) o p f v e =
      lower-over xs (outer_some Early o (value x)) (outer_some Early p (low x)) (both-lower o p (value x) (low x) f (each x)) v e

  pub lower_over : (xs : List X) (v : ℤ) → outermost Early value None xs ≡ Some v → IsAtMost (outermost Early low None xs) v
  lower_over xs v e = lower-over xs None None (λ w f. absurd (none-some w f)) v e

-- one period less than some
periods_less : (a k : ℕ) → (pos a -ℤ pos 1) *ℤ pos k ≡ pos (a * k) -ℤ pos k
periods_less zero k = omega (arith, ints)
periods_less (suc a) k =
    let one : pos (suc a) -ℤ pos 1 ≡ pos a = omega (arith, ints) in
    let more : suc a * k ≡ a * k + k = suc-mul a k in
    let is : pos (a * k) ≡ pos (suc a * k) -ℤ pos k = omega (arith, ints) in
    ap (λ x. x *ℤ pos k) one ∙ is

periods_grow : (a b k : ℕ) → a ≤ b → ((pos a -ℤ pos 1) *ℤ pos k) ≤ℤ ((pos b -ℤ pos 1) *ℤ pos k)
periods_grow a b k low =
    let one : (pos a -ℤ pos 1) *ℤ pos k ≡ pos (a * k) -ℤ pos k = periods_less a k in
    let other : (pos b -ℤ pos 1) *ℤ pos k ≡ pos (b * k) -ℤ pos k = periods_less b k in
    let grow : a * k ≤ b * k = mul-le-mul_right k low in
    omega (arith, ints)

later_setup : (a b : ℕ) (p : ℤ) → pos 0 ≤ℤ p → a ≤ b → ((pos a -ℤ pos 1) *ℤ p) ≤ℤ ((pos b -ℤ pos 1) *ℤ p)
later_setup a b (pos k) some low = periods_grow a b k low
later_setup a b (negsuc k) some low = absurd (omega (arith, ints))

later_hold : (a b : ℕ) (p : ℤ) → pos 0 ≤ℤ p → a ≤ b → (pos a *ℤ p) ≤ℤ (pos b *ℤ p)
later_hold a b (pos k) some low =
    let grow : a * k ≤ b * k = mul-le-mul_right k low in
    omega (arith, ints)
later_hold a b (negsuc k) some low = absurd (omega (arith, ints))

-- a separation that gives no greater slack
abbrev IsLowBy : Kind → ℤ → ℤ → Type 0
IsLowBy Setup low sep = low ≤ℤ sep
IsLowBy Hold low sep = sep ≤ℤ low

zero_low : (kind : Kind) → IsLowBy kind (pos 0) (pos 0)
zero_low Setup = omega (arith, ints)
zero_low Hold = omega (arith, ints)

-- fewer cycles move a setup's capture edge less, more setup and fewer hold cycles a hold's more
cycles_low : (kind : Kind) (sep : ℤ) (low_setup low_hold setup hold : ℕ) (l c : Clock) → pos 0 ≤ℤ l.period.0 → pos 0 ≤ℤ c.period.0
    → AreLow kind low_setup low_hold setup hold → IsLowBy kind (with_cycles kind sep low_setup low_hold l c) (with_cycles kind sep setup hold l c)
cycles_low Setup sep low_setup low_hold setup hold l c at to low =
    let less : ((pos low_setup -ℤ pos 1) *ℤ c.period.0) ≤ℤ ((pos setup -ℤ pos 1) *ℤ c.period.0) = later_setup low_setup setup c.period.0 to low in
    omega (arith, ints)
cycles_low Hold sep low_setup low_hold setup hold l c at to low =
    let more : ((pos setup -ℤ pos 1) *ℤ c.period.0) ≤ℤ ((pos low_setup -ℤ pos 1) *ℤ c.period.0) = later_setup setup low_setup c.period.0 to low.0 in
    let less : (pos low_hold *ℤ l.period.0) ≤ℤ (pos hold *ℤ l.period.0) = later_hold low_hold hold l.period.0 at low.1 in
    omega (arith, ints)

on-clocks : (kind : Kind) (f g : Clock → Clock → ℤ) (a b : Option Clock)
    → ((l c : Clock) → a ≡ Some l → b ≡ Some c → IsLowBy kind (f l c) (g l c))
    → IsLowBy kind (option_map_or (λ l. option_map_or (f l) b (pos 0)) a (pos 0)) (option_map_or (λ l. option_map_or (g l) b (pos 0)) a (pos 0))
on-clocks kind f g None b h = zero_low kind
on-clocks kind f g (Some l) None h = zero_low kind
on-clocks kind f g (Some l) (Some c) h = h l c refl refl

moved_low : (d : Design) (kind : Kind) (launch : Launch) (capture : Capture) (setup hold : ℕ) (from to : ℕ × Tran) → ArePeriods d
    → AreLow kind setup hold (cycles d.constraints Setup launch capture) (cycles d.constraints Hold launch capture)
    → IsLowBy kind (moved_by d kind setup hold from to) (moved d kind launch capture from to)
moved_low d kind launch capture setup hold from to periods low =
    on-clocks kind (λ l c. with_cycles kind (separation_on d kind from to) setup hold l c)
    (λ l c. with_cycles kind (separation_on d kind from to) (cycles d.constraints Setup launch capture) (cycles d.constraints Hold launch capture) l c)
    (slice_get d.constraints.clocks from.0) (slice_get d.constraints.clocks to.0)
    (λ l c e f. cycles_low kind (separation_on d kind from to) setup hold (cycles d.constraints Setup launch capture) (cycles d.constraints Hold launch capture) l c
    (periods from.0 l e) (periods to.0 c f) low)

slack-low : (kind : Kind) (test : Test) (low_sep sep unc low_credit credit time : ℤ) → IsLowBy kind low_sep sep → low_credit ≤ℤ credit
    → (slack_by kind test low_sep unc low_credit (pos 0) -ℤ signed kind time) ≤ℤ slack_by kind test sep unc credit time
slack-low Setup test low_sep sep unc low_credit credit time low less = let under : low_sep ≤ℤ sep = low in omega (arith, ints)
slack-low Hold test low_sep sep unc low_credit credit time low less = let over : sep ≤ℤ low_sep = low in omega (arith, ints)

-- the lowest slack of a test, less the signed arrival at a launch, is at most the slack of the paths from it
pub slack_low : (d : Design) (kind : Kind) (launch : Launch) (capture : Capture) (edge : ℕ × Tran) (test : Test) (setup hold : ℕ) (low_credit credit time : ℤ) → ArePeriods d
    → AreLow kind setup hold (cycles d.constraints Setup launch capture) (cycles d.constraints Hold launch capture) → low_credit ≤ℤ credit
    → (low_slack d kind setup hold edge test low_credit -ℤ signed kind time)
    ≤ℤ slack_by kind test (moved d kind launch capture edge test.capture) (uncertainty_on d kind test.capture.0) credit time
slack_low d kind launch capture edge test setup hold low_credit credit time periods low less =
    slack-low kind test (moved_by d kind setup hold edge test.capture) (moved d kind launch capture edge test.capture) (uncertainty_on d kind test.capture.0) low_credit credit time
    (moved_low d kind launch capture setup hold edge test.capture periods low) less
