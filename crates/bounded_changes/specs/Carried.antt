-- How late, or how early, paths through a change arrive.

use Rattle.std.specs.Prelude.{ℕ, ◌≡◌, ◌⊎◌, ◌≤ℤ◌, ◌<ℤ◌, ◌+ℤ◌, ◌-ℤ◌, ℤ, pos, List, ◌∷◌, true, false, map, Contains, Option, Some, None, option_and_then}
use Rattle.timing_defs.specs.declared.kinds.Split.{Split}
use Rattle.timing_defs.specs.declared.kinds.Split.TheVariants.{Early, Late}
use Rattle.timing_defs.specs.declared.kinds.Tran.{Tran}
use Rattle.timing_defs.specs.declared.kinds.Kind.{Kind}
use Rattle.timing_defs.specs.declared.kinds.Kind.TheVariants.{Setup, Hold}
use Rattle.timing_defs.specs.declared.rows.Launch.{Launch}
use Rattle.timing_defs.specs.declared.rows.Capture.{Capture}
use Rattle.timing_defs.specs.declared.design.Design.{Design}
use Rattle.timing_rules.specs.Rows.{arrival}
use Rattle.timing_rules.specs.Tests.{Test, uncertainty_on}
use Rattle.timing_defs.specs.Kinds.{data_split}
use Rattle.timing_rules.specs.Paths.{Named, named, node_named, delay_between, start_of, spread_at, moved, slack_by}
use Rattle.bounded_changes.specs.Agreed.{Steps, tests_of}

-- a time is there, and beyond another: no less of late ones, no greater of early ones
abbrev pub IsBeyond : Split → Option ℤ → ℤ → Type 0
IsBeyond split None t = ⊥
IsBeyond Early (Some x) t = x ≤ℤ t
IsBeyond Late (Some x) t = t ≤ℤ x

abbrev pub arrival_named : Design → Split → ℕ × Tran → Named → Option ℤ
arrival_named d split edge n = option_and_then (λ node. arrival d split node edge) (node_named d n)

-- a node arrives beyond its start, and beyond each node before it with the delay between them
pub record AreArrivals (d : Design) (split : Split) : Type 0 where
  pub starts : (n : Named) (edge : ℕ × Tran) (t : ℤ) → start_of d split n ≡ Some (edge, t) → IsBeyond split (arrival_named d split edge n) t
  pub steps : (edge : ℕ × Tran) (m n : Named) (t x : ℤ) → arrival_named d split edge m ≡ Some t → delay_between d split m n ≡ Some x
      → IsBeyond split (arrival_named d split edge n) (t +ℤ x)

-- times beyond those of paths to a node of which some step is not agreed on
pub record AreCarried (d : Design) (split : Split) (agreed : Steps) (carried : Named → Option ℤ) : Type 0 where
  pub starts : (n : Named) (edge : ℕ × Tran) (t : ℤ) → agreed None n ≡ false → start_of d split n ≡ Some (edge, t) → IsBeyond split (carried n) t
  pub steps : (edge : ℕ × Tran) (m n : Named) (t x : ℤ) → agreed (Some m) n ≡ false → arrival_named d split edge m ≡ Some t
      → delay_between d split m n ≡ Some x → IsBeyond split (carried n) (t +ℤ x)
  pub onward : (m n : Named) (t x : ℤ) → agreed (Some m) n ≡ true → carried m ≡ Some t → delay_between d split m n ≡ Some x → IsBeyond split (carried n) (t +ℤ x)

-- a path from a node that starts on an edge can share the walk to a test's clock pin
pub record IsSharing (d : Design) (split : Split) (edge : ℕ × Tran) (walk : List Named) : Type 0 where
  pub first : Named
  pub rest : List Named
  pub begins : walk ≡ first ∷ rest
  pub time : ℤ
  pub starts : start_of d split first ≡ Some (edge, time)

-- no path that is launched on an edge has a lesser slack by a test, with its length put back
pub record IsLowest (d : Design) (kind : Kind) (edge : ℕ × Tran) (test : Test) (low : ℤ) : Type 0 where
  pub credit : ℤ
  pub least : credit ≤ℤ pos 0
  pub spreads : IsSharing d (data_split kind) edge (map named test.walk) → (n : Named) → Contains (map named test.walk) n → credit ≤ℤ spread_at d edge n
  pub below : (launch : Launch) (capture : Capture)
      → low ≤ℤ slack_by kind test (moved d kind launch capture edge test.capture) (uncertainty_on d kind test.capture.0) credit (pos 0)

-- what a lowest slack leaves of a length
abbrev pub room : Kind → ℤ → ℤ → ℤ
room Setup low length = low -ℤ length
room Hold low length = low +ℤ length

-- a launch edge on which a node arrives
abbrev pub Arrives : Design → Split → ℕ × Tran → Named → Type 0
Arrives d split edge n = (t : ℤ) × (arrival_named d split edge n ≡ Some t)

-- paths of which some step is not agreed on leave more than a slack at a node to which they carry a time
pub record IsShieldedFrom (d d2 : Design) (kind : Kind) (n : Named) (s c : ℤ) : Type 0 where
  pub low : ℤ
  pub lowest : (edge : ℕ × Tran) → Arrives d (data_split kind) edge n ⊎ Arrives d2 (data_split kind) edge n
      → (test : Test) → Contains (tests_of d2 kind n) test → IsLowest d2 kind edge test low
  pub more : s <ℤ room kind low c

abbrev pub IsShielded : Design → Design → Kind → (Named → Option ℤ) → Named → ℤ → Type 0
IsShielded d d2 kind carried n s = (c : ℤ) → carried n ≡ Some c → IsShieldedFrom d d2 kind n s c
