-- The starts and steps of paths that two designs agree on, and tests that ask the same of a path in both.

use Rattle.std.specs.Prelude.{ℕ, ◌≡◌, ◌<ℤ◌, ℤ, ⊤, Bool, true, false, ◌&&◌, List, [], ◌∷◌, map, Contains, Option, Some, None}
use Rattle.std.specs.Option.{option_map_or}
use Rattle.timing_defs.specs.declared.kinds.Split.{Split}
use Rattle.timing_defs.specs.declared.kinds.Tran.{Tran}
use Rattle.timing_defs.specs.declared.kinds.Kind.{Kind}
use Rattle.timing_defs.specs.declared.design.Design.{Design}
use Rattle.timing_rules.specs.Tests.{Test, tests_at}
use Rattle.timing_rules.specs.Paths.{Named, named, node_named, delay_between, start_of, is_network_named, owner_named, spread_at, ends_at, path_slacks}

-- whether a step is agreed on: from a node to the next, or from nothing to the node at which a path starts
abbrev pub Steps : Type 0
Steps = Option Named → Named → Bool

-- whether all steps of a path are, from the node before its first one on
abbrev pub steps_agreed : Steps → Option Named → Named → List Named → Bool
steps_agreed agreed before n [] = agreed before n
steps_agreed agreed before n (m ∷ ms) = agreed before n && steps_agreed agreed (Some n) m ms

abbrev pub path_agreed : Steps → List Named → Bool
path_agreed agreed [] = true
path_agreed agreed (n ∷ ms) = steps_agreed agreed None n ms

-- two designs say the same of the steps that are agreed on
pub record AreAgreed (d d2 : Design) (split : Split) (agreed : Steps) : Type 0 where
  pub constraints : d2.constraints ≡ d.constraints
  pub starts : (n : Named) → agreed None n ≡ true → start_of d2 split n ≡ start_of d split n
  pub delays : (from to : Named) → agreed (Some from) to ≡ true → delay_between d2 split from to ≡ delay_between d split from to
  pub network : (before : Option Named) (n : Named) → agreed before n ≡ true → is_network_named d2 n ≡ is_network_named d n
  pub owners : (before : Option Named) (n : Named) → agreed before n ≡ true → owner_named d2 n.0 ≡ owner_named d n.0

abbrev pub tests_of : Design → Kind → Named → List Test
tests_of d kind end = option_map_or (tests_at d kind) (node_named d end) []

-- two tests ask the same of a path, and so do the start of the walk to their clock pin and the arrivals along it
pub record IsKeptTest (d d2 : Design) (a b : Test) : Type 0 where
  pub need : b.need ≡ a.need
  pub capture : b.capture ≡ a.capture
  pub early : b.early ≡ a.early
  pub late : b.late ≡ a.late
  pub walk : map named b.walk ≡ map named a.walk
  pub starts : (split : Split) (n : Named) → Contains (map named a.walk) n → start_of d2 split n ≡ start_of d split n
  pub spreads : (edge : ℕ × Tran) (n : Named) → Contains (map named a.walk) n → spread_at d2 edge n ≡ spread_at d edge n

abbrev pub AreKeptTests : Design → Design → List Test → List Test → Type 0
AreKeptTests d d2 [] [] = ⊤
AreKeptTests d d2 [] (b ∷ bs) = ⊥
AreKeptTests d d2 (a ∷ more) [] = ⊥
AreKeptTests d d2 (a ∷ more) (b ∷ bs) = IsKeptTest d d2 a b × AreKeptTests d d2 more bs

-- the tests of both nodes of a pin
abbrev pub IsKeptEnd : Design → Design → Kind → List ℕ → Type 0
IsKeptEnd d d2 kind pin = (tran : Tran) → AreKeptTests d d2 (tests_of d kind (pin, tran)) (tests_of d2 kind (pin, tran))

-- each slack of a path to a pin of which some step is not agreed on is greater than another
abbrev pub AreGreater : Design → Kind → List ℕ → Steps → ℤ → Type 0
AreGreater d kind pin agreed s =
    (path : List Named) (test : Test) (t : ℤ) → ends_at pin path ≡ true → path_agreed agreed path ≡ false → Contains (path_slacks d kind path) (test, t) → s <ℤ t
