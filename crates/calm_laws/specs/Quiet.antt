-- Nodes that an edit leaves with all that leads to them, and tests that ask the same of a path in two designs.

use Rattle.std.specs.Prelude.{ℕ, ◌≡◌, ⊤, ℤ, Bool, true, List, [], ◌∷◌, map, Option, Some}
use Rattle.std.specs.Option.{option_map_or}
use Rattle.timing_defs.specs.declared.kinds.Split.{Split}
use Rattle.timing_defs.specs.declared.kinds.Tran.{Tran}
use Rattle.timing_defs.specs.declared.kinds.Kind.{Kind}
use Rattle.timing_defs.specs.declared.design.Design.{Design}
use Rattle.timing_rules.specs.Tests.{Test, tests_at}
use Rattle.timing_rules.specs.Paths.{Named, named, node_named, delay_between, start_of, is_network_named, owner_named, spread_at}

-- two tests ask the same of a path
pub record IsSameTest (a b : Test) : Type 0 where
  pub need : b.need ≡ a.need
  pub capture : b.capture ≡ a.capture
  pub early : b.early ≡ a.early
  pub late : b.late ≡ a.late
  pub walk : map named b.walk ≡ map named a.walk

abbrev pub AreSameTests : List Test → List Test → Type 0
AreSameTests [] [] = ⊤
AreSameTests [] (b ∷ bs) = ⊥
AreSameTests (a ∷ more) [] = ⊥
AreSameTests (a ∷ more) (b ∷ bs) = IsSameTest a b × AreSameTests more bs

abbrev pub tests_named : Design → Kind → Named → List Test
tests_named d kind end = option_map_or (tests_at d kind) (node_named d end) []

-- nodes by their names, with each node from which an arc leads to one of them, of which two designs say the same
pub record AreQuiet (d d2 : Design) (quiet : Named → Bool) : Type 0 where
  pub constraints : d2.constraints ≡ d.constraints
  pub delays : (split : Split) (from to : Named) → quiet to ≡ true → delay_between d2 split from to ≡ delay_between d split from to
  pub closed : (split : Split) (from to : Named) (x : ℤ) → quiet to ≡ true → delay_between d split from to ≡ Some x → quiet from ≡ true
  pub starts : (split : Split) (n : Named) → quiet n ≡ true → start_of d2 split n ≡ start_of d split n
  pub network : (n : Named) → quiet n ≡ true → is_network_named d2 n ≡ is_network_named d n
  pub owners : (n : Named) → quiet n ≡ true → owner_named d2 n.0 ≡ owner_named d n.0
  pub spreads : (edge : ℕ × Tran) (n : Named) → quiet n ≡ true → spread_at d2 edge n ≡ spread_at d edge n

-- an endpoint whose nodes are such ones, with the same tests
pub record IsQuietEnd (d d2 : Design) (quiet : Named → Bool) (kind : Kind) (pin : List ℕ) : Type 0 where
  pub end : (tran : Tran) → quiet (pin, tran) ≡ true
  pub tests : (tran : Tran) → AreSameTests (tests_named d kind (pin, tran)) (tests_named d2 kind (pin, tran))
