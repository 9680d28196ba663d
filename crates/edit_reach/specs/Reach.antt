-- What the seeds of an edit lead to, and the pins beside it, by numbers of the edited store.

use Rattle.std.specs.Prelude.{ℕ, ◌≡◌, ◌⊎◌, ◌<◌, nat_eq, Bool, true, false, List, All, Some}
use Rattle.std.specs.List.{list_any}
use Rattle.std.specs.Option.{option_map_or}
use Rattle.timing_defs.specs.Netlist.{Node}
use Rattle.timing_defs.specs.Touches.{Touch}
use Rattle.timing_rules.specs.Cones.{is_seed}
use Rattle.timing_rules.specs.Tests.{is_endpoint}
use Rattle.netlist_store.specs.Numbering.{Stored, is_number, owner_number, pin_numbered}
use Rattle.pin_graph.specs.Nodes.{node_at, node_bound, pin_under}
use Rattle.pin_graph.specs.Graphs.{Graphed, fan_at}

abbrev pub is_in : List ℕ → ℕ → Bool
is_in nodes n = list_any (nat_eq n) nodes

-- each seed is in a list of nodes
pub record HasSeeds (base edited : Stored) (touch : Touch) (seeds : List ℕ) : Type 0 where
  pub each : (n : ℕ) (node : Node) → node_at edited n ≡ Some node → is_seed base.design edited.design touch node ≡ true → is_in seeds n ≡ true

-- the seeds, and with each node those to which arcs lead from it
pub record AreBehind (g : Graphed) (seeds nodes : List ℕ) : Type 0 where
  pub first : (n : ℕ) → is_in seeds n ≡ true → is_in nodes n ≡ true
  pub onward : (n : ℕ) → is_in nodes n ≡ true → All (λ arc. is_in nodes arc.to ≡ true) (fan_at g.outs n)
  pub below : (n : ℕ) → is_in nodes n ≡ true → n < node_bound g.stored

-- two pins are one, or of one instance
abbrev pub IsBeside : Stored → ℕ → ℕ → Type 0
IsBeside s p q = (p ≡ q) ⊎ ((inst : ℕ) × (owner_number s p ≡ Some inst) × (owner_number s q ≡ Some inst))

-- the pins of seeds are in a list, and of the nodes behind them each endpoint that is of one or beside its pin
pub record HasDirty (s : Stored) (seeds nodes dirty : List ℕ) : Type 0 where
  pub first : (n : ℕ) → is_in seeds n ≡ true → is_in dirty (pin_under n) ≡ true
  pub each : (n pin : ℕ) → is_in nodes n ≡ true → is_number s.pins pin ≡ true → option_map_or (is_endpoint s.design) (pin_numbered s pin) false ≡ true → IsBeside s (pin_under n) pin → is_in dirty pin ≡ true
