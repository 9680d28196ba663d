-- The arcs of each node, of lists that are shared.

use Rattle.std.specs.Prelude.{ℕ, ◌≡◌, ◌-◌, ◌++◌, List, [], length, replicate, slice_set, Some, None}
use Rattle.pin_graph.specs.declared.arcs.GraphArc.{GraphArc}
use Rattle.pin_graph.specs.declared.fans.Fan.{Fan}
use Rattle.pin_graph.specs.declared.held_fans.Fans.{Fans}

-- the lists of a fan, before any node was given another
pub record IsHeldFan (n : ℕ) (fan : Fan) (fans : Fans) : Type 0 where
  pub first : fans.first ≡ fan
  pub later : fans.later ≡ replicate n None

-- a node is given another list
abbrev pub with_list : Fans → ℕ → List GraphArc → Fans
with_list fans node arcs = record { first = fans.first; later = slice_set fans.later node (Some arcs) }

-- nodes without arcs are added, up to that number
abbrev pub longer : Fans → ℕ → Fans
longer fans n = record { first = fans.first; later = fans.later ++ replicate (n - length fans.later) (Some []) }
