-- Nodes in the order of their levels.

use Rattle.std.specs.Prelude.{ℕ, ◌≡◌, nat_lt, if◌then◌else◌, List}
use Rattle.edit_reach.specs.Reach.{is_in}
use Rattle.pin_graph.specs.Nodes.{node_bound}
use Rattle.pin_graph.specs.Graphs.{Graphed, level_at}
use Rattle.carried_times.specs.declared.ordering.Leveled.{Leveled}

abbrev pub leveled_at : Graphed → ℕ → Leveled
leveled_at g n = record { level = (if nat_lt n (node_bound g.stored) then level_at g n else 0); node = n }

abbrev pub node_of : Leveled → ℕ
node_of l = l.node

-- the same numbers in another order
abbrev pub AreSame : List ℕ → List ℕ → Type 0
AreSame nodes ordered = (n : ℕ) → is_in ordered n ≡ is_in nodes n
