-- The nodes of a fan-in cone: the end nodes, and each node from which a walk outside the clock network
-- leads to one.

use Rattle.std.specs.Prelude.{ℕ, ◌≡◌, ◌-◌, ◌^◌, ◌<◌, nat_eq, nat_lt, Bool, true, if◌then◌else◌, List, [], All, length, slice_index}
use Rattle.std.specs.List.{list_any}
use Rattle.std.specs.List.Sorted.{IsNonDecreasingBy}
use Rattle.pin_graph.specs.declared.arcs.GraphArc.{GraphArc}
use Rattle.pin_graph.specs.Nodes.{node_bound}
use Rattle.pin_graph.specs.Graphs.{Graphed, network_at, level_at, fan_at}
use Rattle.path_cones.specs.declared.leveling.Leveled.{Leveled}

abbrev pub is_among : List ℕ → ℕ → Bool
is_among nodes n = list_any (nat_eq n) nodes

abbrev pub AreAmong : List ℕ → List GraphArc → Type 0
AreAmong nodes arcs = All (λ arc. is_among nodes arc.from ≡ true) arcs

-- the arcs that a walk follows into a node: none into a node of the clock network
abbrev pub followed : Graphed → ℕ → List GraphArc
followed g n = (if network_at g n then [] else fan_at g.ins n)

-- less than 2^22 nodes with the end nodes among them
pub record AreConeNodes (g : Graphed) (ends nodes : List ℕ) : Type 0 where
  pub targets : All (λ e. is_among nodes e ≡ true) ends
  pub below : (n : ℕ) → is_among nodes n ≡ true → n < node_bound g.stored
  pub few : length nodes < 2 ^ 22

-- with each node those from which arcs are followed into it
abbrev pub AreClosed : Graphed → List ℕ → Type 0
AreClosed g nodes = (n : ℕ) → is_among nodes n ≡ true → AreAmong nodes (followed g n)

-- the same nodes, in this or another order
abbrev pub AreTheSame : List ℕ → List ℕ → Type 0
AreTheSame old new = (n : ℕ) → is_among new n ≡ is_among old n

pub record AreReached (g : Graphed) (ends nodes : List ℕ) : Type 0 where
  pub some : AreConeNodes g ends nodes
  pub sources : AreClosed g nodes

-- each node stands at one place
abbrev pub AreOnce : List ℕ → Type 0
AreOnce nodes = (a b : ℕ) → a < length nodes → b < length nodes → slice_index nodes a ≡ slice_index nodes b → a ≡ b

-- how far a node's level is below the greatest number
abbrev pub depth_at : Graphed → ℕ → ℕ
depth_at g n = (if nat_lt n (node_bound g.stored) then 2 ^ 32 - 1 - level_at g n else 0)

-- a node with its depth
abbrev pub leveled_at : Graphed → ℕ → Leveled
leveled_at g n = record { depth = depth_at g n; node = n }

abbrev pub depth_of : Leveled → ℕ
depth_of l = l.depth

abbrev pub node_of : Leveled → ℕ
node_of l = l.node

-- the nodes of a cone, each once, none after one of a lower level
pub record AreOrdered (g : Graphed) (ends nodes : List ℕ) : Type 0 where
  pub some : AreConeNodes g ends nodes
  pub once : AreOnce nodes
  pub falling : IsNonDecreasingBy (depth_at g) nodes
