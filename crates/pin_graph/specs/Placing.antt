-- Places of the clock network's nodes in the order of their levels.

use Rattle.std.specs.Prelude.{ℕ, ◌≡◌, ◌<◌, Bool, true, if◌then◌else◌, List, [], ◌∷◌, length, slice_index, slice_index_or, Option, Some, None, is_some}
use Rattle.std.specs.List.{filter_map, flat_map, range_with_len}
use Rattle.std.specs.List.Sorted.{IsNonDecreasingBy, IsPermutation}
use Rattle.timing_defs.specs.declared.kinds.Tran.TheVariants.{Rise, Fall}
use Rattle.levelizer.specs.declared.links.Link.{Link}
use Rattle.levelizer.specs.Reaching.{has_mark, AreReached}
use Rattle.pin_graph.specs.declared.arcs.GraphArc.{GraphArc}
use Rattle.pin_graph.specs.declared.places.AtLevel.{AtLevel}
use Rattle.pin_graph.specs.Nodes.{node_number, pin_under}
use Rattle.pin_graph.specs.NodeArcs.{marked, node_link}

-- an arc into a network node
abbrev pub network_link : List Bool → GraphArc → Option Link
network_link network arc = (if marked network (pin_under arc.to) then Some (node_link arc) else None)

-- the nodes of a clock's port that is of the network
abbrev pub port_nodes : List Bool → ℕ → List ℕ
port_nodes network port =
    (if marked network port then node_number port Rise ∷ node_number port Fall ∷ [] else [])

-- the nodes of the network that walks from the clocks' ports reach
abbrev pub AreClocked : ℕ → List Bool → List ℕ → List GraphArc → List Bool → Type 0
AreClocked n network ports arcs marks =
    AreReached n (filter_map (network_link network) arcs) (flat_map (port_nodes network) ports) marks

-- a node with its level, where it is marked
abbrev pub at_level : List Bool → List ℕ → ℕ → Option AtLevel
at_level marks levels node = (if has_mark marks node then Some (record { level = slice_index levels node; node = node }) else None)

abbrev pub leveled : ℕ → List Bool → List ℕ → List AtLevel
leveled n marks levels = filter_map (at_level marks levels) (range_with_len 0 n)

-- the marked nodes in the order of their levels
pub record AreOrdered (n : ℕ) (marks : List Bool) (levels : List ℕ) (nodes : List AtLevel) : Type 0 where
  pub order : IsNonDecreasingBy (λ at. at.level) nodes
  pub same : IsPermutation (leveled n marks levels) nodes

-- each node of a list has a place: where it stands in the list
abbrev pub node_in : List AtLevel → ℕ → ℕ
node_in nodes k = (slice_index_or nodes k (record { level = 0; node = 0 })).node

pub record AreInPlace (n : ℕ) (nodes : List AtLevel) (done : ℕ) (places : List (Option ℕ)) : Type 0 where
  pub count : length places ≡ n
  pub told : (node p : ℕ) → slice_index_or places node None ≡ Some p → (p < done) × (node_in nodes p ≡ node)
  pub there : (k : ℕ) → k < done → is_some (slice_index_or places (node_in nodes k) None) ≡ true

-- the places of the nodes that walks reach, in the order of their levels
pub record ArePlaced (n : ℕ) (network : List Bool) (ports : List ℕ) (arcs : List GraphArc) (levels : List ℕ) (places : List (Option ℕ)) : Type 0 where
  pub marks : List Bool
  pub clocked : AreClocked n network ports arcs marks
  pub nodes : List AtLevel
  pub ordered : AreOrdered n marks levels nodes
  pub placed : AreInPlace n nodes (length nodes) places

-- the nodes that have places, in the order of their places
abbrev pub node_of : AtLevel → ℕ
node_of at = at.node

pub record AreInOrder (places : List (Option ℕ)) (order : List ℕ) : Type 0 where
  pub told : (p : ℕ) → p < length order → slice_index_or places (slice_index order p) None ≡ Some p
  pub there : (node p : ℕ) → slice_index_or places node None ≡ Some p → (p < length order) × (slice_index order p ≡ node)
