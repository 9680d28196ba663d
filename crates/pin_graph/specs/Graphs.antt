-- The timing graph of a design: nodes are pins with transitions, arcs are those of nets, cells and
-- registers, and the nodes of the clock network have places (TAU 2015; OpenTimer's timing graph).

use Rattle.std.specs.Prelude.{ℕ, ◌≡◌, ◌+◌, ◌<◌, ◌≤◌, nat_eq, Bool, false, ◌&&◌, ◌||◌, if◌then◌else◌, List, map, length, slice_index, slice_index_or, Contains, Option, Some, None, is_some, count_by}
use Rattle.std.specs.List.{list_any, range_with_len}
use Rattle.std.specs.Option.{option_map_or, unwrap_or}
use Rattle.timing_defs.specs.declared.design.Design.{Design}
use Rattle.timing_defs.specs.Netlist.{Node, is_driver}
use Rattle.timing_rules.specs.Clocking.{is_network, is_clock_port}
use Rattle.timing_rules.specs.Rows.{arcs_in}
use Rattle.timing_rules.specs.Checks.{HasNoLoop, clock_not_tree}
use Rattle.timing_rules.specs.Cones.{has_comb_arc, has_register_arc}
use Rattle.netlist_store.specs.Numbering.{Stored, pin_numbered}
use Rattle.levelizer.specs.Levels.{greatest}
use Rattle.pin_graph.specs.declared.arcs.GraphKind.{GraphKind}
use Rattle.pin_graph.specs.declared.arcs.GraphKind.TheVariants.{Net, Cell, Register}
use Rattle.pin_graph.specs.declared.arcs.GraphArc.{GraphArc}
use Rattle.pin_graph.specs.declared.held_fans.Fans.{Fans}
use Rattle.pin_graph.specs.Fans.{room_of, IsRoom}
use Rattle.pin_graph.specs.Nodes.{node_at, node_bound, pin_under}

-- the arcs of a node: of the list that it was given later, else those that it had at first
abbrev pub fan_at : Fans → ℕ → List GraphArc
fan_at fans node = unwrap_or (slice_index_or fans.later node None) (room_of fans.first node)

-- one list for each number below `n`
pub record IsFans (n : ℕ) (fans : Fans) : Type 0 where
  pub count : length fans.later ≡ n
  pub room : (node : ℕ) → node < n → slice_index_or fans.later node None ≡ None → IsRoom fans.first node

-- a store, the arcs into and out of each node, whether each pin is of the clock network, the levels of
-- nodes, and their places in the network; nodes and pins by their numbers
pub record Graphed : Type 0 where
  pub stored : Stored
  pub ins : Fans
  pub outs : Fans
  pub network : List Bool
  pub levels : List ℕ
  pub places : List (Option ℕ)

abbrev pub network_at : Graphed → ℕ → Bool
network_at g node = slice_index_or g.network (pin_under node) false

abbrev pub level_at : Graphed → ℕ → ℕ
level_at g node = slice_index g.levels node

abbrev pub place_at : Graphed → ℕ → Option ℕ
place_at g node = slice_index_or g.places node None

-- an arc of a net, of a cell (some library arc between its nodes is combinational), or of a register
abbrev pub kind_between : Design → Node → Node → GraphKind
kind_between d from to = (if is_driver to.pin then (if has_comb_arc d from to then Cell else Register) else Net)

-- an arc of the design, by the numbers of its nodes
pub record IsArc (s : Stored) (arc : GraphArc) : Type 0 where
  pub from : Node
  pub from_number : node_at s arc.from ≡ Some from
  pub to : Node
  pub to_number : node_at s arc.to ≡ Some to
  pub within : Contains (arcs_in s.design to) from
  pub kind : arc.kind ≡ kind_between s.design from to
  pub edge : arc.edge ≡ has_register_arc s.design from to

abbrev pub from_of : GraphArc → ℕ
from_of arc = arc.from

abbrev pub to_of : GraphArc → ℕ
to_of arc = arc.to

-- the arcs of the design that have a node at one end, and no others; one for each node at the other end
pub record AreArcs (s : Stored) (near far : GraphArc → ℕ) (node : ℕ) (arcs : List GraphArc) : Type 0 where
  pub sound : (arc : GraphArc) → Contains arcs arc → IsArc s arc × (near arc ≡ node)
  pub all : (arc : GraphArc) → IsArc s arc → near arc ≡ node → Contains arcs arc
  pub once : (other : ℕ) → count_by (λ arc. nat_eq (far arc) other) arcs ≤ 1

-- a test of the node of a number; a gap fails
abbrev pub of_node : Stored → (Node → Bool) → ℕ → Bool
of_node s test node = option_map_or test (node_at s node) false

-- a network node is placed where it is a clock port's or an arc leads to it from a placed one; places
-- are distinct, below the number of network nodes, and rise along arcs
pub record ArePlaces (g : Graphed) : Type 0 where
  pub count : length g.places ≡ node_bound g.stored
  pub there : (node : ℕ) → node < node_bound g.stored → is_some (place_at g node)
      ≡ (of_node g.stored (λ n. is_network g.stored.design n.pin) node
      && (of_node g.stored (λ n. is_clock_port g.stored.design n.pin) node || list_any (λ arc. is_some (place_at g arc.from)) (fan_at g.ins node)))
  pub distinct : (a b p : ℕ) → place_at g a ≡ Some p → place_at g b ≡ Some p → a ≡ b
  pub below : (node p : ℕ) → place_at g node ≡ Some p → p < count_by (network_at g) (range_with_len 0 (node_bound g.stored))
  pub rising : (node p q : ℕ) (arc : GraphArc) → node < node_bound g.stored → Contains (fan_at g.ins node) arc
      → place_at g arc.from ≡ Some p → place_at g node ≡ Some q → p < q

-- the nodes that have places, in the order of these
pub record AreClockNodes (g : Graphed) (nodes : List ℕ) : Type 0 where
  pub told : (p : ℕ) → p < length nodes → (slice_index nodes p < node_bound g.stored) × (place_at g (slice_index nodes p) ≡ Some p)
  pub there : (node p : ℕ) → place_at g node ≡ Some p → (p < length nodes) × (slice_index nodes p ≡ node)

-- each node below the bound has a level: 0 without arcs in, else one more than its greatest predecessor's
pub record AreNodeLevels (g : Graphed) : Type 0 where
  pub count : length g.levels ≡ node_bound g.stored
  pub level : (node : ℕ) → node < node_bound g.stored → level_at g node ≡ greatest (map (λ arc. level_at g arc.from + 1) (fan_at g.ins node))

-- each pin below the bound is of the clock network, or not
pub record AreNetworkPins (g : Graphed) : Type 0 where
  pub count : length g.network ≡ length g.stored.pins
  pub each : (pin : ℕ) → pin < length g.stored.pins
      → slice_index_or g.network pin false ≡ option_map_or (is_network g.stored.design) (pin_numbered g.stored pin) false

-- the graph of its store: its arcs, levels, clock network and places; the design has no loop, and its
-- clock network is a tree
pub record IsGraph (g : Graphed) : Type 0 where
  pub in_fan : IsFans (node_bound g.stored) g.ins
  pub out_fan : IsFans (node_bound g.stored) g.outs
  pub ins : (node : ℕ) → node < node_bound g.stored → AreArcs g.stored to_of from_of node (fan_at g.ins node)
  pub outs : (node : ℕ) → node < node_bound g.stored → AreArcs g.stored from_of to_of node (fan_at g.outs node)
  pub network : AreNetworkPins g
  pub levels : AreNodeLevels g
  pub places : ArePlaces g
  pub no_loop : HasNoLoop g.stored.design
  pub tree : clock_not_tree g.stored.design ≡ None
