-- Walks over the clock network by the numbers of nodes, from a node back to the clock's port on which they start.

use Rattle.std.specs.Prelude.{ℕ, ◌≡◌, ◌<◌, ⊤, Bool, true, false, if◌then◌else◌, List, [], ◌∷◌, Option, None, Some}
use Rattle.std.specs.List.{position}
use Rattle.std.specs.Option.{option_map_or}
use Rattle.std.specs.Str.{bytes_eq}
use Rattle.timing_defs.specs.declared.constraints.Clock.{Clock}
use Rattle.timing_defs.specs.declared.design.Design.{Design}
use Rattle.timing_defs.specs.Netlist.{Pin, Node}
use Rattle.timing_rules.specs.Clocking.{is_network, is_clock_port}
use Rattle.timing_rules.specs.Tests.{network_walk, first_edge}
use Rattle.netlist_store.specs.Numbering.{Stored}
use Rattle.pin_graph.specs.declared.arcs.GraphArc.{GraphArc}
use Rattle.pin_graph.specs.Nodes.{node_at, node_bound}
use Rattle.pin_graph.specs.Graphs.{Graphed, fan_at}
use Rattle.node_tests.specs.declared.climbs.WalkStart.{WalkStart}

-- the port of a clock has this name
abbrev pub has_clock : List ℕ → Clock → Bool
has_clock port clock = option_map_or (bytes_eq port) clock.port false

-- the clock whose port a pin is, by its place
abbrev pub clock_of : Design → Pin → Option ℕ
clock_of d pin = (if is_clock_port d pin then position (has_clock pin.own) d.constraints.clocks else None)

-- the node from which the first of some arcs leads
abbrev pub first_from : List GraphArc → Option ℕ
first_from [] = None
first_from (arc ∷ arcs) = Some arc.from

-- the walk to one node begins as that to another; neither is there where the other is not
pub record IsBehind (d : Design) (top node : Node) : Type 0 where
  pub some : (first : Node) (rest : List Node) → network_walk d top ≡ Some (first ∷ rest) → (more : List Node) × (network_walk d node ≡ Some (first ∷ more))
  pub none : network_walk d top ≡ None → network_walk d node ≡ None

-- a node of the clock network from which a walk leads to another
pub record IsAbove (g : Graphed) (node top : ℕ) : Type 0 where
  pub to : Node
  pub to_number : node_at g.stored node ≡ Some to
  pub from : Node
  pub from_number : node_at g.stored top ≡ Some from
  pub low : top < node_bound g.stored
  pub network : is_network g.stored.design from.pin ≡ true
  pub behind : IsBehind g.stored.design from to

-- no arc leads to the uppermost
pub record IsTop (g : Graphed) (node top : ℕ) : Type 0 where
  pub above : IsAbove g node top
  pub first : fan_at g.ins top ≡ []

-- the clock port's node on which a walk starts, and its launch edge
pub record IsStart (s : Stored) (walk : List Node) (start : WalkStart) : Type 0 where
  pub first : Node
  pub rest : List Node
  pub begins : walk ≡ first ∷ rest
  pub number : node_at s start.node ≡ Some first
  pub edge : first_edge s.design walk ≡ Some (start.clock, start.tran)

-- a walk has a start, where there is one
abbrev pub StartsOn : Stored → Option (List Node) → Option WalkStart → Type 0
StartsOn s None None = ⊤
StartsOn s (Some walk) (Some start) = IsStart s walk start
StartsOn s None (Some start) = ⊥
StartsOn s (Some walk) None = ⊥
