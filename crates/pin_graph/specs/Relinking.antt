-- The arcs into a node by the links into its pin, and the arcs of nodes after those into some were found anew.

use Rattle.std.specs.Prelude.{ℕ, ◌≡◌, ◌==◌, nat_eq, Bool, true, false, not, if◌then◌else◌, List, ◌++◌, filter, Option, Some, None, option_and_then}
use Rattle.std.specs.List.{list_any, filter_map}
use Rattle.std.specs.Option.{option_to_list}
use Rattle.timing_defs.specs.declared.kinds.Tran.{Tran}
use Rattle.netlist_store.specs.Numbering.{Stored}
use Rattle.pin_graph.specs.declared.arcs.GraphArc.{GraphArc}
use Rattle.pin_graph.specs.declared.held_fans.Fans.{Fans}
use Rattle.pin_graph.specs.declared.pin_arcs.PinArc.{PinArc}
use Rattle.pin_graph.specs.Nodes.{node_number, node_bound, pin_under}
use Rattle.pin_graph.specs.NodeArcs.{may_enter, net_arc, standing_arc, raw_into, AreJoined}
use Rattle.pin_graph.specs.Graphs.{fan_at, IsFans}
use Rattle.pin_graph.specs.Kept.{AreTurned}

-- the arc into a node from the pin that drives its net
abbrev pub driven_arc : List Bool → ℕ → Tran → ℕ → Option GraphArc
driven_arc network pin tran from =
    (if may_enter network from pin then Some (net_arc (node_number from tran) (node_number pin tran)) else None)

-- a library arc that stands and leads to a node
abbrev pub standing_into : List Bool → ℕ → PinArc → Option GraphArc
standing_into network node arc = (if node_number arc.to arc.to_tran == node then standing_arc network arc else None)

-- the arcs into a pin's node, of the pin before it and the library arcs into it
abbrev pub pulled : List Bool → Option ℕ → List PinArc → ℕ → Tran → List GraphArc
pulled network before library pin tran =
    option_to_list (option_and_then (driven_arc network pin tran) before) ++ filter_map (standing_into network (node_number pin tran)) library

-- arcs without the one to a node
abbrev pub leads_elsewhere : ℕ → GraphArc → Bool
leads_elsewhere node arc = not (arc.to == node)

-- the arcs into a node were taken out of the lists of the nodes from which they led
pub record AreTaken (n node : ℕ) (old : List GraphArc) (before after : Fans) : Type 0 where
  pub fans : IsFans n after
  pub each : (m : ℕ) → fan_at after m
      ≡ (if list_any (λ arc. nat_eq arc.from m) old then filter (leads_elsewhere node) (fan_at before m) else fan_at before m)

-- some arcs were added to the lists of the nodes from which they lead
pub record ArePut (n : ℕ) (new : List GraphArc) (before after : Fans) : Type 0 where
  pub fans : IsFans n after
  pub each : (m : ℕ) → fan_at after m ≡ fan_at before m ++ filter (λ arc. nat_eq arc.from m) new

-- one list for each node, and at both ends the same arcs
pub record AreBothFans (n : ℕ) (ins outs : Fans) : Type 0 where
  pub in_fan : IsFans n ins
  pub out_fan : IsFans n outs
  pub outward : AreTurned n (fan_at ins) (fan_at outs)

-- the arcs into a node are those of a list
pub record IsPutNode (n node : ℕ) (arcs : List GraphArc) (before ins outs : Fans) : Type 0 where
  pub both : AreBothFans n ins outs
  pub here : fan_at ins node ≡ arcs
  pub others : (m : ℕ) → (m ≡ node → ⊥) → fan_at ins m ≡ fan_at before m

-- the arcs into a node are joined of those that the store has
pub record IsNodeRelinked (s : Stored) (network : List Bool) (node : ℕ) (before ins outs : Fans) : Type 0 where
  pub both : AreBothFans (node_bound s) ins outs
  pub joined : AreJoined (raw_into s network node) (fan_at ins node)
  pub others : (m : ℕ) → (m ≡ node → ⊥) → fan_at ins m ≡ fan_at before m

-- the same of the nodes of some pins
pub record AreRelinked (s : Stored) (network : List Bool) (pins : List ℕ) (before ins outs : Fans) : Type 0 where
  pub both : AreBothFans (node_bound s) ins outs
  pub joined : (node : ℕ) → list_any (nat_eq (pin_under node)) pins ≡ true → AreJoined (raw_into s network node) (fan_at ins node)
  pub others : (node : ℕ) → list_any (nat_eq (pin_under node)) pins ≡ false → fan_at ins node ≡ fan_at before node
