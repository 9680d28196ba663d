-- The library arcs and net arcs of a design between the numbers of nodes: those that stand, before
-- several between the same two nodes are made one; and what one arc for several tells.

use Rattle.std.specs.Prelude.{ℕ, ◌≡◌, ◌<◌, ◌≤◌, ◌==◌, nat_eq, nat_lt, Bool, false, true, not, ◌&&◌, ◌||◌, if◌then◌else◌, List, [], ◌∷◌, ◌++◌, All, Contains, filter, length, count_by, slice_index, slice_index_or, Option, Some, None}
use Rattle.std.specs.List.{list_any, filter_map, flat_map, range_with_len}
use Rattle.std.specs.Option.{option_map_or}
use Rattle.timing_defs.specs.declared.kinds.Tran.TheVariants.{Rise, Fall}
use Rattle.netlist_store.specs.Numbering.{Stored}
use Rattle.levelizer.specs.declared.links.Link.{Link}
use Rattle.pin_graph.specs.declared.arcs.GraphKind.{GraphKind}
use Rattle.pin_graph.specs.declared.arcs.GraphKind.TheVariants.{Net, Cell, Register}
use Rattle.pin_graph.specs.declared.arcs.GraphArc.{GraphArc}
use Rattle.pin_graph.specs.declared.pin_arcs.PinArc.{PinArc}
use Rattle.pin_graph.specs.Joins.{before, pin_arcs}
use Rattle.pin_graph.specs.Networks.{is_comb_arc}
use Rattle.pin_graph.specs.Nodes.{node_number}

-- whether a pin is of the clock network
abbrev pub marked : List Bool → ℕ → Bool
marked network pin = slice_index_or network pin false

-- a network pin is entered from network pins alone
abbrev pub may_enter : List Bool → ℕ → ℕ → Bool
may_enter network from to = not (marked network to) || marked network from

-- a register arc stands only where its clock pin is a network pin and its output is not
abbrev pub stands : List Bool → PinArc → Bool
stands network arc = is_comb_arc arc || (marked network arc.from && not (marked network arc.to))

abbrev pub is_cell : GraphKind → Bool
is_cell Net = false
is_cell Cell = true
is_cell Register = false

-- an arc of a cell between nodes
abbrev pub node_arc : PinArc → GraphArc
node_arc arc =
    record {
      from = node_number arc.from arc.from_tran;
      to = node_number arc.to arc.to_tran;
      kind = (if is_comb_arc arc then Cell else Register);
      edge = not (is_comb_arc arc);
    }

abbrev pub standing_arc : List Bool → PinArc → Option GraphArc
standing_arc network arc = (if stands network arc && may_enter network arc.from arc.to then Some (node_arc arc) else None)

-- the arcs of a net into a pin, one for each transition
abbrev pub net_arc : ℕ → ℕ → GraphArc
net_arc from to = record { from = from; to = to; kind = Net; edge = false }

abbrev pub net_pair : List Bool → ℕ → ℕ → List GraphArc
net_pair network to from =
    (if may_enter network from to
    then net_arc (node_number from Rise) (node_number to Rise) ∷ net_arc (node_number from Fall) (node_number to Fall) ∷ []
    else [])

abbrev pub net_arcs_into : Stored → List Bool → ℕ → List GraphArc
net_arcs_into s network pin = option_map_or (net_pair network pin) (before s pin) []

abbrev pub net_node_arcs : Stored → List Bool → List GraphArc
net_node_arcs s network = flat_map (net_arcs_into s network) (range_with_len 0 (length s.pins))

abbrev pub node_arcs : Stored → List Bool → List GraphArc
node_arcs s network = net_node_arcs s network ++ filter_map (standing_arc network) (pin_arcs s)

-- those into a node
abbrev pub raw_into : Stored → List Bool → ℕ → List GraphArc
raw_into s network node = filter (λ arc. arc.to == node) (node_arcs s network)

-- some arc from a node is combinational; is of a register
abbrev pub has_comb_from : List GraphArc → ℕ → Bool
has_comb_from arcs from = list_any (λ arc. nat_eq arc.from from && is_cell arc.kind) arcs

abbrev pub has_edge_from : List GraphArc → ℕ → Bool
has_edge_from arcs from = list_any (λ arc. nat_eq arc.from from && arc.edge) arcs

-- an arc is as one of some arcs from the same node
pub record IsAlike (arcs : List GraphArc) (arc : GraphArc) : Type 0 where
  pub item : GraphArc
  pub within : Contains arcs item
  pub from : item.from ≡ arc.from
  pub kind : item.kind ≡ arc.kind

-- one arc stands for all arcs from the same node; where all lead to one node it does too
pub record AreJoined (arcs joined : List GraphArc) : Type 0 where
  pub sound : (arc : GraphArc) → Contains joined arc → IsAlike arcs arc
  pub cell : (arc : GraphArc) → Contains joined arc → is_cell arc.kind ≡ has_comb_from arcs arc.from
  pub edge : (arc : GraphArc) → Contains joined arc → arc.edge ≡ has_edge_from arcs arc.from
  pub all : (arc : GraphArc) → Contains arcs arc → list_any (λ one. nat_eq one.from arc.from) joined ≡ true
  pub once : (from : ℕ) → count_by (λ one. nat_eq one.from from) joined ≤ 1
  pub to : (node : ℕ) → ((arc : GraphArc) → Contains arcs arc → arc.to ≡ node) → (arc : GraphArc) → Contains joined arc → arc.to ≡ node

abbrev pub joined_kind : GraphKind → GraphKind → GraphKind
joined_kind a b = (if is_cell b then Cell else a)

abbrev pub joined_arc : GraphArc → GraphArc → GraphArc
joined_arc a b = record { from = a.from; to = a.to; kind = joined_kind a.kind b.kind; edge = a.edge || b.edge }

-- each arc joins two nodes below `n`
abbrev pub AreNodes : ℕ → List GraphArc → Type 0
AreNodes n arcs = All (λ arc. (arc.from < n) × (arc.to < n)) arcs

-- for each node one arc for all arcs from the same node to it
pub record AreMerged (n : ℕ) (raw arcs : List GraphArc) : Type 0 where
  pub nodes : AreNodes n arcs
  pub each : (node : ℕ) → node < n → AreJoined (filter (λ arc. arc.to == node) raw) (filter (λ arc. arc.to == node) arcs)

-- some arcs more, joined
pub record IsJoinedTo (fan before after : List GraphArc) : Type 0 where
  pub joined : List GraphArc
  pub one_each : AreJoined fan joined
  pub put : after ≡ before ++ joined

-- an arc without what it is of
abbrev pub node_link : GraphArc → Link
node_link arc = record { from = arc.from; to = arc.to }

-- the place of each arc is noted at the node from which it leads
abbrev pub none_arc : GraphArc
none_arc = record { from = 0; to = 0; kind = Net; edge = false }

abbrev pub AreNoted : List GraphArc → List ℕ → Type 0
AreNoted arcs places = (k : ℕ) → k < length arcs → slice_index places (slice_index_or arcs k none_arc).from ≡ k

-- the place noted at a node, where an arc from there stands at it
abbrev pub noted_place : List GraphArc → List ℕ → ℕ → Option ℕ
noted_place arcs places from =
    (if nat_lt (slice_index places from) (length arcs) && nat_eq (slice_index_or arcs (slice_index places from) none_arc).from from
    then Some (slice_index places from) else None)
