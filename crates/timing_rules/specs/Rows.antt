-- The row of a node: its slews, and its arrivals for each launch edge, by recursion over the arcs
-- in (graph-based analysis as in OpenTimer; derates as in SDC). Nothing is stored.

use Rattle.std.specs.Prelude.{ℕ, ◌+◌, ◌^◌, zero, suc, ℤ, pos, ◌*ℤ◌, nat_eq, nat_lt, Bool, true, false, not, ◌&&◌, ◌||◌, if◌then◌else◌, List, [], ◌∷◌, map, filter, length, slice_get, Option, Some, None, find, option_map, option_and_then}
use Rattle.std.specs.List.{filter_map, flat_map}
use Rattle.std.specs.Option.{option_map_or, unwrap_or}
use Rattle.std.specs.Int.{int_max, int_min}
use Rattle.std.specs.Str.{bytes_eq}
use Rattle.sta_units.specs.Numbers.{rounded}
use Rattle.sta_units.specs.declared.units.Fs.{Fs}
use Rattle.timing_defs.specs.declared.kinds.Split.{Split}
use Rattle.timing_defs.specs.declared.kinds.Split.TheVariants.{Early, Late}
use Rattle.timing_defs.specs.declared.kinds.Tran.{Tran}
use Rattle.timing_defs.specs.declared.kinds.Tran.TheVariants.{Rise, Fall}
use Rattle.timing_defs.specs.declared.library.CellArc.{CellArc}
use Rattle.timing_defs.specs.declared.constraints.Clock.{Clock}
use Rattle.timing_defs.specs.declared.constraints.PortDelay.{PortDelay}
use Rattle.timing_defs.specs.declared.constraints.PortSlew.{PortSlew}
use Rattle.timing_defs.specs.declared.constraints.Derates.{Derates}
use Rattle.timing_defs.specs.declared.netlist.Inst.{Inst}
use Rattle.timing_defs.specs.declared.design.Design.{Design}
use Rattle.timing_defs.specs.declared.edge_times.EdgeTime.{EdgeTime}
use Rattle.timing_defs.specs.declared.rows.NodeRow.{NodeRow}
use Rattle.timing_defs.specs.Lookup.{look}
use Rattle.timing_defs.specs.Netlist.{Pin, Node, same_tran, same_split, cell_of, inst_pins, both_nodes, net_of, is_driver, nodes}
use Rattle.timing_defs.specs.Wires.{load_of, wire_delay, wire_slew}
use Rattle.timing_defs.specs.Kinds.{is_comb}
use Rattle.timing_defs.specs.RowTimes.{slew_in, times_in, time_on, plus_some}
use Rattle.timing_rules.specs.Clocking.{cell_arcs, driver_on, is_network, is_clock_port}

-- a register arc stands only where its clock pin is a network pin and its output is not
abbrev pub stands : Design → Pin → Pin → CellArc → Bool
stands d from to arc = is_comb arc || (is_network d from && not (is_network d to))

-- the arcs of the instance's cell, in the split's library, from one node to another
abbrev pub joins : Design → Node → Node → CellArc → Bool
joins d from to arc =
    bytes_eq arc.from from.pin.own && same_tran arc.from_tran from.tran
    && bytes_eq arc.to to.pin.own && same_tran arc.to_tran to.tran && stands d from.pin to.pin arc

abbrev pub library_arcs : Design → Split → Node → Node → List CellArc
library_arcs d split from to =
    option_map_or (λ inst. filter (joins d from to) (cell_arcs (cell_of d split inst))) to.pin.owner []

-- a net arc leads from a net's driver to each sink and keeps the transition; a cell or register arc
-- leads to an output pin from each node of its instance from which some library arc leads
abbrev pub net_arcs_in : Design → Node → List Node
net_arcs_in d to = map (λ pin. record { pin = pin; tran = to.tran }) (driver_on d (net_of to.pin))

abbrev pub cell_arcs_in : Design → Node → Inst → List Node
cell_arcs_in d to inst =
    filter (λ from. nat_lt 0 (length (library_arcs d Late from to))) (flat_map both_nodes (inst_pins d inst))

abbrev pub all_arcs_in : Design → Node → List Node
all_arcs_in d to = (if is_driver to.pin then option_map_or (cell_arcs_in d to) to.pin.owner [] else net_arcs_in d to)

-- the nodes from which an arc leads to a node; a network pin is entered from network pins alone
unfoldable pub arcs_in : Design → Node → List Node
arcs_in d to = filter (λ from. not (is_network d to.pin) || is_network d from.pin) (all_arcs_in d to)

-- the greater of two late values, the lesser of two early ones
abbrev pub outer : Split → ℤ → ℤ → ℤ
outer Early x y = int_min x y
outer Late x y = int_max x y

abbrev pub outer_some : Split → Option ℤ → Option ℤ → Option ℤ
outer_some split None y = y
outer_some split (Some x) None = Some x
outer_some split (Some x) (Some y) = Some (outer split x y)

-- the outermost value over a list, where there is one
abbrev pub outermost : {X : Type 0} → Split → (X → Option ℤ) → Option ℤ → List X → Option ℤ
outermost split value best [] = best
outermost split value best (x ∷ xs) = outermost split value (outer_some split best (value x)) xs

abbrev pub load_at : Design → Split → Pin → ℤ
load_at d split pin = load_of d split (net_of pin)

abbrev pub net_name : Pin → List ℕ
net_name pin = unwrap_or (net_of pin) []

-- the slew and the delay along an arc that begins with this slew
abbrev pub slew_along : Design → Split → Node → Node → ℤ → Option ℤ
slew_along d split from to slew =
    (if is_driver to.pin
    then outermost split (λ arc. Some (look arc.slew slew (load_at d split to.pin))) None (library_arcs d split from to)
    else Some (wire_slew d split (net_name to.pin) from.pin to.pin slew))

abbrev pub raw_delay : Design → Split → Node → Node → ℤ → Option ℤ
raw_delay d split from to slew =
    (if is_driver to.pin
    then outermost split (λ arc. Some (look arc.delay slew (load_at d split to.pin))) None (library_arcs d split from to)
    else Some (wire_delay d split (net_name to.pin) from.pin to.pin))

abbrev pub factor_of : Derates → Split → Bool → ℕ
factor_of f Early true = f.early_cell
factor_of f Early false = f.early_net
factor_of f Late true = f.late_cell
factor_of f Late false = f.late_net

-- the delay times the factor of its split and kind, rounded once
abbrev pub scaled : Design → Split → Node → ℤ → ℤ
scaled d split to delay =
    rounded (delay *ℤ pos (factor_of d.constraints.derates split (is_driver to.pin))) (pos (10 ^ 6))

abbrev pub delay_along : Design → Split → Node → Node → ℤ → Option ℤ
delay_along d split from to slew = option_map (scaled d split to) (raw_delay d split from to slew)

-- an input port's slew is that of its input transition, or 0
abbrev pub port_slew : List PortSlew → Split → Pin → Tran → ℤ
port_slew slews split pin tran =
    option_map_or (λ s. s.slew.0)
    (find (λ s. bytes_eq s.port pin.own && same_split s.split split && same_tran s.tran tran) slews) (pos 0)

abbrev pub is_input_port : Pin → Bool
is_input_port pin = option_map_or (λ inst. false) pin.owner true && is_driver pin

-- the slew of a node: the outermost over the arcs in from nodes that have one
abbrev pub slew_of : Design → Split → (Node → NodeRow) → Node → Option ℤ
slew_of d split row_of to =
    (if is_input_port to.pin then Some (port_slew d.constraints.slews split to.pin to.tran) else
    outermost split (λ from. option_and_then (slew_along d split from to) (slew_in split (row_of from))) None (arcs_in d to))

-- a launch edge: a clock by its place and a transition
abbrev pub clock_edges : ℕ → List Clock → List (ℕ × Tran)
clock_edges n [] = []
clock_edges n (clock ∷ clocks) = (n, Rise) ∷ (n, Fall) ∷ clock_edges (n + 1) clocks

abbrev pub launch_edges : Design → List (ℕ × Tran)
launch_edges d = clock_edges 0 d.constraints.clocks

abbrev pub is_clock_at : List Clock → ℕ → List ℕ → Bool
is_clock_at clocks n port =
    option_map_or (λ clock. option_map_or (bytes_eq port) clock.port false) (slice_get clocks n) false

abbrev pub input_delay : List PortDelay → Split → Node → ℕ → Option ℤ
input_delay inputs split node clock =
    option_map (λ i. i.delay.0)
    (find (λ i. bytes_eq i.port node.pin.own && same_split i.split split && same_tran i.tran node.tran && nat_eq i.clock clock) inputs)

-- when a node starts on a launch edge: a clock's port at 0 at that edge, another input port at its
-- input delay from the clock's rise edge
abbrev pub start_at : Design → Split → Node → ℕ × Tran → Option ℤ
start_at d split node edge =
    (if not (is_input_port node.pin) then None else
    (if is_clock_port d node.pin
    then (if is_clock_at d.constraints.clocks edge.0 node.pin.own && same_tran edge.1 node.tran then Some (pos 0) else None)
    else (if same_tran edge.1 Rise then input_delay d.constraints.inputs split node edge.0 else None)))

abbrev pub delay_from : Design → Split → Node → Node → NodeRow → Option ℤ
delay_from d split from to row = option_and_then (delay_along d split from to) (slew_in split row)

-- the arrival on a launch edge: the start time, or the outermost of arrival plus delay over the arcs in
abbrev pub arrival_of : Design → Split → (Node → NodeRow) → Node → ℕ × Tran → Option ℤ
arrival_of d split row_of to edge =
    option_map_or Some (start_at d split to edge)
    (outermost split
    (λ from. plus_some (time_on (times_in split (row_of from)) edge) (delay_from d split from to (row_of from)))
    None (arcs_in d to))

abbrev pub edge_time : ℕ × Tran → ℤ → EdgeTime
edge_time edge time = record { clock = edge.0; tran = edge.1; time = record { 0 = time } }

abbrev pub arrivals_of : Design → Split → (Node → NodeRow) → Node → List EdgeTime
arrivals_of d split row_of to =
    filter_map (λ edge. option_map (edge_time edge) (arrival_of d split row_of to edge)) (launch_edges d)

abbrev pub as_fs : Option ℤ → Option Fs
as_fs time = option_map (λ t. record { 0 = t }) time

abbrev pub empty_row : NodeRow
empty_row = record { early_slew = None; late_slew = None; early = []; late = [] }

-- the row of a node, over any rows of the nodes before it
abbrev pub step : Design → (Node → NodeRow) → Node → NodeRow
step d row_of node =
    record {
      early_slew = as_fs (slew_of d Early row_of node);
      late_slew = as_fs (slew_of d Late row_of node);
      early = arrivals_of d Early row_of node;
      late = arrivals_of d Late row_of node;
    }

abbrev pub row_within : Design → ℕ → Node → NodeRow
row_within d zero node = empty_row
row_within d (suc n) node = step d (row_within d n) node

-- the row of a node: no walk of a design without loops has more steps than it has nodes
unfoldable pub row : Design → Node → NodeRow
row d node = row_within d (suc (length (nodes d))) node

-- the slew of a node, the delay of an arc and the arrival of a node on a launch edge
abbrev pub slew : Design → Split → Node → Option ℤ
slew d split node = slew_in split (row d node)

abbrev pub delay : Design → Split → Node → Node → Option ℤ
delay d split from to = delay_from d split from to (row d from)

abbrev pub arrival : Design → Split → Node → ℕ × Tran → Option ℤ
arrival d split node edge = time_on (times_in split (row d node)) edge
