-- The row of a node over given rows of the nodes before it, by the numbers of a store, and which of its
-- quantities leave their limit (own rule of range).

use Rattle.std.specs.Prelude.{ℕ, ◌^◌, ℤ, pos, ◌*ℤ◌, ◌≡◌, Bool, true, false, not, ◌&&◌, ◌||◌, if◌then◌else◌, List, [], ◌∷◌, map, Contains, Option, None, Some, option_map, option_and_then}
use Rattle.std.specs.List.{list_any, list_all, filter_map}
use Rattle.std.specs.Option.{option_map_or}
use Rattle.std.specs.Str.{bytes_eq}
use Rattle.sta_units.specs.Numbers.{is_within, rounded}
use Rattle.timing_defs.specs.declared.kinds.Split.{Split}
use Rattle.timing_defs.specs.declared.kinds.Split.TheVariants.{Early, Late}
use Rattle.timing_defs.specs.declared.kinds.Tran.{Tran}
use Rattle.timing_defs.specs.declared.constraints.Clock.{Clock}
use Rattle.timing_defs.specs.declared.design.Design.{Design}
use Rattle.timing_defs.specs.declared.faults.Fault.{Fault}
use Rattle.timing_defs.specs.declared.faults.Fault.TheVariants.{OutOfRange, Memory as no_room}
use Rattle.timing_defs.specs.declared.faults.Place.TheVariants.{Pin as at_pin}
use Rattle.timing_defs.specs.declared.rows.NodeRow.{NodeRow}
use Rattle.timing_defs.specs.declared.edge_times.EdgeTime.{EdgeTime}
use Rattle.timing_defs.specs.Netlist.{Node, name_of, is_driver}
use Rattle.timing_defs.specs.Wires.{wire_delay}
use Rattle.timing_rules.specs.Clocking.{is_network}
use Rattle.timing_rules.specs.Rows.{arcs_in, net_name, slew_along, raw_delay, scaled, delay_from, slew_of, arrival_of, launch_edges, outer_some, edge_time, start_at, step, is_input_port, port_slew, outermost, as_fs}
use Rattle.timing_defs.specs.RowTimes.{slew_in, plus_some, time_on, times_in}
use Rattle.timing_rules.specs.Range.{within_some, looked_within, either_split}
use Rattle.netlist_store.specs.Numbering.{Stored, pin_numbered}
use Rattle.node_rows.specs.declared.arcs.ArcValues.{ArcValues}
use Rattle.node_rows.specs.declared.delays.BothDelays.{BothDelays}
use Rattle.node_rows.specs.declared.unfit.Unfit.{Unfit}
use Rattle.node_rows.specs.declared.unfit.Unfit.TheVariants.{Range, Memory}
use Rattle.node_rows.specs.declared.rows.SplitRow.{SplitRow}
use Rattle.node_rows.specs.declared.settings.NodeAt.{NodeAt}
use Rattle.node_rows.specs.declared.settings.Before.{Before}
use Rattle.node_rows.specs.declared.settings.Setting.{Setting}
use Rattle.node_rows.specs.Between.{no_values, are_within}
use Rattle.node_rows.specs.PortTables.{ArePorts}
use Rattle.node_rows.specs.WireTables.{AreWires}

-- the slew and the delay that an arc brings to a node from another with this row
abbrev pub values_along : Design → Split → Node → Node → NodeRow → ArcValues
values_along d split to from row =
    record { slew = option_and_then (slew_along d split from to) (slew_in split row); delay = delay_from d split from to row }

-- a looked-up slew or delay of an arc leaves its limit
abbrev pub is_wide_looked : Design → Split → Node → Node → NodeRow → Bool
is_wide_looked d split to from row =
    is_driver to.pin
    && option_map_or
    (λ x. not (looked_within d split from to (λ arc. arc.slew) x) || not (looked_within d split from to (λ arc. arc.delay) x))
    (slew_in split row) false

-- the scaled delay of an arc leaves its limit; that of a wire is there without a slew too
abbrev pub scaled_over : Design → Split → Node → Node → NodeRow → Option ℤ
scaled_over d split to from row =
    (if is_driver to.pin
    then option_map (scaled d split to) (option_and_then (raw_delay d split from to) (slew_in split row))
    else Some (scaled d split to (wire_delay d split (net_name to.pin) from.pin to.pin)))

abbrev pub is_wide_scaled : Design → Split → Node → Node → NodeRow → Bool
is_wide_scaled d split to from row = not (within_some (scaled_over d split to from row))

-- the slew that an arc brings leaves its limit
abbrev pub is_wide_end : Design → Split → Node → Node → NodeRow → Bool
is_wide_end d split to from row = not (within_some (option_and_then (slew_along d split from to) (slew_in split row)))

abbrev pub is_wide_along : Design → Split → Node → Node → NodeRow → Bool
is_wide_along d split to from row =
    is_wide_looked d split to from row || is_wide_scaled d split to from row || is_wide_end d split to from row

-- a quantity of a node, over rows of the nodes before it, leaves its limit
abbrev pub is_wide_in : Design → Split → (Node → NodeRow) → Node → Bool
is_wide_in d split row_of to =
    list_any (λ from. is_wide_looked d split to from (row_of from)) (arcs_in d to)
    || list_any (λ from. is_wide_scaled d split to from (row_of from)) (arcs_in d to)
    || not (within_some (slew_of d split row_of to))
    || list_any (λ edge. not (within_some (arrival_of d split row_of to edge))) (launch_edges d)

abbrev pub is_wide : Design → (Node → NodeRow) → Node → Bool
is_wide d row_of to = either_split (λ split. is_wide_in d split row_of to)

-- the node of a store's number
abbrev pub node_of : Stored → NodeAt → Option Node
node_of s at = option_map (λ pin. record { pin = pin; tran = at.tran }) (pin_numbered s at.pin)

-- the number is that of the node, and tells whether its pin is on the clock network
pub record IsAt (s : Stored) (at : NodeAt) (node : Node) : Type 0 where
  pub told : node_of s at ≡ Some node
  pub network : at.network ≡ is_network s.design node.pin

-- an arc leads from a node to another
pub record IsInto (s : Stored) (to : Node) (at : NodeAt) : Type 0 where
  pub from : Node
  pub there : IsAt s at from
  pub joined : Contains (arcs_in s.design to) from

abbrev pub is_row_within : NodeRow → Bool
is_row_within row =
    within_some (option_map (λ slew. slew.0) row.early_slew) && within_some (option_map (λ slew. slew.0) row.late_slew)
    && list_all (λ (t : EdgeTime). is_within t.time.0) row.early && list_all (λ (t : EdgeTime). is_within t.time.0) row.late

-- an arc leads from one number to another
pub record IsJoined (s : Stored) (at from : NodeAt) : Type 0 where
  pub to : Node
  pub there : IsAt s at to
  pub into : IsInto s to from

-- the nodes before a node, each at least once and no others, with rows of quantities within their limits
pub record AreBefore (s : Stored) (at : NodeAt) (before : List Before) : Type 0 where
  pub to : Node
  pub there : IsAt s at to
  pub sound : (b : Before) → Contains before b → IsInto s to b.node
  pub all : (from : Node) → Contains (arcs_in s.design to) from → (b : Before) × (Contains before b × (node_of s b.node ≡ Some from))
  pub within : (b : Before) → Contains before b → is_row_within b.row.now ≡ true

-- the rows are those of a look-up
abbrev pub HaveRows : Stored → (Node → NodeRow) → List Before → Type 0
HaveRows s row_of before =
    (b : Before) (from : Node) → Contains before b → node_of s b.node ≡ Some from → b.row.now ≡ row_of from

-- the values along an arc, by numbers
abbrev pub told_values : Stored → Split → NodeAt → Before → ArcValues
told_values s split at b =
    option_map_or (λ to. option_map_or (λ from. values_along s.design split to from b.row.now) (node_of s b.node) no_values)
    (node_of s at) no_values

abbrev pub told_wide : Stored → Split → NodeAt → Before → Bool
told_wide s split at b =
    option_map_or (λ to. option_map_or (λ from. is_wide_along s.design split to from b.row.now) (node_of s b.node) false)
    (node_of s at) false

-- the delays that an arc brings to a node from another, by numbers
abbrev pub told_delays : Stored → NodeAt → Before → BothDelays
told_delays s at b = record { early = (told_values s Early at b).delay; late = (told_values s Late at b).delay }

-- the delays of arcs in both splits, of what they bring in each
abbrev pub both_delays : List ArcValues → List ArcValues → List BothDelays
both_delays [] late = []
both_delays (e ∷ early) [] = []
both_delays (e ∷ early) (l ∷ late) = record { early = e.delay; late = l.delay } ∷ both_delays early late

-- what an arc brings to a node, all within the limit
pub record IsAlong (s : Stored) (split : Split) (at : NodeAt) (b : Before) (values : ArcValues) : Type 0 where
  pub told : values ≡ told_values s split at b
  pub within : are_within values ≡ true
  pub fine : told_wide s split at b ≡ false

-- a delay times a factor, where there is one
abbrev pub scaled_some : Option ℤ → ℕ → Option ℤ
scaled_some delay factor = option_map (λ delay. rounded (delay *ℤ pos factor) (pos (10 ^ 6))) delay

-- a value of arcs with its delay times a factor
abbrev pub scaled_values : ArcValues → ℕ → ArcValues
scaled_values values factor =
    record { slew = values.slew; delay = scaled_some values.delay factor }

-- the tables are those of the store
pub record IsSetting (setting : Setting) : Type 0 where
  pub wires : AreWires setting.store.now setting.wires.now
  pub ports : ArePorts setting.store.now.design.constraints setting.ports.now

-- a row is not evaluated where a quantity leaves its limit; want of memory is free
abbrev pub IsUnfit : Bool → Unfit → Type 0
IsUnfit wide Range = wide ≡ true
IsUnfit wide Memory = Unit {0}

-- the port of a clock has this name
abbrev pub has_clock : List ℕ → Clock → Bool
has_clock port clock = option_map_or (bytes_eq port) clock.port false

-- the outermost arrival on a launch edge over the nodes before a node, each with what its arc brings
abbrev pub merged_over : Split → ℕ × Tran → Option ℤ → List Before → List ArcValues → Option ℤ
merged_over split edge best [] values = best
merged_over split edge best (b ∷ bs) [] = best
merged_over split edge best (b ∷ bs) (v ∷ vs) =
    merged_over split edge (outer_some split best (plus_some (time_on (times_in split b.row.now) edge) v.delay)) bs vs

abbrev pub told_start : Stored → Split → NodeAt → ℕ × Tran → Option ℤ
told_start s split at edge = option_and_then (λ node. start_at s.design split node edge) (node_of s at)

-- the arrival on a launch edge: the start, or what the arcs bring
abbrev pub arrival_over : Stored → Split → NodeAt → List Before → List ArcValues → ℕ × Tran → Option ℤ
arrival_over s split at before values edge =
    option_map_or Some (told_start s split at edge) (merged_over split edge None before values)

-- the times of launch edges that have one
abbrev pub times_on : (ℕ × Tran → Option ℤ) → List (ℕ × Tran) → List EdgeTime
times_on time edges = filter_map (λ edge. option_map (edge_time edge) (time edge)) edges

abbrev pub are_wide_times : (ℕ × Tran → Option ℤ) → List (ℕ × Tran) → Bool
are_wide_times time edges = list_any (λ edge. not (within_some (time edge))) edges

-- the row that a node has over a look-up of rows
pub record IsRow (d : Design) (row_of : Node → NodeRow) (to : Node) (told : NodeRow) : Type 0 where
  pub row : told ≡ step d row_of to
  pub fine : is_wide d row_of to ≡ false

-- a fault at the pin of this name where a quantity leaves its limit; want of memory is free
abbrev pub IsPlaced : Bool → List ℕ → Fault → Type 0
IsPlaced wide name (OutOfRange place) = (place ≡ at_pin name) × (wide ≡ true)
IsPlaced wide name no_room = Unit {0}
IsPlaced wide name other = ⊥

-- a node is refused at its pin where one of its quantities leaves its limit
abbrev pub IsRefused : Design → (Node → NodeRow) → Node → Fault → Type 0
IsRefused d row_of to fault = IsPlaced (is_wide d row_of to) (name_of to.pin) fault

-- the row of a node in one split, with what its arcs bring, by numbers
abbrev pub told_slew_over : Stored → Split → NodeAt → List ArcValues → Option ℤ
told_slew_over s split at values =
    option_map_or
    (λ node. if is_input_port node.pin then Some (port_slew s.design.constraints.slews split node.pin node.tran)
    else outermost split (λ v. v.slew) None values)
    (node_of s at) None

abbrev pub told_row : Stored → Split → NodeAt → List Before → SplitRow
told_row s split at before =
    record {
      slew = as_fs (told_slew_over s split at (map (told_values s split at) before));
      times = times_on (arrival_over s split at before (map (told_values s split at) before)) (launch_edges s.design);
      values = map (told_values s split at) before;
    }

abbrev pub is_wide_split : Stored → Split → NodeAt → List Before → Bool
is_wide_split s split at before =
    list_any (told_wide s split at) before
    || are_wide_times (arrival_over s split at before (map (told_values s split at) before)) (launch_edges s.design)
