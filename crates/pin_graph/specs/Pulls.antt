-- The links into and out of one pin, by numbers; and the pins at which an ECO left them.

use Rattle.std.specs.Prelude.{ℕ, nat_eq, Bool, false, not, ◌&&◌, ◌==◌, if◌then◌else◌, List, [], ◌++◌, map, filter, length, Option, Some, None, option_and_then}
use Rattle.std.specs.List.{filter_map, range_with_len}
use Rattle.std.specs.Option.{option_map_or, option_to_list}
use Rattle.timing_defs.specs.Netlist.{is_driver}
use Rattle.timing_defs.specs.Touches.{Touch}
use Rattle.netlist_store.specs.Numbering.{Stored, is_number, pin_numbered, owner_number, net_number}
use Rattle.pin_graph.specs.declared.pin_arcs.PinArc.{PinArc}
use Rattle.pin_graph.specs.Joins.{before, arcs_of, pin_arcs}
use Rattle.store_pins.specs.Drivers.{driver_at}
use Rattle.pin_graph.specs.Networks.{is_comb_arc, edge_from, tests_of}
use Rattle.pin_graph.specs.Seeds.{is_touched_at}

-- the arcs of cells into a pin, and those out of it
abbrev pub arcs_into : Stored → ℕ → List PinArc
arcs_into s pin = filter (λ arc. arc.to == pin) (pin_arcs s)

abbrev pub arcs_from : Stored → ℕ → List PinArc
arcs_from s pin = filter (λ arc. arc.from == pin) (pin_arcs s)

abbrev pub from_pin : PinArc → ℕ
from_pin arc = arc.from

abbrev pub to_pin : PinArc → ℕ
to_pin arc = arc.to

-- the pins from which links lead to a pin
abbrev pub pins_before : Stored → ℕ → List ℕ
pins_before s pin = option_to_list (before s pin) ++ map from_pin (arcs_into s pin)

-- the pins into which a net arc leads from a pin
abbrev pub is_driven_by : Stored → ℕ → ℕ → Bool
is_driven_by s pin sink = option_map_or (nat_eq pin) (before s sink) false

abbrev pub sinks_of : Stored → ℕ → List ℕ
sinks_of s pin = filter (is_driven_by s pin) (range_with_len 0 (length s.pins))

-- the pins to which links lead from a pin
abbrev pub pins_behind : Stored → ℕ → List ℕ
pins_behind s pin = sinks_of s pin ++ map to_pin (arcs_from s pin)

-- the same along net arcs and combinational arcs alone
abbrev pub network_tails : Stored → ℕ → List ℕ
network_tails s pin = option_to_list (before s pin) ++ map from_pin (filter is_comb_arc (arcs_into s pin))

abbrev pub network_heads : Stored → ℕ → List ℕ
network_heads s pin = sinks_of s pin ++ map to_pin (filter is_comb_arc (arcs_from s pin))

-- a pin of the base that stands for nothing in the edited store
abbrev pub is_gone : Stored → Stored → ℕ → Bool
is_gone s s2 pin = is_number s.pins pin && not (is_number s2.pins pin)

-- a number that an ECO left: its pin is neither touched in the edited store, nor gone
abbrev pub is_left : Stored → Stored → Touch → ℕ → Bool
is_left s s2 touch pin = not (is_touched_at s2 touch pin) && not (is_gone s s2 pin)

-- the arcs of the instance that owns a pin, and the clock pins of its registers
abbrev pub own_arcs : Stored → ℕ → List PinArc
own_arcs s pin = option_map_or (arcs_of s) (owner_number s pin) []

abbrev pub own_clocks : Stored → ℕ → List ℕ
own_clocks s inst = filter_map edge_from (arcs_of s inst) ++ tests_of s inst

-- the net that a pin drives
abbrev pub net_driven : Stored → ℕ → ℕ → Option ℕ
net_driven s pin net = (if option_map_or (nat_eq pin) (driver_at s net) false then Some net else None)

abbrev pub driven_net : Stored → ℕ → Option ℕ
driven_net s pin = option_and_then (net_driven s pin) (net_number s pin)

-- a pin that drives no net
abbrev pub is_sink : Stored → ℕ → Bool
is_sink s pin = option_map_or (λ p. not (is_driver p)) (pin_numbered s pin) false
