-- Tables of the loads of nets and of the wires to their sinks, by the numbers of a store (TAU 2015 contest).

use Rattle.std.specs.Prelude.{ℕ, ℤ, pos, ◌≡◌, ◌+ℤ◌, ◌*ℤ◌, nat_abs, true, false, Contains, List, length, slice_get, Option, None, Some, option_map, option_and_then}
use Rattle.sta_units.specs.Numbers.{root_of, is_within}
use Rattle.timing_defs.specs.declared.kinds.Split.{Split}
use Rattle.timing_defs.specs.declared.kinds.Split.TheVariants.{Early, Late}
use Rattle.timing_defs.specs.declared.design.Design.{Design}
use Rattle.timing_defs.specs.Netlist.{Pin, net_of, is_driver}
use Rattle.timing_defs.specs.Wires.{net_load, wire_delay, wire_slew}
use Rattle.timing_rules.specs.Clocking.{driver_on}
use Rattle.timing_rules.specs.Rows.{net_name}
use Rattle.netlist_store.specs.Numbering.{Stored, name_at, pin_numbered}
use Rattle.node_rows.specs.declared.pin_wires.NetLoad.{NetLoad}
use Rattle.node_rows.specs.declared.pin_wires.SinkWire.{SinkWire}
use Rattle.node_rows.specs.declared.pin_wires.PinWire.{PinWire}
use Rattle.node_rows.specs.declared.pin_wires.Wires.{Wires}

abbrev pub split_load : Split → NetLoad → ℤ
split_load Early load = load.early.0
split_load Late load = load.late.0

abbrev pub split_wire : Split → PinWire → SinkWire
split_wire Early wire = wire.early
split_wire Late wire = wire.late

-- the load of a net's number
abbrev pub load_told : List NetLoad → Split → ℕ → Option ℤ
load_told loads split net = option_map (split_load split) (slice_get loads net)

-- the wire to a pin's number; none where it has no resistors
abbrev pub wire_at : List (Option PinWire) → ℕ → Option PinWire
wire_at wires pin = option_and_then (λ wire. wire) (slice_get wires pin)

-- the delay of a wire, and the slew at its end
abbrev pub told_delay : Split → Option PinWire → ℤ
told_delay split None = pos 0
told_delay split (Some wire) = (split_wire split wire).delay.0

abbrev pub root_slew : ℤ → ℕ → ℤ
root_slew slew impulse = pos (root_of (nat_abs (slew *ℤ slew +ℤ pos impulse)))

abbrev pub told_slew : Split → Option PinWire → ℤ → ℤ
told_slew split None slew = slew
told_slew split (Some wire) slew = root_slew slew (split_wire split wire).impulse

-- the wire from a net's driver to a sink
pub record IsWire (d : Design) (from to : Pin) (wire : Option PinWire) : Type 0 where
  pub delay : (split : Split) → wire_delay d split (net_name to) from to ≡ told_delay split wire
  pub slew : (split : Split) (x : ℤ) → wire_slew d split (net_name to) from to x ≡ told_slew split wire x
  pub within : (split : Split) → is_within (told_delay split wire) ≡ true

-- the tables have the load of each net, and the wire to each pin that a driver's net leads to
pub record AreWires (s : Stored) (w : Wires) : Type 0 where
  pub nets : length w.loads ≡ length s.nets
  pub pins : length w.pins ≡ length s.pins
  pub loads : (split : Split) (net : ℕ) (name : List ℕ) → name_at s.nets net ≡ Some name → load_told w.loads split net ≡ Some (net_load s.design split name)
  pub within : (split : Split) (net : ℕ) (name : List ℕ) → name_at s.nets net ≡ Some name → is_within (net_load s.design split name) ≡ true
  pub wires : (pin : ℕ) (to from : Pin) → pin_numbered s pin ≡ Some to → is_driver to ≡ false → Contains (driver_on s.design (net_of to)) from
      → IsWire s.design from to (wire_at w.pins pin)
