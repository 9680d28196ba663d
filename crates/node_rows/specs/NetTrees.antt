-- What a tree of resistors from a net's driver tells of the pins of the net (Elmore's delay; TAU 2015
-- contest), and where a net is too large.

use Rattle.std.specs.Prelude.{ℕ, pos, ◌≡◌, ◌<◌, ◌≤◌, Bool, true, false, List, [], map, length, Contains, Option, None, Some}
use Rattle.std.specs.Option.{option_map_or, unwrap_or}
use Rattle.sta_units.specs.Numbers.{is_within}
use Rattle.timing_defs.specs.declared.kinds.Split.{Split}
use Rattle.timing_defs.specs.declared.parasitics.RcNode.TheVariants.{Pin as rc_pin}
use Rattle.timing_defs.specs.declared.parasitics.NetRc.{NetRc}
use Rattle.timing_defs.specs.declared.rows.PinCap.{PinCap}
use Rattle.timing_defs.specs.declared.design.Design.{Design}
use Rattle.timing_defs.specs.declared.faults.Fault.{Fault}
use Rattle.timing_defs.specs.declared.faults.Fault.TheVariants.{OutOfRange, Memory as no_room}
use Rattle.timing_defs.specs.declared.faults.Place.TheVariants.{Net as at_net}
use Rattle.timing_defs.specs.declared.kinds.Split.TheVariants.{Early, Late}
use Rattle.timing_defs.specs.Netlist.{Pin, net_of, is_driver}
use Rattle.timing_defs.specs.Wires.{net_load, rc_of, is_lumped}
use Rattle.timing_rules.specs.Clocking.{driver_on}
use Rattle.timing_defs.specs.NetChecks.{net_fault}
use Rattle.timing_rules.specs.Checks.{data_fault}
use Rattle.timing_rules.specs.Range.{is_origin, is_net_origin}
use Rattle.netlist_store.specs.Numbering.{Stored, name_at, pin_numbered, net_number}
use Rattle.rc_tree.specs.Trees.{Told, delay_of, impulse_of, is_out_of_range, IsTreeOf}
use Rattle.node_rows.specs.declared.pin_wires.SinkWire.{SinkWire}
use Rattle.node_rows.specs.declared.pin_wires.PinWire.{PinWire}
use Rattle.node_rows.specs.declared.pin_wires.Wires.{Wires}
use Rattle.node_rows.specs.declared.net_trees.NetTrees.{NetTrees}
use Rattle.node_rows.specs.WireTables.{IsWire, load_told, wire_at, split_wire}
use Rattle.node_rows.specs.NetPins.{IsOnNet, pin_cap_at}
use Rattle.store_pins.specs.Drivers.{drives_at}

-- the delay and the impulse of the wire from a root to a pin, over pins with these capacitances
pub record IsSink (net : NetRc) (root : List ℕ) (pins : List PinCap) (name : List ℕ) (wire : SinkWire) : Type 0 where
  pub delay : wire.delay.0 ≡ delay_of net root pins (rc_pin name)
  pub impulse : pos wire.impulse ≡ impulse_of net root pins (rc_pin name)

-- a table has the wire to a pin, in both splits
pub record HasWire (s : Stored) (net : NetRc) (root : List ℕ) (caps : Split → List PinCap) (wires : List (Option PinWire)) (pin : ℕ) : Type 0 where
  pub wire : PinWire
  pub there : wire_at wires pin ≡ Some wire
  pub sinks : (split : Split) → IsSink net root (caps split) (unwrap_or (name_at s.pins pin) []) (split_wire split wire)

-- a design is refused at an origin of an overflow, a net; want of memory is free
abbrev pub IsLarge : Design → Fault → Type 0
IsLarge d (OutOfRange (at_net net)) = is_origin d (at_net net) ≡ true
IsLarge d no_room = Unit {0}
IsLarge d other = ⊥

-- the nets of a design without a fault of its nets or of its data
pub record IsSoundNets (s : Stored) : Type 0 where
  pub net_sound : net_fault s.design ≡ None
  pub data_sound : data_fault s.design ≡ None

-- a quantity of a net leaves its limit
abbrev pub is_wide_net : Stored → ℕ → Bool
is_wide_net s net = option_map_or (is_net_origin s.design) (name_at s.nets net) false

abbrev pub pin_word : Stored → ℕ → List ℕ
pin_word s pin = unwrap_or (name_at s.pins pin) []

-- a net with resistors, its driver and its pins
pub record IsTreeNet (s : Stored) (rc : NetRc) (root : ℕ) (pins : List ℕ) : Type 0 where
  pub sound : IsSoundNets s
  pub net : ℕ
  pub name : name_at s.nets net ≡ Some rc.net
  pub its : rc_of s.design rc.net ≡ Some rc
  pub ress : is_lumped rc ≡ false
  pub each : IsOnNet s net pins
  pub rooted : Contains pins root
  pub drives : drives_at s root ≡ true

-- a tree from a net's driver, over the capacitances that the pins have in a split
abbrev pub IsSplitTree : Stored → NetRc → ℕ → List ℕ → Split → Told → Type 0
IsSplitTree s rc root pins split tree = IsTreeOf rc (pin_word s root) (map (pin_cap_at s split) pins) tree

-- a total or a delay of a net leaves its limit in a split
abbrev pub is_wide_tree : Stored → NetRc → ℕ → List ℕ → Split → Bool
is_wide_tree s rc root pins split = is_out_of_range rc (pin_word s root) (map (pin_cap_at s split) pins)

-- the late tree; where none is made apart, the early one is that of both splits
abbrev pub late_of : NetTrees → Told
late_of trees = unwrap_or trees.late trees.early

pub record AreTrees (s : Stored) (rc : NetRc) (root : ℕ) (pins : List ℕ) (trees : NetTrees) : Type 0 where
  pub early : IsSplitTree s rc root pins Early trees.early
  pub late : IsSplitTree s rc root pins Late (late_of trees)

-- the tables have the nets below a number
pub record AreUpTo (s : Stored) (w : Wires) (bound : ℕ) : Type 0 where
  pub nets : length w.loads ≡ bound
  pub pins : length w.pins ≡ length s.pins
  pub loads : (split : Split) (net : ℕ) (name : List ℕ) → net < bound → name_at s.nets net ≡ Some name
      → load_told w.loads split net ≡ Some (net_load s.design split name)
  pub within : (split : Split) (net : ℕ) (name : List ℕ) → net < bound → name_at s.nets net ≡ Some name → is_within (net_load s.design split name) ≡ true
  pub wires : (pin net : ℕ) (to from : Pin) → net < bound → pin_numbered s pin ≡ Some to → net_number s pin ≡ Some net → is_driver to ≡ false
      → Contains (driver_on s.design (net_of to)) from → IsWire s.design from to (wire_at w.pins pin)
  pub later : (pin net : ℕ) → bound ≤ net → net_number s pin ≡ Some net → wire_at w.pins pin ≡ None
