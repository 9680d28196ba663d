-- Tables of wires in which some nets of a store are found anew, and the others are those that they were.

use Rattle.std.specs.Prelude.{ℕ, pos, ◌≡◌, ◌++◌, ◌-◌, true, false, List, [], ◌∷◌, take, replicate, length, slice_set, Contains, Option, Some, None}
use Rattle.sta_units.specs.Numbers.{is_within}
use Rattle.timing_defs.specs.declared.kinds.Split.{Split}
use Rattle.timing_defs.specs.Netlist.{Pin, net_of, is_driver, is_listed}
use Rattle.timing_defs.specs.Wires.{net_load}
use Rattle.timing_rules.specs.Clocking.{driver_on}
use Rattle.netlist_store.specs.Numbering.{Stored, name_at, pin_numbered, net_number}
use Rattle.node_rows.specs.declared.pin_wires.NetLoad.{NetLoad}
use Rattle.node_rows.specs.declared.pin_wires.PinWire.{PinWire}
use Rattle.node_rows.specs.declared.pin_wires.Wires.{Wires}
use Rattle.node_rows.specs.WireTables.{IsWire, load_told, wire_at}
use Rattle.node_rows.specs.NetTrees.{is_wide_net}

-- that many items: the first of those that are there, then copies of one
abbrev pub resized : {X : Type 0} → List X → ℕ → X → List X
resized items count more = take count items ++ replicate (count - length items) more

abbrev pub no_load : NetLoad
no_load = record { early = record { 0 = pos 0 }; late = record { 0 = pos 0 } }

-- a table without the wires to some pins
abbrev pub without_wires : List (Option PinWire) → List ℕ → List (Option PinWire)
without_wires table [] = table
without_wires table (pin ∷ rest) = without_wires (slice_set table pin None) rest

-- the tables have as many items as a store has numbers
pub record AreSized (s : Stored) (w : Wires) : Type 0 where
  pub nets : length w.loads ≡ length s.nets
  pub pins : length w.pins ≡ length s.pins

-- the tables have a net: its load, and the wires to its pins; no quantity of it leaves its limit
pub record HasNet (s : Stored) (w : Wires) (net : ℕ) : Type 0 where
  pub loads : (split : Split) (name : List ℕ) → name_at s.nets net ≡ Some name → load_told w.loads split net ≡ Some (net_load s.design split name)
  pub within : (split : Split) (name : List ℕ) → name_at s.nets net ≡ Some name → is_within (net_load s.design split name) ≡ true
  pub wires : (pin : ℕ) (to from : Pin) → pin_numbered s pin ≡ Some to → net_number s pin ≡ Some net → is_driver to ≡ false → Contains (driver_on s.design (net_of to)) from
      → IsWire s.design from to (wire_at w.pins pin)
  pub fine : is_wide_net s net ≡ false

-- the tables have a net, and the other nets that they had
pub record IsRenewed (s : Stored) (net : ℕ) (old w : Wires) : Type 0 where
  pub sized : AreSized s w
  pub has : HasNet s w net
  pub kept : (other : ℕ) → (other ≡ net → ⊥) → HasNet s old other → HasNet s w other

-- the tables have all nets but those of some names
pub record HaveNetsBut (s : Stored) (names : List (List ℕ)) (w : Wires) : Type 0 where
  pub sized : AreSized s w
  pub nets : (net : ℕ) (name : List ℕ) → name_at s.nets net ≡ Some name → is_listed names name ≡ false → HasNet s w net
