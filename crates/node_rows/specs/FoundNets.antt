-- What is found of nets, each by itself, before it is put into the tables of wires.

use Rattle.std.specs.Prelude.{ℕ, ◌≡◌, ◌<◌, nat_eq, true, false, List, [], ◌∷◌, length, slice_set, All, Contains, Option, Some, None, Result, Ok, Err}
use Rattle.std.specs.List.{list_any}
use Rattle.sta_units.specs.Numbers.{is_within}
use Rattle.timing_defs.specs.declared.kinds.Split.{Split}
use Rattle.timing_defs.specs.declared.kinds.Split.TheVariants.{Early, Late}
use Rattle.timing_defs.specs.declared.parasitics.NetRc.{NetRc}
use Rattle.timing_defs.specs.declared.rows.PinCap.{PinCap}
use Rattle.timing_defs.specs.Netlist.{Pin, net_of, is_driver}
use Rattle.timing_defs.specs.Wires.{net_load}
use Rattle.timing_rules.specs.Clocking.{driver_on}
use Rattle.netlist_store.specs.Numbering.{Stored, name_at, pin_numbered, net_number}
use Rattle.rc_tree.specs.Trees.{IsTreeOf}
use Rattle.node_rows.specs.declared.pin_wires.PinWire.{PinWire}
use Rattle.node_rows.specs.declared.pin_wires.NetLoad.{NetLoad}
use Rattle.node_rows.specs.declared.net_trees.NetTrees.{NetTrees}
use Rattle.node_rows.specs.declared.found_nets.WireTo.{WireTo}
use Rattle.node_rows.specs.declared.found_nets.FoundNet.{FoundNet}
use Rattle.node_rows.specs.declared.unfit.Unfit.{Unfit}
use Rattle.node_rows.specs.Evaluation.{IsUnfit}
use Rattle.node_rows.specs.WireTables.{split_load, wire_at, IsWire}
use Rattle.node_rows.specs.NetTrees.{HasWire, is_wide_net, late_of}

-- a table of wires, once these are put into it one after another
abbrev pub with_wires : List (Option PinWire) → List WireTo → List (Option PinWire)
with_wires table [] = table
with_wires table (to ∷ rest) = with_wires (slice_set table to.pin (Some to.wire)) rest

-- the wires to some pins, as trees tell them, are put into a table, and no others
pub record ArePut (s : Stored) (trees : NetTrees) (old wires : List (Option PinWire)) (pins : List ℕ) : Type 0 where
  pub len : length wires ≡ length old
  pub there : (net : NetRc) (root : List ℕ) (caps : Split → List PinCap) → IsTreeOf net root (caps Early) trees.early → IsTreeOf net root (caps Late) (late_of trees)
      → (pin : ℕ) → Contains pins pin → HasWire s net root caps wires pin
  pub kept : (other : ℕ) → list_any (nat_eq other) pins ≡ false → wire_at wires other ≡ wire_at old other

-- the wires to some pins, for any table
pub record AreWiresTo (s : Stored) (trees : NetTrees) (pins : List ℕ) (found : List WireTo) : Type 0 where
  pub within : All (λ to. to.pin < length s.pins) found
  pub put : (old : List (Option PinWire)) → length old ≡ length s.pins → ArePut s trees old (with_wires old found) pins

-- a table of wires has those to the pins of a net, where it had none of them; those to the pins of other nets are as before
pub record AreNetWires (s : Stored) (net : ℕ) (old wires : List (Option PinWire)) : Type 0 where
  pub len : length wires ≡ length old
  pub wired : ((pin : ℕ) → net_number s pin ≡ Some net → wire_at old pin ≡ None) → (pin : ℕ) (to from : Pin) → pin_numbered s pin ≡ Some to → net_number s pin ≡ Some net
      → is_driver to ≡ false → Contains (driver_on s.design (net_of to)) from → IsWire s.design from to (wire_at wires pin)
  pub kept : (pin other : ℕ) → net_number s pin ≡ Some other → (other ≡ net → ⊥) → wire_at wires pin ≡ wire_at old pin

-- the load of the net of a number
pub record IsNetLoad (s : Stored) (net : ℕ) (load : NetLoad) : Type 0 where
  pub is : (split : Split) (name : List ℕ) → name_at s.nets net ≡ Some name → split_load split load ≡ net_load s.design split name
  pub within : (split : Split) (name : List ℕ) → name_at s.nets net ≡ Some name → is_within (net_load s.design split name) ≡ true

-- what is found of a number: the load of its net, and what gives any table the wires to its pins
pub record IsFoundNet (s : Stored) (net : ℕ) (found : FoundNet) : Type 0 where
  pub within : All (λ to. to.pin < length s.pins) found.wires
  pub load : IsNetLoad s net found.load
  pub wires : (old : List (Option PinWire)) → length old ≡ length s.pins → AreNetWires s net old (with_wires old found.wires)
  pub fine : is_wide_net s net ≡ false

-- what is answered for a number: what is found of it, or why nothing is
abbrev pub IsNetAnswer : Stored → ℕ → Result FoundNet Unfit → Type 0
IsNetAnswer s net (Ok found) = IsFoundNet s net found
IsNetAnswer s net (Err unfit) = IsUnfit (is_wide_net s net) unfit
