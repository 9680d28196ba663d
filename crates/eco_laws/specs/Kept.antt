-- What an instance and a pin of an edited design have of those in the base.

use Rattle.std.specs.Prelude.{ℕ, ◌≡◌, ◌⊎◌, Bool, true, false, ◌||◌, ◌&&◌, Contains, List, Option, Some, None}
use Rattle.std.specs.Option.{option_map_or}
use Rattle.timing_defs.specs.declared.netlist.Inst.{Inst}
use Rattle.timing_defs.specs.declared.design.Design.{Design}
use Rattle.timing_defs.specs.Netlist.{Pin, name_of, pins, pin_named, conn_net, net_of, is_listed}
use Rattle.timing_defs.specs.Edits.{has_colon, before_last}
use Rattle.timing_defs.specs.Touches.{Touch}
use Rattle.netlist_store.specs.Numbering.{Stored, inst_numbered, pin_numbered}
use Rattle.netlist_store.proofs.SeenPins.{seen}

-- a net that is among these
abbrev pub is_on_any : List (List ℕ) → Option (List ℕ) → Bool
is_on_any nets net = option_map_or (is_listed nets) net false

-- a net before and after: the same, or both are among these
abbrev pub IsSameNet : List (List ℕ) → Option (List ℕ) → Option (List ℕ) → Type 0
IsSameNet nets before after = (before ≡ after) ⊎ ((is_on_any nets before ≡ true) × (is_on_any nets after ≡ true))

-- an instance before and after: its name and cell, and the nets of its pins where they are not among these
pub record IsSameInst (nets : List (List ℕ)) (inst inst2 : Inst) : Type 0 where
  pub name : inst2.name ≡ inst.name
  pub cell : inst2.cell ≡ inst.cell
  pub conns : (own : List ℕ) → IsSameNet nets (conn_net inst.conns own) (conn_net inst2.conns own)

abbrev pub IsInstKept : List (List ℕ) → Option Inst → Option Inst → Type 0
IsInstKept nets None after = after ≡ None
IsInstKept nets (Some inst) None = ⊥
IsInstKept nets (Some inst) (Some inst2) = IsSameInst nets inst inst2

-- a pin before and after, of an instance that is not touched: as its net sees it, and its net where that is not among these
pub record IsAlikePin (nets : List (List ℕ)) (pin pin2 : Pin) : Type 0 where
  pub alike : seen pin2 ≡ seen pin
  pub joined : IsSameNet nets (net_of pin) (net_of pin2)

abbrev pub IsPinKept : List (List ℕ) → Option Pin → Option Pin → Type 0
IsPinKept nets None after = after ≡ None
IsPinKept nets (Some pin) None = ⊥
IsPinKept nets (Some pin) (Some pin2) = IsAlikePin nets pin pin2

-- a pin before and after, neither of a touched instance nor on a touched net
pub record IsSamePin (pin pin2 : Pin) : Type 0 where
  pub alike : seen pin2 ≡ seen pin
  pub joined : net_of pin2 ≡ net_of pin

-- whether the instance of a pin, or the instance that a pin's name tells, is touched; and whether the pin is
abbrev pub has_touched_inst : Touch → Pin → Bool
has_touched_inst touch pin = option_map_or (λ inst. is_listed touch.insts inst.name) pin.owner false

abbrev pub names_touched_inst : Touch → List ℕ → Bool
names_touched_inst touch word = has_colon word && is_listed touch.insts (before_last word)

abbrev pub is_touched_pin : Touch → Pin → Bool
is_touched_pin touch pin = is_on_any touch.nets (net_of pin) || has_touched_inst touch pin

-- the instance and the pin that the base has at a number, and those that the edited design has there
pub record HasInstBefore (nets : List (List ℕ)) (base : Stored) (n : ℕ) (inst2 : Inst) : Type 0 where
  pub inst : Inst
  pub numbered : inst_numbered base n ≡ Some inst
  pub same : IsSameInst nets inst inst2

pub record HasInstAfter (nets : List (List ℕ)) (edited : Stored) (n : ℕ) (inst : Inst) : Type 0 where
  pub inst2 : Inst
  pub numbered : inst_numbered edited n ≡ Some inst2
  pub same : IsSameInst nets inst inst2

pub record HasAlikeBefore (nets : List (List ℕ)) (base : Stored) (n : ℕ) (pin2 : Pin) : Type 0 where
  pub pin : Pin
  pub numbered : pin_numbered base n ≡ Some pin
  pub same : IsAlikePin nets pin pin2

pub record HasAlikeAfter (nets : List (List ℕ)) (edited : Stored) (n : ℕ) (pin : Pin) : Type 0 where
  pub pin2 : Pin
  pub numbered : pin_numbered edited n ≡ Some pin2
  pub same : IsAlikePin nets pin pin2

pub record HasPinBefore (base : Stored) (n : ℕ) (pin2 : Pin) : Type 0 where
  pub pin : Pin
  pub numbered : pin_numbered base n ≡ Some pin
  pub same : IsSamePin pin pin2

pub record HasPinAfter (edited : Stored) (n : ℕ) (pin : Pin) : Type 0 where
  pub pin2 : Pin
  pub numbered : pin_numbered edited n ≡ Some pin2
  pub same : IsSamePin pin pin2

-- the pin of the base that goes by the name of a pin that is not touched
pub record HasSame (base : Design) (pin2 : Pin) : Type 0 where
  pub pin : Pin
  pub within : Contains (pins base) pin
  pub found : pin_named base (name_of pin2) ≡ Some pin
  pub same : IsSamePin pin pin2
