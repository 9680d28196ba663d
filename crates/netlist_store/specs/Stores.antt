-- The tables of a store, and the design that they stand for (own). Tables of instances, nets and pins
-- go by numbers; the order of the lists of a design stands beside them.

use Rattle.std.specs.Prelude.{◌≡◌, ℕ, nat_eq, true, false, List, Option, Some, None, slice_get, option_and_then, option_map, is_some, count_by, if◌then◌else◌}
use Rattle.std.specs.List.{list_any, filter_map}
use Rattle.timing_defs.specs.declared.kinds.Split.TheVariants.{Early, Late}
use Rattle.timing_defs.specs.declared.netlist.Inst.{Inst}
use Rattle.timing_defs.specs.declared.design.Design.{Design}
use Rattle.timing_defs.specs.Netlist.{cell_of, net_of}
use Rattle.timing_defs.specs.Wires.{rc_of}
use Rattle.netlist_store.specs.declared.tables.Frame.{Frame}
use Rattle.netlist_store.specs.declared.tables.Names.{Names}
use Rattle.netlist_store.specs.declared.tables.Orders.{Orders}
use Rattle.netlist_store.specs.declared.tables.PinRow.{PinRow}
use Rattle.netlist_store.specs.declared.tables.Rows.{Rows}
use Rattle.netlist_store.specs.Numbering.{Stored, name_at, is_number, inst_numbered, pin_numbered, owner_number, net_number, is_on_number, IsNumbered}
use Rattle.netlist_store.specs.Linked.{IsLinked}

-- what a table has at a number
abbrev pub at : {X : Type 0} → List (Option X) → ℕ → Option X
at rows n = option_and_then (λ row. row) (slice_get rows n)

-- the design: its lists are what the tables have at the numbers, in their order
abbrev pub design_in : Frame → Names → Rows → Orders → Design
design_in frame names rows orders =
    record {
      early = frame.early;
      late = frame.late;
      ports = frame.ports;
      nets = filter_map (name_at names.nets) orders.nets;
      insts = filter_map (at rows.insts) orders.insts;
      constraints = frame.constraints;
      rcs = filter_map (at rows.rcs) orders.rcs;
    }

abbrev pub stored_in : Frame → Names → Rows → Orders → Stored
stored_in frame names rows orders =
    record { design = design_in frame names rows orders; insts = names.insts; nets = names.nets; pins = names.pins }

-- the pins that a net's row lists are those on it, each once
abbrev pub IsNetRow : Stored → ℕ → Option (List ℕ) → Type 0
IsNetRow s net None = ⊥
IsNetRow s net (Some pins) = (pin : ℕ) → count_by (nat_eq pin) pins ≡ (if is_on_number s net pin then 1 else 0)

-- the row of a pin tells its owner, its net and its direction
pub record TellsPin (s : Stored) (pin : ℕ) (row : PinRow) : Type 0 where
  pub owner : row.owner ≡ owner_number s pin
  pub net : row.net ≡ net_number s pin
  pub dir : option_map (λ p. p.dir) (pin_numbered s pin) ≡ Some row.dir
  pub owned : is_some row.owner ≡ is_some (option_and_then (λ p. p.owner) (pin_numbered s pin))
  pub joined : is_some row.net ≡ is_some (option_and_then net_of (pin_numbered s pin))

abbrev pub IsPinRow : Stored → ℕ → Option PinRow → Type 0
IsPinRow s pin None = ⊥
IsPinRow s pin (Some row) = TellsPin s pin row

-- the instance of a row is that of its number, and both libraries have its cell
pub record TellsInst (s : Stored) (n : ℕ) (inst : Inst) : Type 0 where
  pub named : name_at s.insts n ≡ Some inst.name
  pub numbered : inst_numbered s n ≡ Some inst
  pub early : is_some (cell_of s.design Early inst) ≡ true
  pub late : is_some (cell_of s.design Late inst) ≡ true

abbrev pub IsInstRow : Stored → ℕ → Option Inst → Type 0
IsInstRow s n None = is_number s.insts n ≡ false
IsInstRow s n (Some inst) = TellsInst s n inst

-- the tables tell what the design has, and what stands in the orders has a row
pub record AreTables (s : Stored) (rows : Rows) (orders : Orders) : Type 0 where
  pub inst_rows : (n : ℕ) → IsInstRow s n (at rows.insts n)
  pub rc_rows : (n : ℕ) → option_and_then (rc_of s.design) (name_at s.nets n) ≡ at rows.rcs n
  pub net_rows : (n : ℕ) → is_number s.nets n ≡ true → IsNetRow s n (slice_get rows.net_pins n)
  pub pin_rows : (n : ℕ) → is_number s.pins n ≡ true → IsPinRow s n (slice_get rows.pins n)
  pub insts_ordered : (n : ℕ) → list_any (nat_eq n) orders.insts ≡ is_number s.insts n
  pub nets_ordered : (n : ℕ) → list_any (nat_eq n) orders.nets ≡ is_number s.nets n
  pub rcs_ordered : (n : ℕ) → list_any (nat_eq n) orders.rcs ≡ is_some (at rows.rcs n)
  pub numbered : IsNumbered s
  pub linked : IsLinked s.design
