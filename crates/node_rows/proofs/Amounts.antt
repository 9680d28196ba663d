-- Capacitances and resistances of a linked design are amounts: from 0 to the limit.

use Rattle.std.proofs.Common.{◌≡◌, ℕ, ℤ, pos, Bool, true, false, not, ◌&&◌, List, Option, None, Some, refl}
use Rattle.std.specs.Prelude.{find, int_le, ◌||◌, if◌then◌else◌}
use Rattle.std.specs.Option.{option_map_or}
use Rattle.std.specs.Str.{bytes_eq}
use Rattle.std.proofs.lemmas.Bool.{and_parts}
use Rattle.sta_units.specs.Numbers.{is_within}
use Rattle.timing_defs.specs.declared.kinds.Split.{Split}
use Rattle.timing_defs.specs.declared.kinds.Split.TheVariants.{Early, Late}
use Rattle.timing_defs.specs.declared.library.Library.{Library}
use Rattle.timing_defs.specs.declared.library.Cell.{Cell}
use Rattle.timing_defs.specs.declared.library.CellPin.{CellPin}
use Rattle.timing_defs.specs.declared.constraints.PortLoad.{PortLoad}
use Rattle.timing_defs.specs.declared.netlist.Inst.{Inst}
use Rattle.timing_defs.specs.declared.design.Design.{Design}
use Rattle.timing_defs.specs.Netlist.{Pin, cell_pins, cell_named, library_of, is_driver, same_split}
use Rattle.timing_defs.specs.Wires.{pin_cap, owner_cap}
use Rattle.timing_defs.specs.Edits.{has_colon}
use Rattle.netlist_store.specs.Linked.{IsLinked}
use Rattle.timing_defs.specs.Documents.{is_amount, is_library}
use Rattle.netlist_store.specs.Numbering.{Stored, pin_numbered}
use Rattle.node_rows.specs.NetPins.{counted, cap_at}
use Rattle.timing_defs.proofs.Members.{all_in, found_in}
use Rattle.store_pins.proofs.PinNames.{caps_good}
use Rattle.node_rows.proofs.ConstraintLaws.{fit_of}

pub amount_within : (x : ℤ) → is_amount x ≡ true → is_within x ≡ true
amount_within x h = (and_parts (int_le (pos 0) x) (is_within x) h).1

-- the capacitance of a pin of a cell
in_cell : (library : Library) (good : is_library library ≡ true) (name own : List ℕ)
    → is_amount (option_map_or (λ p. p.cap.0) (find (λ p. bytes_eq p.name own) (cell_pins (cell_named library.cells name))) (pos 0)) ≡ true
in_cell library good name own = by (cell_named library.cells name) refl
  where
    by : (o : Option Cell) → cell_named library.cells name ≡ o → is_amount (option_map_or (λ (p : CellPin). p.cap.0) (find (λ (p : CellPin). bytes_eq p.name own) (cell_pins o)) (pos 0)) ≡ true
    by None e = refl
    by (Some cell) e = pick (find (λ (p : CellPin). bytes_eq p.name own) cell.pins) refl
      where
        pick : (o : Option CellPin) → find (λ (p : CellPin). bytes_eq p.name own) cell.pins ≡ o → is_amount (option_map_or (λ (p : CellPin). p.cap.0) o (pos 0)) ≡ true
        pick None f = refl
        pick (Some p) f =
            (and_parts (not (has_colon p.name)) (is_amount p.cap.0)
            (all_in (λ (q : CellPin). not (has_colon q.name) && is_amount q.cap.0) cell.pins p (caps_good library good cell name e)
            (found_in (λ (q : CellPin). bytes_eq q.name own) cell.pins p f))).1

module _ (d : Design) (linked : IsLinked d) (split : Split) where
  library_good : is_library (library_of d split) ≡ true
  library_good = by split
    where
      by : (x : Split) → is_library (library_of d x) ≡ true
      by Early = linked.early
      by Late = linked.late

  owned : (owner : Option Inst) (own : List ℕ) → is_amount (owner_cap d split owner own) ≡ true
  owned None own = pick (find (λ (l : PortLoad). bytes_eq l.port own && same_split l.split split) d.constraints.loads) refl
    where
      pick : (o : Option PortLoad) → find (λ (l : PortLoad). bytes_eq l.port own && same_split l.split split) d.constraints.loads ≡ o → is_amount (option_map_or (λ (l : PortLoad). l.load.0) o (pos 0)) ≡ true
      pick None f = refl
      pick (Some l) f =
          all_in (λ (x : PortLoad). is_amount x.load.0) d.constraints.loads l (fit_of d.constraints linked.constraints).loads
          (found_in (λ (x : PortLoad). bytes_eq x.port own && same_split x.split split) d.constraints.loads l f)
  owned (Some inst) own = in_cell (library_of d split) library_good inst.cell own

  pub cap_amount : (p : Pin) → is_amount (pin_cap d split p) ≡ true
  cap_amount p = owned p.owner p.own

  pub counted_amount : (drivers : Bool) (p : Pin) → is_amount (counted d split drivers p) ≡ true
  counted_amount drivers p = by (drivers || not (is_driver p))
    where
      by : (b : Bool) → is_amount (if b then pin_cap d split p else pos 0) ≡ true
      by true = cap_amount p
      by false = refl

pub at_amount : (s : Stored) (linked : IsLinked s.design) (split : Split) (drivers : Bool) (n : ℕ) → is_amount (cap_at s split drivers n) ≡ true
at_amount s linked split drivers n = by (pin_numbered s n)
  where
    by : (o : Option Pin) → is_amount (option_map_or (counted s.design split drivers) o (pos 0)) ≡ true
    by None = refl
    by (Some p) = counted_amount s.design linked split drivers p
