-- Stores in which an instance becomes another cell, as the code has their tables.

use Rattle.std.proofs.Common.{◌≡◌, ℕ, true, false, List, Option, None, Some, refl, sym, ap, subst, ◌∙◌}
use Rattle.std.specs.Prelude.{nat_eq, option_and_then, option_map, is_some, if◌then◌else◌}
use Rattle.std.specs.List.{filter_map, list_any, list_all}
use Rattle.std.specs.Option.{option_or}
use Rattle.timing_defs.specs.declared.kinds.Split.TheVariants.{Late}
use Rattle.timing_defs.specs.declared.library.CellPin.{CellPin}
use Rattle.timing_defs.specs.declared.netlist.Inst.{Inst}
use Rattle.timing_defs.specs.declared.edits.Edit.TheVariants.{Repower}
use Rattle.timing_defs.specs.Netlist.{cell_of, cell_pins, cell_named, conn_net}
use Rattle.timing_defs.specs.Edits.{inst_named, on_inst, changed, edit_faults, first_fault}
use Rattle.netlist_store.specs.declared.tables.Frame.{Frame}
use Rattle.netlist_store.specs.declared.tables.Names.{Names}
use Rattle.netlist_store.specs.declared.tables.Orders.{Orders}
use Rattle.netlist_store.specs.declared.tables.PinRow.{PinRow}
use Rattle.netlist_store.specs.declared.tables.Rows.{Rows}
use Rattle.netlist_store.specs.Numbering.{Stored, name_at, number_of, inst_numbered, AreNumbers}
use Rattle.netlist_store.specs.Linked.{IsLinked}
use Rattle.netlist_store.specs.Drafts.{IsFilled, row_named, inst_row, row_among, is_lost}
use Rattle.netlist_store.specs.Stores.{at, design_in, stored_in, AreTables}
use Rattle.netlist_store.proofs.NumberLaws.{number_at, some_is}
use Rattle.netlist_store.proofs.ConnLaws.{some_of}
use Rattle.netlist_store.proofs.EditLaws.{linked_repower}
use Rattle.netlist_store.proofs.PinsByWord.{plain_pins, is_plain}
use Rattle.netlist_store.proofs.PinsOfInst.{has_own}
use Rattle.netlist_store.proofs.InstPins.{inst_owned, on_found}
use Rattle.netlist_store.proofs.OtherCells.{cells_changed, cell_put}
use Rattle.netlist_store.proofs.Sound.{tables_sound, sound_tables, inst_is}

module _ (frame : Frame) (names : Names) (rows : Rows) (orders : Orders) (t : AreTables (stored_in frame names rows orders) rows orders)
    (s : Stored) (view : stored_in frame names rows orders ≡ s) (x : List ℕ) (n : ℕ) (here : number_of s.insts x ≡ Some n)
    (cell : List ℕ) (free : first_fault (edit_faults s.design (Repower x cell)) ≡ None)
    (row : Inst) (row_is : (i : Inst) → inst_numbered s n ≡ Some i → row ≡ record { name = i.name; cell = cell; conns = i.conns })
    (old new : List CellPin) (old_are : old ≡ cell_pins (option_and_then (cell_of s.design Late) (inst_numbered s n)))
    (new_are : new ≡ cell_pins (cell_named s.design.late.cells cell))
    (pins : List (Option (List ℕ))) (are : AreNumbers pins) (pin_rows : List PinRow) (filled : IsFilled pins pin_rows)
    (written : (q : List ℕ) → row_named pins pin_rows q
    ≡ option_or (row_among row.name (inst_row names.nets row n) new q) (if list_any (is_lost row.name new q) old then None else row_named names.pins rows.pins q))
    (kept : (q : List ℕ) (m : ℕ) → list_any (is_lost row.name new q) old ≡ false → number_of names.pins q ≡ Some m → number_of pins q ≡ Some m)
    (table : List (Option Inst)) (put : (k : ℕ) → at table k ≡ (if nat_eq n k then Some row else at rows.insts k)) where
  abbrev other : Inst → Inst
  other i = record { name = i.name; cell = cell; conns = i.conns }

  here_in : number_of names.insts x ≡ Some n
  here_in = ap (λ (s : Stored). number_of s.insts x) view ∙ here

  stands : name_at names.insts n ≡ Some x
  stands = number_at names.insts x n here_in

  its : (i : Inst) × (at rows.insts n ≡ Some i)
  its = some_of (at rows.insts n) (sym ((tables_sound frame names rows orders t).inst_numbers n) ∙ ap is_some stands)

  found : inst_named (design_in frame names rows orders).insts x ≡ Some (its).0
  found = inst_is frame names rows orders (tables_sound frame names rows orders t) x ∙ ap (option_and_then (at rows.insts)) here_in ∙ (its).1

  numbered : inst_numbered (stored_in frame names rows orders) n ≡ Some (its).0
  numbered = ap (option_and_then (inst_named (design_in frame names rows orders).insts)) stands ∙ found

  named : (its).0.name ≡ x
  named = some_is (sym ((tables_sound frame names rows orders t).inst_names n (its).0 (its).1) ∙ stands)

  row_now : row ≡ other (its).0
  row_now = row_is (its).0 (sym (ap (λ (s : Stored). inst_numbered s n) view) ∙ numbered)

  row_name : row.name ≡ x
  row_name = ap (λ (r : Inst). r.name) row_now ∙ named

  put_now : (k : ℕ) → at table k ≡ (if nat_eq n k then Some (other (its).0) else at rows.insts k)
  put_now k = put k ∙ ap (λ r. if nat_eq n k then Some r else at rows.insts k) row_now

  its_old : old ≡ cell_pins (cell_named frame.late.cells (its).0.cell)
  its_old =
      old_are ∙ sym (ap (λ (s : Stored). cell_pins (option_and_then (cell_of s.design Late) (inst_numbered s n))) view)
      ∙ ap (λ o. cell_pins (option_and_then (cell_of (design_in frame names rows orders) Late) o)) numbered

  its_new : new ≡ cell_pins (cell_named frame.late.cells cell)
  its_new = new_are ∙ sym (ap (λ (s : Stored). cell_pins (cell_named s.design.late.cells cell)) view)

  free_in : first_fault (edit_faults (design_in frame names rows orders) (Repower x cell)) ≡ None
  free_in = ap (λ (s : Stored). first_fault (edit_faults s.design (Repower x cell))) view ∙ free

  linked_now : IsLinked (changed (design_in frame names rows orders) (Repower x cell))
  linked_now = linked_repower (design_in frame names rows orders) t.linked x cell free_in

  has_old : (own net : List ℕ) → conn_net (its).0.conns own ≡ Some net → has_own own old ≡ true
  has_old own net on = ap (has_own own) its_old ∙ inst_owned (design_in frame names rows orders) t.linked x (its).0 found own net on

  has_new : (own net : List ℕ) → conn_net (its).0.conns own ≡ Some net → has_own own new ≡ true
  has_new own net on =
      ap (has_own own) its_new
      ∙ inst_owned (changed (design_in frame names rows orders) (Repower x cell)) linked_now x (other (its).0)
      (on_found x other (λ i. refl) (design_in frame names rows orders).insts ∙ ap (option_map other) found) own net on

  new_plain : list_all is_plain new ≡ true
  new_plain = ap (list_all is_plain) its_new ∙ plain_pins (design_in frame names rows orders) t.linked (other (its).0)

  old_plain : list_all is_plain old ≡ true
  old_plain = ap (list_all is_plain) its_old ∙ plain_pins (design_in frame names rows orders) t.linked (its).0

  list_now : filter_map (at table) orders.insts ≡ on_inst x other (design_in frame names rows orders).insts
  list_now = cells_changed frame names rows orders (tables_sound frame names rows orders t) x n here_in (its).0 (its).1 cell table put_now

  written_now : (q : List ℕ) → row_named pins pin_rows q
      ≡ option_or (row_among x (inst_row names.nets (other (its).0) n) new q) (if list_any (is_lost x new q) old then None else row_named names.pins rows.pins q)
  written_now q =
      written q
      ∙ ap (λ z. option_or (row_among z (inst_row names.nets row n) new q) (if list_any (is_lost z new q) old then None else row_named names.pins rows.pins q)) row_name
      ∙ ap (λ r. option_or (row_among x (inst_row names.nets r n) new q) (if list_any (is_lost x new q) old then None else row_named names.pins rows.pins q)) row_now

  kept_now : (q : List ℕ) (m : ℕ) → list_any (is_lost x new q) old ≡ false → number_of names.pins q ≡ Some m → number_of pins q ≡ Some m
  kept_now q m h e = kept q m (ap (λ z. list_any (is_lost z new q) old) row_name ∙ h) e

  pub cell_design : design_in frame (record names { pins = pins }) (record rows { insts = table; pins = pin_rows }) orders ≡ changed s.design (Repower x cell)
  cell_design =
      ap (λ xs. record (design_in frame names rows orders) { insts = xs }) list_now
      ∙ ap (λ (s : Stored). changed s.design (Repower x cell)) view

  pub cell_tables : AreTables (stored_in frame (record names { pins = pins }) (record rows { insts = table; pins = pin_rows }) orders) (record rows { insts = table; pins = pin_rows }) orders
  cell_tables =
      let d = design_in frame names rows orders in
      let linked : IsLinked (record d { insts = filter_map (at table) orders.insts }) = subst (λ xs. IsLinked (record d { insts = xs })) (sym list_now) linked_now in
      sound_tables frame (record names { pins = pins }) (record rows { insts = table; pins = pin_rows }) orders
      (cell_put frame names rows orders (tables_sound frame names rows orders t) x n here_in (its).0 (its).1 cell table put_now
      new old its_new its_old new_plain old_plain has_new has_old pins are pin_rows filled written_now kept_now linked)
