-- Stores in which a gate comes, as the code has their tables.

use Rattle.std.proofs.Common.{◌≡◌, ℕ, ◌≤◌, Bool, true, false, List, [], ◌∷◌, ◌++◌, map, length, Option, None, Some, refl, sym, ap, subst, ◌∙◌, not}
use Rattle.std.specs.Prelude.{◌&&◌, nat_eq, is_some, is_none, if◌then◌else◌}
use Rattle.std.specs.List.{filter_map, list_all}
use Rattle.std.specs.Option.{option_or}
use Rattle.std.specs.Str.{bytes_eq}
use Rattle.std.proofs.lemmas.Bool.{and_parts, false≢true}
use Rattle.timing_defs.specs.declared.library.Cell.{Cell}
use Rattle.timing_defs.specs.declared.library.CellPin.{CellPin}
use Rattle.timing_defs.specs.declared.netlist.Inst.{Inst}
use Rattle.timing_defs.specs.declared.design.Design.{Design}
use Rattle.timing_defs.specs.declared.edits.Edit.TheVariants.{InsertGate}
use Rattle.timing_defs.specs.declared.faults.Fault.{Fault}
use Rattle.timing_defs.specs.declared.faults.Fault.TheVariants.{UnknownCell, NameTaken}
use Rattle.timing_defs.specs.Netlist.{cell_pins, cell_named, are_distinct}
use Rattle.timing_defs.specs.Edits.{inst_named, has_colon, cell_for, unless, first_fault, edit_faults}
use Rattle.netlist_store.specs.declared.tables.Frame.{Frame}
use Rattle.netlist_store.specs.declared.tables.Names.{Names}
use Rattle.netlist_store.specs.declared.tables.Orders.{Orders}
use Rattle.netlist_store.specs.declared.tables.PinRow.{PinRow}
use Rattle.netlist_store.specs.declared.tables.Rows.{Rows}
use Rattle.netlist_store.specs.Numbering.{Stored, name_at, number_of, with_name, AreNumbers}
use Rattle.netlist_store.specs.Linked.{IsLinked}
use Rattle.timing_defs.specs.Documents.{is_cell, is_cell_arc, is_cell_test, is_amount}
use Rattle.netlist_store.specs.Drafts.{IsFilled, KeepsNames, row_named, inst_row, row_among}
use Rattle.netlist_store.specs.Stores.{at, design_in, stored_in, AreTables}
use Rattle.netlist_store.proofs.NumberEdits.{at_with}
use Rattle.netlist_store.proofs.NamedLaws.{no_inst}
use Rattle.netlist_store.proofs.ListLaws.{found_keeps}
use Rattle.netlist_store.proofs.ConnLaws.{some_of, usable_late}
use Rattle.netlist_store.proofs.EditLaws.{linked_insert_gate}
use Rattle.netlist_store.proofs.PinsByWord.{plain_pins}
use Rattle.netlist_store.proofs.PinsOfInst.{gate_row}
use Rattle.netlist_store.proofs.GateEdits.{insts_pushed, gate_added}
use Rattle.netlist_store.proofs.Sound.{tables_sound, sound_tables}

-- the pins of a cell have distinct names
pub distinct_pins : (d : Design) → IsLinked d → (cell : List ℕ) (c : Cell) → cell_named d.late.cells cell ≡ Some c → are_distinct (map (λ p. p.name) c.pins) ≡ true
distinct_pins d linked cell c e =
    let cells = and_parts _ (list_all is_cell d.late.cells) linked.late in
    let ok : is_cell c ≡ true = found_keeps (λ x. bytes_eq x.name cell) is_cell d.late.cells c cells.1 e in
    let one = and_parts _ (list_all (is_cell_test c) c.tests) ok in
    let two = and_parts _ (list_all (is_cell_arc c) c.arcs) one.0 in
    let three = and_parts _ (list_all (λ p. not (has_colon p.name) && is_amount p.cap.0) c.pins) two.0 in
    (and_parts _ (are_distinct (map (λ p. p.name) c.pins)) three.0).1

-- two checks that hold
both_hold : (a b : Bool) (f g : Fault) → a ≡ true → b ≡ true → first_fault (unless a f ∷ unless b g ∷ []) ≡ None
both_hold true true f g h k = refl
both_hold true false f g h k = absurd (false≢true k)
both_hold false b f g h k = absurd (false≢true h)

module _ (frame : Frame) (names : Names) (rows : Rows) (orders : Orders) (t : AreTables (stored_in frame names rows orders) rows orders)
    (x cell : List ℕ) (usable : is_some (cell_for (design_in frame names rows orders) cell) ≡ true) (fresh : number_of names.insts x ≡ None)
    (row : Inst) (row_is : row ≡ record { name = x; cell = cell; conns = [] })
    (ps : List CellPin) (pins_are : ps ≡ cell_pins (cell_named frame.late.cells cell))
    (made : Names) (n : ℕ) (put : made.insts ≡ with_name names.insts n row.name) (gap : name_at names.insts n ≡ None) (low : n ≤ length names.insts)
    (nets_same : made.nets ≡ names.nets) (still : AreNumbers made.insts) (are : AreNumbers made.pins) (kept : KeepsNames names.pins made.pins)
    (pin_rows : List PinRow) (written : (q : List ℕ) → row_named made.pins pin_rows q ≡ option_or (row_among row.name (inst_row names.nets row n) ps q) (row_named names.pins rows.pins q))
    (filled : IsFilled made.pins pin_rows)
    (table : List (Option Inst)) (written_inst : (k : ℕ) → at table k ≡ (if nat_eq n k then Some row else at rows.insts k))
    (orders' : Orders) (e : orders' ≡ record orders { insts = orders.insts ++ n ∷ [] }) where
  new_at : (k : ℕ) → name_at made.insts k ≡ (if nat_eq n k then Some x else name_at names.insts k)
  new_at k = ap (λ ns. name_at ns k) (put ∙ ap (λ (r : Inst). with_name names.insts n r.name) row_is) ∙ at_with names.insts n x low k

  put_at : (k : ℕ) → at table k ≡ (if nat_eq n k then Some (record { name = x; cell = cell; conns = [] }) else at rows.insts k)
  put_at k = written_inst k ∙ ap (λ r. if nat_eq n k then Some r else at rows.insts k) row_is

  written_now : (q : List ℕ) → row_named made.pins pin_rows q ≡ option_or (gate_row x n (cell_pins (cell_named frame.late.cells cell)) q) (row_named names.pins rows.pins q)
  written_now q =
      written q ∙ ap (λ zs. option_or (row_among row.name (inst_row names.nets row n) zs q) (row_named names.pins rows.pins q)) pins_are
      ∙ ap (λ (r : Inst). option_or (row_among r.name (inst_row names.nets r n) (cell_pins (cell_named frame.late.cells cell)) q) (row_named names.pins rows.pins q)) row_is

  list_now : filter_map (at table) (orders.insts ++ n ∷ []) ≡ (design_in frame names rows orders).insts ++ record { name = x; cell = cell; conns = [] } ∷ []
  list_now = insts_pushed frame names rows orders (tables_sound frame names rows orders t) x cell n made.insts still new_at gap fresh table put_at

  made_is : made ≡ record names { insts = made.insts; pins = made.pins }
  made_is = ap (λ ns. record made { nets = ns }) nets_same

  pub gate_design : design_in frame made (record rows { insts = table; pins = pin_rows }) orders'
      ≡ record (design_in frame names rows orders) { insts = (design_in frame names rows orders).insts ++ record { name = x; cell = cell; conns = [] } ∷ [] }
  gate_design =
      ap (λ ns. design_in frame ns (record rows { insts = table; pins = pin_rows }) orders') made_is
      ∙ ap (λ o. design_in frame (record names { insts = made.insts; pins = made.pins }) (record rows { insts = table; pins = pin_rows }) o) e
      ∙ ap (λ xs. record (design_in frame names rows orders) { insts = xs }) list_now

  pub gate_tables : AreTables (stored_in frame made (record rows { insts = table; pins = pin_rows }) orders') (record rows { insts = table; pins = pin_rows }) orders'
  gate_tables =
      let d = design_in frame names rows orders in
      let absent : inst_named d.insts x ≡ None = no_inst (stored_in frame names rows orders) x t.numbered fresh in
      let free : first_fault (edit_faults d (InsertGate x cell)) ≡ None =
      both_hold (is_some (cell_for d cell)) (is_none (inst_named d.insts x)) (UnknownCell cell) (NameTaken x) usable (ap is_none absent) in
      let linked : IsLinked (record d { insts = filter_map (at table) (orders.insts ++ n ∷ []) }) =
      subst (λ xs. IsLinked (record d { insts = xs })) (sym list_now) (linked_insert_gate d t.linked x cell free) in
      subst (λ ns. AreTables (stored_in frame ns (record rows { insts = table; pins = pin_rows }) orders') (record rows { insts = table; pins = pin_rows }) orders') (sym made_is)
      (subst (λ o. AreTables (stored_in frame (record names { insts = made.insts; pins = made.pins }) (record rows { insts = table; pins = pin_rows }) o) (record rows { insts = table; pins = pin_rows }) o) (sym e)
      (sound_tables frame (record names { insts = made.insts; pins = made.pins }) (record rows { insts = table; pins = pin_rows }) (record orders { insts = orders.insts ++ n ∷ [] })
      (gate_added frame names rows orders (tables_sound frame names rows orders t) x cell n made.insts still new_at gap fresh table put_at
      (plain_pins d t.linked (record { name = x; cell = cell; conns = [] })) made.pins are kept pin_rows filled written_now are linked)))

-- what the code asks for before
pub late_there : (d : Design) (cell : List ℕ) → is_some (cell_for d cell) ≡ true → is_some (cell_named d.late.cells cell) ≡ true
late_there d cell usable =
    let c = some_of (cell_for d cell) usable in
    ap is_some (usable_late d.early d.late cell c.0 c.1)

pub distinct_of : (s : Stored) → IsLinked s.design → (cell : List ℕ) → is_some (cell_for s.design cell) ≡ true → (ps : List CellPin)
    → ps ≡ cell_pins (cell_named s.design.late.cells cell) → are_distinct (map (λ p. p.name) ps) ≡ true
distinct_of s linked cell usable ps e =
    let c = some_of (cell_for s.design cell) usable in
    let late = usable_late s.design.early s.design.late cell c.0 c.1 in
    ap (λ zs. are_distinct (map (λ (p : CellPin). p.name) zs)) (e ∙ ap cell_pins late) ∙ distinct_pins s.design linked cell c.0 late
