-- What follows of a linked design for its store.

use Rattle.std.proofs.Common.{◌≡◌, ℕ, ◌≤◌, Bool, true, false, not, List, [], ◌∷◌, map, length, Option, None, Some, refl, sym, ap, ◌∙◌}
use Rattle.std.specs.Prelude.{option_and_then, is_some, nat_le, ◌&&◌, if◌then◌else◌}
use Rattle.std.specs.List.{list_all}
use Rattle.std.specs.Option.{option_map_or}
use Rattle.std.specs.Str.{bytes_eq}
use Rattle.std.proofs.lemmas.Bool.{false≢true, leb-true}
use Rattle.timing_defs.specs.declared.library.Cell.{Cell}
use Rattle.timing_defs.specs.declared.library.CellPin.{CellPin}
use Rattle.timing_defs.specs.declared.library.Library.{Library}
use Rattle.timing_defs.specs.declared.netlist.Inst.{Inst}
use Rattle.timing_defs.specs.declared.parasitics.NetRc.{NetRc}
use Rattle.timing_defs.specs.declared.design.Design.{Design}
use Rattle.timing_defs.specs.declared.faults.Fault.{Fault}
use Rattle.timing_defs.specs.declared.faults.Fault.TheVariants.{UnknownCell, UnknownNet}
use Rattle.timing_defs.specs.Netlist.{name_of, cell_named, cell_pins, is_listed, are_distinct}
use Rattle.timing_defs.specs.Edits.{has_colon, cells_agree, unless, link_inst, link_net, link_pin}
use Rattle.timing_defs.specs.Wires.{first_some}
use Rattle.netlist_store.specs.Linked.{IsLinked}
use Rattle.timing_defs.specs.Documents.{is_amount, is_cell, is_cell_arc, is_cell_test, is_library, is_net_rc}
use Rattle.netlist_store.specs.Building.{of_pins}
use Rattle.netlist_store.proofs.NewTables.{IsFit}
use Rattle.netlist_store.proofs.PinLists.{and_left, and_right, and_both, each_found, of_pins_is, all_joined, pins_distinct, IsPinned}

-- tests that hold together
and3 : (a b c : Bool) → (a && b && c) ≡ true → (a ≡ true) × (b ≡ true) × (c ≡ true)
and3 true true true h = (refl, refl, refl)
and3 false b c h = absurd (false≢true h)
and3 true false c h = absurd (false≢true h)
and3 true true false h = absurd (false≢true h)

pub and4 : (a b c d : Bool) → (a && b && c && d) ≡ true → (a ≡ true) × (b ≡ true) × (c ≡ true) × (d ≡ true)
and4 true true true true h = (refl, refl, refl, refl)
and4 false b c d h = absurd (false≢true h)
and4 true false c d h = absurd (false≢true h)
and4 true true false d h = absurd (false≢true h)
and4 true true true false h = absurd (false≢true h)

and5 : (a b c d e : Bool) → (a && b && c && d && e) ≡ true → (b ≡ true) × (c ≡ true)
and5 true true true d e h = (refl, refl)
and5 false b c d e h = absurd (false≢true h)
and5 true false c d e h = absurd (false≢true h)
and5 true true false d e h = absurd (false≢true h)

pub le_of : (a b : ℕ) → nat_le a b ≡ true → a ≤ b
le_of a b h = leb-true a b h

all_left : {X : Type 0} (p q : X → Bool) (xs : List X) → list_all (λ x. p x && q x) xs ≡ true → list_all p xs ≡ true
all_left p q [] h = refl
all_left p q (x ∷ xs) h =
    and_both (p x) (list_all p xs) (and_left (p x) (q x) (and_left (p x && q x) (list_all (λ y. p y && q y) xs) h))
    (all_left p q xs (and_right (p x && q x) (list_all (λ y. p y && q y) xs) h))

-- a cell of a library has distinct pins without colons
pinned : (library : Library) → is_library library ≡ true → (i : Inst) → IsPinned library.cells i
pinned library good i = by (cell_named library.cells i.cell) refl
  where
    cells : list_all is_cell library.cells ≡ true
    cells = (and3 (nat_le (length library.cells) 10000) (are_distinct (map (λ cell. cell.name) library.cells)) (list_all is_cell library.cells) good).2

    by : (o : Option Cell) → cell_named library.cells i.cell ≡ o
        → (are_distinct (map (λ p. p.name) (cell_pins o)) ≡ true) × (list_all (λ p. not (has_colon p.name)) (cell_pins o) ≡ true)
    by None e = (refl, refl)
    by (Some cell) e =
        let is = each_found is_cell (λ c. bytes_eq c.name i.cell) library.cells cell cells e in
        let parts = and5 (nat_le (length cell.pins) 10000) (are_distinct (map (λ p. p.name) cell.pins))
        (list_all (λ p. not (has_colon p.name) && is_amount p.cap.0) cell.pins) (list_all (is_cell_arc cell) cell.arcs) (list_all (is_cell_test cell) cell.tests) is in
        (parts.0, all_left (λ (p : CellPin). not (has_colon p.name)) (λ (p : CellPin). is_amount p.cap.0) cell.pins parts.1)

pub short : (library : Library) → is_library library ≡ true → length library.cells ≤ 10000
short library good =
    le_of (length library.cells) 10000
    (and3 (nat_le (length library.cells) 10000) (are_distinct (map (λ cell. cell.name) library.cells)) (list_all is_cell library.cells) good).0

-- no fault in linking
none_first : (o rest : Option Fault) → option_map_or Some o rest ≡ None → (o ≡ None) × (rest ≡ None)
none_first None rest h = (refl, h)
none_first (Some f) rest h = absurd (cc)

no_fault : (a b : Option Fault) → option_map_or (λ fault. true) (option_map_or Some a (option_map_or Some b None)) false ≡ false → (a ≡ None) × (b ≡ None)
no_fault None None h = (refl, refl)
no_fault None (Some g) h = absurd (false≢true (sym h))
no_fault (Some f) b h = absurd (false≢true (sym h))

nets_there : (nets : List (List ℕ)) (rcs : List NetRc) → first_some (link_net nets) rcs ≡ None → list_all (λ rc. is_listed nets rc.net) rcs ≡ true
nets_there nets [] h = refl
nets_there nets (r ∷ rs) h =
    let both = none_first (link_net nets r) (first_some (link_net nets) rs) h in
    and_both (is_listed nets r.net) (list_all (λ rc. is_listed nets rc.net) rs) (there (is_listed nets r.net) both.0) (nets_there nets rs both.1)
  where
    there : (b : Bool) → unless b (UnknownNet r.net) ≡ None → b ≡ true
    there true e = refl
    there false e = absurd (cc)

cells_there : (early late : Library) (insts : List Inst) → first_some (link_inst early late) insts ≡ None
    → (list_all (λ i. is_some (cell_named early.cells i.cell)) insts ≡ true) × (list_all (λ i. is_some (cell_named late.cells i.cell)) insts ≡ true)
cells_there early late [] h = (refl, refl)
cells_there early late (i ∷ is) h =
    let both = none_first (link_inst early late i) (first_some (link_inst early late) is) h in
    let rest = cells_there early late is both.1 in
    let here = known (cell_named early.cells i.cell) (cell_named late.cells i.cell) both.0 in (
      and_both (is_some (cell_named early.cells i.cell)) (list_all (λ j. is_some (cell_named early.cells j.cell)) is) here.0 rest.0,
      and_both (is_some (cell_named late.cells i.cell)) (list_all (λ j. is_some (cell_named late.cells j.cell)) is) here.1 rest.1,
    )
  where
    known : (a b : Option Cell)
        → option_map_or (λ cell. first_some (link_pin i.name cell) i.conns)
        (option_and_then (λ x. option_and_then (λ y. if cells_agree x y then Some y else None) b) a) (Some (UnknownCell i.cell)) ≡ None
        → (is_some a ≡ true) × (is_some b ≡ true)
    known None b e = absurd (cc)
    known (Some x) None e = absurd (cc)
    known (Some x) (Some y) e = (refl, refl)

pub fits : (d : Design) → IsLinked d → IsFit d
fits d linked = record {
  rcs = and_left (are_distinct (map (λ rc. rc.net) d.rcs)) (list_all is_net_rc d.rcs) linked.parasitics;
  rc_nets = nets_there d.nets d.rcs faults.1;
  insts = names.1;
  early = (cells_there d.early d.late d.insts faults.0).0;
  late = (cells_there d.early d.late d.insts faults.0).1;
  pin_names =
      ap are_distinct (sym (of_pins_is name_of d.late.cells d.ports d.insts))
      ∙ pins_distinct d.late.cells (pinned d.late linked.late) d.ports d.insts names.0 linked.ports names.1;
  joined = all_joined d.ports d.nets d.late.cells d.insts linked.port_nets linked.nets;
}
  where
    faults : (first_some (link_inst d.early d.late) d.insts ≡ None) × (first_some (link_net d.nets) d.rcs ≡ None)
    faults = no_fault (first_some (link_inst d.early d.late) d.insts) (first_some (link_net d.nets) d.rcs) linked.linked

    names : (are_distinct (map (λ port. port.name) d.ports) ≡ true) × (are_distinct (map (λ i. i.name) d.insts) ≡ true) × (are_distinct d.nets ≡ true)
        × (list_all (λ i. are_distinct (map (λ conn. conn.pin) i.conns)) d.insts ≡ true)
    names =
        and4 (are_distinct (map (λ port. port.name) d.ports)) (are_distinct (map (λ i. i.name) d.insts)) (are_distinct d.nets)
        (list_all (λ i. are_distinct (map (λ conn. conn.pin) i.conns)) d.insts) linked.names

pub nets_distinct : (d : Design) → IsLinked d → are_distinct d.nets ≡ true
nets_distinct d linked =
    (and4 (are_distinct (map (λ port. port.name) d.ports)) (are_distinct (map (λ i. i.name) d.insts)) (are_distinct d.nets)
    (list_all (λ i. are_distinct (map (λ conn. conn.pin) i.conns)) d.insts) linked.names).2

pub pins_apart : (d : Design) → IsLinked d → are_distinct (of_pins name_of d.ports d.late.cells d.insts) ≡ true
pins_apart d linked = ap are_distinct (of_pins_is name_of d.late.cells d.ports d.insts) ∙ (fits d linked).pin_names
