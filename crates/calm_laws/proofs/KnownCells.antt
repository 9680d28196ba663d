-- The cells of a linked design's instances: pins of distinct names, and arcs that are in both libraries.

use Rattle.std.proofs.Common.{◌≡◌, Bool, true, false, List, [], ◌∷◌, map, length, Option, None, Some, refl, sym, ap, subst, ◌∙◌, inl, inr}
use Rattle.std.specs.Prelude.{Contains, nat_le, not, option_and_then, ◌&&◌, if◌then◌else◌}
use Rattle.std.specs.List.{list_any, list_all, flat_map}
use Rattle.std.specs.Option.{option_map_or}
use Rattle.std.specs.Str.{bytes_eq}
use Rattle.std.proofs.lemmas.Bool.{cases_Bool, true≢false, and_parts}
use Rattle.std.proofs.lemmas.List.Elements.{Contains-append_cases}
use Rattle.timing_defs.specs.declared.kinds.Split.TheVariants.{Early, Late}
use Rattle.timing_defs.specs.declared.library.Cell.{Cell}
use Rattle.timing_defs.specs.declared.library.CellPin.{CellPin}
use Rattle.timing_defs.specs.declared.netlist.Inst.{Inst}
use Rattle.timing_defs.specs.declared.design.Design.{Design}
use Rattle.timing_defs.specs.declared.faults.Fault.{Fault}
use Rattle.timing_defs.specs.declared.faults.Fault.TheVariants.{UnknownCell}
use Rattle.timing_defs.specs.Netlist.{Pin, port_pin, cell_pin, cell_pins, cell_of, inst_pins, pins, are_distinct}
use Rattle.timing_defs.specs.Wires.{first_some}
use Rattle.timing_rules.specs.Clocking.{cell_arcs, cell_tests}
use Rattle.timing_defs.specs.Edits.{link_inst, link_pin, link_net, first_fault, has_colon, cells_agree, same_set, same_cell_pin, same_arc, same_test}
use Rattle.timing_defs.specs.Documents.{is_amount, is_cell, is_cell_arc, is_cell_test}
use Rattle.timing_defs.proofs.Members.{some_is, none_in, in_cases, in_map_back, in_flat_map_back, found_in, all_in}
use Rattle.netlist_store.specs.Linked.{IsLinked}
use Rattle.calm_laws.proofs.Calm.{IsKnownCell}

none_at : {X : Type 0} (f : X → Option Fault) (xs : List X) → first_some f xs ≡ None → (x : X) → Contains xs x → f x ≡ None
none_at f [] e x c = absurd (none_in x c)
none_at f (y ∷ ys) e x c = by (f y) refl e (λ h d. none_at f ys h x d)
  where
    by : (o : Option Fault) → f y ≡ o → option_map_or Some o (first_some f ys) ≡ None → (first_some f ys ≡ None → Contains ys x → f x ≡ None) → f x ≡ None
    by (Some g) k h again = absurd (cc)
    by None k h again = elim (in_cases y ys x c) [ inl same ↦ ap f (sym same) ∙ k | inr d ↦ again h d ]

no_fault : (a b : Option Fault) → option_map_or (λ (f : Fault). true) (first_fault (a ∷ b ∷ [])) false ≡ false → a ≡ None
no_fault None b e = refl
no_fault (Some f) b e = absurd (true≢false e)

module _ (d : Design) (linked : IsLinked d) where
  pins_apart : (inst : Inst) → are_distinct (map (λ (p : CellPin). p.name) (cell_pins (cell_of d Late inst))) ≡ true
  pins_apart inst = by (cell_of d Late inst) refl
    where
      by : (o : Option Cell) → cell_of d Late inst ≡ o → are_distinct (map (λ (p : CellPin). p.name) (cell_pins o)) ≡ true
      by None e = refl
      by (Some cell) e =
          let cells = (and_parts (nat_le (length d.late.cells) 10000 && are_distinct (map (λ (c : Cell). c.name) d.late.cells)) (list_all is_cell d.late.cells) linked.late).1 in
          let good = all_in is_cell d.late.cells cell cells (found_in (λ c. bytes_eq c.name inst.cell) d.late.cells cell e) in
          let four = and_parts (nat_le (length cell.pins) 10000 && are_distinct (map (λ (p : CellPin). p.name) cell.pins)
          && list_all (λ p. not (has_colon p.name) && is_amount p.cap.0) cell.pins && list_all (is_cell_arc cell) cell.arcs) (list_all (is_cell_test cell) cell.tests) good in
          let three = and_parts (nat_le (length cell.pins) 10000 && are_distinct (map (λ (p : CellPin). p.name) cell.pins)
          && list_all (λ p. not (has_colon p.name) && is_amount p.cap.0) cell.pins) (list_all (is_cell_arc cell) cell.arcs) four.0 in
          let two = and_parts (nat_le (length cell.pins) 10000 && are_distinct (map (λ (p : CellPin). p.name) cell.pins))
          (list_all (λ p. not (has_colon p.name) && is_amount p.cap.0) cell.pins) three.0 in
          (and_parts (nat_le (length cell.pins) 10000) (are_distinct (map (λ (p : CellPin). p.name) cell.pins)) two.0).1

  module _ (inst : Inst) (within : Contains d.insts inst) where
    abbrev linked_by : Option Cell → Option Fault
    linked_by o = option_map_or (λ cell. first_some (link_pin inst.name cell) inst.conns) o (Some (UnknownCell inst.cell))

    abbrev used_of : Option Cell → Option Cell → Option Cell
    used_of early late = option_and_then (λ a. option_and_then (λ b. if cells_agree a b then Some b else None) late) early

    -- arcs and tests of an early cell that are in the late one
    abbrev are_in_late : Option Cell → Option Cell → Type 0
    are_in_late early late =
        (list_all (λ x. list_any (same_arc x) (cell_arcs late)) (cell_arcs early) ≡ true)
        × (list_all (λ x. list_any (same_test x) (cell_tests late)) (cell_tests early) ≡ true)

    agree_by : (early late : Option Cell) → linked_by (used_of early late) ≡ None → are_in_late early late
    agree_by None late e = (refl, refl)
    agree_by (Some a) None e = absurd (cc)
    agree_by (Some a) (Some b) e = elim (cases_Bool (cells_agree a b)) [
      | inl h ↦
          let sets = and_parts (same_set same_cell_pin a.pins b.pins && same_set same_arc a.arcs b.arcs) (same_set same_test a.tests b.tests) h in
          let arcs = (and_parts (same_set same_cell_pin a.pins b.pins) (same_set same_arc a.arcs b.arcs) sets.0).1 in (
            (and_parts (list_all (λ x. list_any (same_arc x) b.arcs) a.arcs) (list_all (λ y. list_any (same_arc y) a.arcs) b.arcs) arcs).0,
            (and_parts (list_all (λ x. list_any (same_test x) b.tests) a.tests) (list_all (λ y. list_any (same_test y) a.tests) b.tests) sets.1).0,
          )
      | inr h ↦ let f : linked_by None ≡ None = sym (ap (λ (t : Bool). linked_by (if t then Some b else None)) h) ∙ e in absurd (cc)
    ]

    agreeing : are_in_late (cell_of d Early inst) (cell_of d Late inst)
    agreeing =
        agree_by (cell_of d Early inst) (cell_of d Late inst)
        (none_at (link_inst d.early d.late) d.insts
        (no_fault (first_some (link_inst d.early d.late) d.insts) (first_some (link_net d.nets) d.rcs) linked.linked) inst within)

    pub known_cell : IsKnownCell d inst
    known_cell = record { apart = pins_apart inst; agree = agreeing.0; tested = agreeing.1 }

  -- the instance of a pin of the design
  pub owner_within : (pin : Pin) (inst : Inst) → Contains (pins d) pin → pin.owner ≡ Some inst → Contains d.insts inst
  owner_within pin inst c e = elim (Contains-append_cases (map port_pin d.ports) (flat_map (inst_pins d) d.insts) pin c) [
    | inl h ↦
        let m = in_map_back port_pin d.ports pin h in
        let f : None ≡ Some inst = ap (λ (q : Pin). q.owner) m.same ∙ e in
        absurd (cc)
    | inr h ↦
        let a = in_flat_map_back (inst_pins d) d.insts pin h in
        let m = in_map_back (cell_pin a.item) (cell_pins (cell_of d Late a.item)) pin a.inside in
        let f : a.item ≡ inst = some_is (ap (λ (q : Pin). q.owner) m.same ∙ e) in
        subst (λ (j : Inst). Contains d.insts j) f a.within
  ]

  pub owner_known : (pin : Pin) → Contains (pins d) pin → (inst : Inst) → pin.owner ≡ Some inst → IsKnownCell d inst
  owner_known pin c inst e = known_cell inst (owner_within pin inst c e)
