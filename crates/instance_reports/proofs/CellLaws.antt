-- What a linked design keeps of its cells: distinct names, and pins of distinct names.

use Rattle.std.proofs.Common.{◌≡◌, ℕ, ◌<◌, Bool, true, false, not, List, [], ◌∷◌, map, filter, length, get_or, Some, refl, sym, subst, inl, inr}
use Rattle.std.specs.Prelude.{◌&&◌, Contains}
use Rattle.std.specs.List.{list_all}
use Rattle.std.specs.Str.{bytes_eq}
use Rattle.std.proofs.lemmas.Bool.{cases_Bool, and_parts, and_from, or_parts, or_from, not-true, not_from_false}
use Rattle.timing_defs.specs.declared.kinds.Split.TheVariants.{Late}
use Rattle.timing_defs.specs.declared.library.Cell.{Cell}
use Rattle.timing_defs.specs.declared.netlist.Inst.{Inst}
use Rattle.timing_defs.specs.declared.design.Design.{Design}
use Rattle.timing_defs.specs.Documents.{is_cell, is_amount, is_cell_arc, is_cell_test}
use Rattle.timing_defs.specs.Edits.{has_colon}
use Rattle.timing_defs.specs.Netlist.{cell_of, is_listed, are_distinct}
use Rattle.timing_defs.proofs.Members.{all_in, found_in}
use Rattle.netlist_store.specs.Linked.{IsLinked}

module _ {X : Type 0} (name : X → List ℕ) (keep : X → Bool) where
  unlisted_filter : (xs : List X) (q : List ℕ) → is_listed (map name xs) q ≡ false → is_listed (map name (filter keep xs)) q ≡ false
  unlisted_filter [] q h = refl
  unlisted_filter (x ∷ xs) q h =
      let k = or_parts (bytes_eq q (name x)) (is_listed (map name xs) q) h in
      let rest = unlisted_filter xs q k.1 in
      elim (cases_Bool (keep x)) [
        | inl e ↦ rw e (or_from (bytes_eq q (name x)) (is_listed (map name (filter keep xs)) q) k.0 rest)
        | inr e ↦ rw e rest
      ]

  -- names are distinct among the items that stay
  pub distinct_filter : (xs : List X) → are_distinct (map name xs) ≡ true → are_distinct (map name (filter keep xs)) ≡ true
  distinct_filter [] h = refl
  distinct_filter (x ∷ xs) h =
      let k = and_parts (not (is_listed (map name xs) (name x))) (are_distinct (map name xs)) h in
      let rest = distinct_filter xs k.1 in
      let once = unlisted_filter xs (name x) (not-true (is_listed (map name xs) (name x)) k.0) in
      elim (cases_Bool (keep x)) [
        | inl e ↦ rw e (and_from (not (is_listed (map name (filter keep xs)) (name x))) (are_distinct (map name (filter keep xs))) (not_from_false _ once) rest)
        | inr e ↦ rw e rest
      ]

module _ (d : Design) (linked : IsLinked d) where
  pub cells_distinct : are_distinct (map (λ c. c.name) d.late.cells) ≡ true
  cells_distinct =
      let cells = and_parts _ (list_all is_cell d.late.cells) linked.late in (and_parts _ (are_distinct (map (λ c. c.name) d.late.cells)) cells.0).1

  pub pins_apart : (cell : Cell) → Contains d.late.cells cell → are_distinct (map (λ p. p.name) cell.pins) ≡ true
  pins_apart cell c =
      let cells = and_parts _ (list_all is_cell d.late.cells) linked.late in
      let ok : is_cell cell ≡ true = all_in is_cell d.late.cells cell cells.1 c in
      let one = and_parts _ (list_all (is_cell_test cell) cell.tests) ok in
      let two = and_parts _ (list_all (is_cell_arc cell) cell.arcs) one.0 in
      let three = and_parts _ (list_all (λ p. not (has_colon p.name) && is_amount p.cap.0) cell.pins) two.0 in
      (and_parts _ (are_distinct (map (λ p. p.name) cell.pins)) three.0).1

  -- the cell of an instance is among them
  pub its_pins_apart : (inst : Inst) (cell : Cell) → cell_of d Late inst ≡ Some cell → are_distinct (map (λ p. p.name) cell.pins) ≡ true
  its_pins_apart inst cell has = pins_apart cell (found_in (λ (c : Cell). bytes_eq c.name inst.cell) d.late.cells cell has)

  pub listed_apart : (cells : List Cell) (i : ℕ) (cell : Cell) → cells ≡ d.late.cells → i < length cells → cell ≡ get_or cells i cell
      → are_distinct (map (λ p. p.name) cell.pins) ≡ true
  listed_apart cells i cell same low here = pins_apart cell (subst (λ (cs : List Cell). Contains cs cell) same (i, low, sym here))
