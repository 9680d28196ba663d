-- The tests of a cell stand at its input pins: an output pin has none.

use Rattle.std.proofs.Common.{◌≡◌, ℕ, Bool, true, false, List, [], ◌∷◌, map, filter, Option, Some, refl, sym, ap, subst, ◌∙◌, inl, inr}
use Rattle.std.specs.Prelude.{Contains, option_map, ◌&&◌}
use Rattle.std.specs.List.{list_all, list_any}
use Rattle.std.specs.Option.{option_map_or}
use Rattle.std.specs.Str.{bytes_eq}
use Rattle.std.proofs.lemmas.Bool.{cases_Bool, false≢true, and_parts}
use Rattle.std.proofs.lemmas.Slice.Eq.{bytes_eq-Decides}
use Rattle.timing_defs.specs.declared.kinds.Split.{Split}
use Rattle.timing_defs.specs.declared.kinds.Split.TheVariants.{Early, Late}
use Rattle.timing_defs.specs.declared.kinds.Dir.{Dir}
use Rattle.timing_defs.specs.declared.kinds.Dir.TheVariants.{Input, Output}
use Rattle.timing_defs.specs.declared.kinds.Kind.{Kind}
use Rattle.timing_defs.specs.declared.library.Cell.{Cell}
use Rattle.timing_defs.specs.declared.library.CellPin.{CellPin}
use Rattle.timing_defs.specs.declared.library.CellTest.{CellTest}
use Rattle.timing_defs.specs.declared.netlist.Inst.{Inst}
use Rattle.timing_defs.specs.declared.design.Design.{Design}
use Rattle.timing_defs.specs.Lookup.{is_well_formed}
use Rattle.timing_defs.specs.Netlist.{Node, cell_of, same_dir, same_tran, are_distinct}
use Rattle.timing_rules.specs.Clocking.{cell_tests}
use Rattle.timing_defs.specs.Kinds.{data_split, same_kind}
use Rattle.timing_rules.specs.Tests.{is_test_of, library_tests}
use Rattle.timing_defs.specs.Edits.{cells_agree, same_set, same_cell_pin, same_arc, same_test}
use Rattle.timing_defs.specs.Documents.{is_cell_test, has_pin, is_pin_of}
use Rattle.timing_defs.proofs.Members.{first_in, later_in, all_in, any_back, found_by}

none_kept : {X : Type 0} (p : X → Bool) (xs : List X) → ((x : X) → Contains xs x → p x ≡ true → ⊥) → filter p xs ≡ []
none_kept p [] none = refl
none_kept p (x ∷ xs) none = elim (cases_Bool (p x)) [
  | inl e ↦ absurd (none x (first_in x xs) e)
  | inr e ↦ rw e (none_kept p xs (λ y c h. none y (later_in x xs y c) h))
]

opposite : (dir : Dir) → same_dir Input dir ≡ true → same_dir dir Output ≡ true → ⊥
opposite Input e f = false≢true f
opposite Output e f = false≢true e

same_is : (a b : List ℕ) → bytes_eq a b ≡ true → a ≡ b
same_is a b = (bytes_eq-Decides a b).0

first_of_five : (a b c d e : Bool) → (a && b && c && d && e) ≡ true → a ≡ true
first_of_five true b c d e h = refl
first_of_five false b c d e h = absurd (false≢true h)

second_of_five : (a b c d e : Bool) → (a && b && c && d && e) ≡ true → b ≡ true
second_of_five true true c d e h = refl
second_of_five true false c d e h = absurd (false≢true h)
second_of_five false b c d e h = absurd (false≢true h)

module _ (d : Design) (inst : Inst) (early late : Cell) (early_is : cell_of d Early inst ≡ Some early) (late_is : cell_of d Late inst ≡ Some late)
    (agree : cells_agree early late ≡ true) (apart : are_distinct (map (λ (p : CellPin). p.name) late.pins) ≡ true)
    (good : list_all (is_cell_test late) late.tests ≡ true) where
  at_input : (test : CellTest) → Contains late.tests test → has_pin late Input test.pin ≡ true
  at_input test c =
      let one = and_parts (has_pin late Input test.pin && is_pin_of late test.clock) (is_well_formed test.need) (all_in (is_cell_test late) late.tests test good c) in
      (and_parts (has_pin late Input test.pin) (is_pin_of late test.clock) one.0).0

  early_at_input : (test : CellTest) → Contains early.tests test → has_pin late Input test.pin ≡ true
  early_at_input test c =
      let set = (and_parts (same_set same_cell_pin early.pins late.pins && same_set same_arc early.arcs late.arcs) (same_set same_test early.tests late.tests) agree).1 in
      let each = (and_parts (list_all (λ x. list_any (same_test x) late.tests) early.tests) (list_all (λ y. list_any (same_test y) early.tests) late.tests) set).0 in
      let r = any_back (same_test test) late.tests (all_in (λ x. list_any (same_test x) late.tests) early.tests test each c) in
      let same = same_is test.pin r.item.pin
      (first_of_five (bytes_eq test.pin r.item.pin) (same_tran test.tran r.item.tran) (bytes_eq test.clock r.item.clock) (same_tran test.active r.item.active) (same_kind test.kind r.item.kind) r.passes) in
      ap (has_pin late Input) same ∙ at_input r.item r.within

  any_at_input : (split : Split) (test : CellTest) → Contains (cell_tests (cell_of d split inst)) test → has_pin late Input test.pin ≡ true
  any_at_input Early test c = early_at_input test (subst (λ (o : Option Cell). Contains (cell_tests o) test) early_is c)
  any_at_input Late test c = at_input test (subst (λ (o : Option Cell). Contains (cell_tests o) test) late_is c)

  pub none_at_output : (kind : Kind) (target clock : Node) (pin : CellPin) → Contains late.pins pin → target.pin.own ≡ pin.name → same_dir pin.dir Output ≡ true
      → library_tests d kind inst target clock ≡ []
  none_at_output kind target clock pin c own out =
      none_kept (is_test_of kind target clock) (cell_tests (cell_of d (data_split kind) inst))
      (λ test m e.
      let same = same_is test.pin target.pin.own
      (second_of_five (same_kind test.kind kind) (bytes_eq test.pin target.pin.own) (same_tran test.tran target.tran) (bytes_eq test.clock clock.pin.own) (same_tran test.active clock.tran) e) in
      let input : has_pin late Input pin.name ≡ true = ap (has_pin late Input) (sym (same ∙ own)) ∙ any_at_input (data_split kind) test m in
      let found = found_by (λ (p : CellPin). p.name) late.pins pin apart c in
      let dir : same_dir Input pin.dir ≡ true = sym (ap (λ o. option_map_or (same_dir Input) (option_map (λ (p : CellPin). p.dir) o) false) found) ∙ input in
      opposite pin.dir dir out)
