-- The rows of the cells to which an instance may be resized are all that there are.

use Rattle.std.proofs.Common.{◌≡◌, ℕ, ◌+◌, ◌<◌, Bool, true, false, List, [], ◌∷◌, ◌++◌, map, filter, take, length, get_or, append-nil, Option, Some, refl, sym, ap, subst, ◌∙◌, inl, inr}
use Rattle.std.specs.Prelude.{find, if◌then◌else◌, Contains}
use Rattle.std.specs.Option.{option_map_or}
use Rattle.std.specs.Str.{bytes_eq}
use Rattle.std.proofs.lemmas.Bool.{cases_Bool}
use Rattle.std.proofs.lemmas.List.{take_more}
use Rattle.std.proofs.lemmas.Simd.{map-map}
use Rattle.timing_defs.specs.declared.kinds.Dir.TheVariants.{Input}
use Rattle.timing_defs.specs.declared.kinds.Split.TheVariants.{Late}
use Rattle.timing_defs.specs.declared.library.Cell.{Cell}
use Rattle.timing_defs.specs.declared.library.CellPin.{CellPin}
use Rattle.timing_defs.specs.declared.netlist.Inst.{Inst}
use Rattle.timing_defs.specs.declared.rows.PinCap.{PinCap}
use Rattle.timing_defs.specs.declared.closing.SizeChoice.{SizeChoice}
use Rattle.timing_defs.specs.declared.design.Design.{Design}
use Rattle.timing_defs.specs.Edits.{cells_agree}
use Rattle.timing_defs.specs.Firsts.{AreAll}
use Rattle.timing_defs.specs.Netlist.{same_dir, cell_of, are_distinct}
use Rattle.timing_defs.proofs.SameNames.{same_is}
use Rattle.timing_defs.proofs.Members.{some_is, none_in, first_in, later_in, in_cases, in_map, in_map_back, in_filter, passes_in, kept_in, found_in, found_passes, found_by}
use Rattle.timing_rules.specs.Connections.{may_be, is_alike, input_cap, input_before, choice_before, IsInputOf, IsChoice}
use Rattle.netlist_store.specs.Linked.{IsLinked}
use Rattle.instance_reports.specs.Orders.{AreInOrder}
use Rattle.instance_reports.specs.Resizes.{IsChoiceOf, AreChoicesOf, AddsIf}
use Rattle.instance_reports.proofs.OrderLaws.{all_in_order, all_same}
use Rattle.instance_reports.proofs.CellLaws.{distinct_filter, cells_distinct, pins_apart}

abbrev is_input : CellPin → Bool
is_input p = same_dir p.dir Input

-- the input pins of a cell, by name
pub inputs_told : (cell : Cell) (rows sorted : List PinCap) → are_distinct (map (λ p. p.name) cell.pins) ≡ true
    → rows ≡ map input_cap (filter (λ p. same_dir p.dir Input) cell.pins) → AreInOrder (λ r. r.pin) rows sorted
    → AreAll input_before (IsInputOf cell) sorted
inputs_told cell rows sorted apart told order =
    all_in_order (λ r. r.pin) (IsInputOf cell) rows sorted order
    (ap (λ (rs : List PinCap). are_distinct (map (λ (r : PinCap). r.pin) rs)) told
    ∙ ap are_distinct (map-map (λ (r : PinCap). r.pin) input_cap (filter is_input cell.pins))
    ∙ distinct_filter (λ (p : CellPin). p.name) is_input cell.pins apart)
    within is
  where
    within : (r : PinCap) → IsInputOf cell r → Contains rows r
    within r (p, c, dir, e) =
        subst (λ (rs : List PinCap). Contains rs r) (sym told)
        (subst (λ (x : PinCap). Contains (map input_cap (filter is_input cell.pins)) x) (sym e)
        (in_map input_cap (filter is_input cell.pins) p (in_filter is_input cell.pins p c dir)))

    is : (r : PinCap) → Contains rows r → IsInputOf cell r
    is r c =
        let m = in_map_back input_cap (filter is_input cell.pins) r (subst (λ (rs : List PinCap). Contains rs r) told c) in
        (m.item, kept_in is_input cell.pins m.item m.within, passes_in is_input cell.pins m.item m.within, sym m.same)

-- inputs of one name are the same
one_input : (cell : Cell) → are_distinct (map (λ p. p.name) cell.pins) ≡ true → (x y : PinCap) → IsInputOf cell x → IsInputOf cell y → x.pin ≡ y.pin → x ≡ y
one_input cell apart x y (p, c, dir, e) (q, c2, dir2, e2) same =
    let names : p.name ≡ q.name = sym (ap (λ (r : PinCap). r.pin) e) ∙ same ∙ ap (λ (r : PinCap). r.pin) e2 in
    let twin : p ≡ q =
    some_is
    (sym (found_by (λ (z : CellPin). z.name) cell.pins p apart c)
    ∙ ap (λ (n : List ℕ). find (λ (z : CellPin). bytes_eq z.name n) cell.pins) names
    ∙ found_by (λ (z : CellPin). z.name) cell.pins q apart c2) in
    e ∙ ap input_cap twin ∙ sym e2

-- rows of cells one by one
module _ (now : Cell) where
  choices_append : (cells : List Cell) (rows : List SizeChoice) (cell : Cell) (row : SizeChoice) → AreChoicesOf now cells rows → IsChoiceOf now cell row
      → AreChoicesOf now (cells ++ cell ∷ []) (rows ++ row ∷ [])
  choices_append [] [] cell row are is = (is, tt)
  choices_append (c ∷ cs) (r ∷ rs) cell row are is = (are.0, choices_append cs rs cell row are.1 is)
  choices_append [] (r ∷ rs) cell row are is = absurd are
  choices_append (c ∷ cs) [] cell row are is = absurd are

  row_in : (cells : List Cell) (rows : List SizeChoice) → AreChoicesOf now cells rows → (cell : Cell) → Contains cells cell
      → (row : SizeChoice) × Contains rows row × IsChoiceOf now cell row
  row_in [] rows are cell c = absurd (none_in cell c)
  row_in (d ∷ ds) [] are cell c = absurd are
  row_in (d ∷ ds) (r ∷ rs) are cell c = elim (in_cases d ds cell c) [
    | inl e ↦ (r, first_in r rs, subst (λ (x : Cell). IsChoiceOf now x r) e are.0)
    | inr b ↦ let m = row_in ds rs are.1 cell b in (m.0, later_in r rs m.0 m.1, m.2)
  ]

  cell_in : (cells : List Cell) (rows : List SizeChoice) → AreChoicesOf now cells rows → (row : SizeChoice) → Contains rows row
      → (cell : Cell) × Contains cells cell × IsChoiceOf now cell row
  cell_in cells [] are row c = absurd (none_in row c)
  cell_in [] (r ∷ rs) are row c = absurd are
  cell_in (d ∷ ds) (r ∷ rs) are row c = elim (in_cases r rs row c) [
    | inl e ↦ (d, first_in d ds, subst (λ (x : SizeChoice). IsChoiceOf now d x) e are.0)
    | inr b ↦ let m = cell_in ds rs are.1 row b in (m.0, later_in d ds m.0 m.1, m.2)
  ]

  names_of : (cells : List Cell) (rows : List SizeChoice) → AreChoicesOf now cells rows → map (λ (r : SizeChoice). r.cell) rows ≡ map (λ (c : Cell). c.name) cells
  names_of [] [] are = refl
  names_of (c ∷ cs) (r ∷ rs) are =
      let one = are.0.named in
      let others = names_of cs rs are.1 in
      λ i. one i ∷ others i
  names_of [] (r ∷ rs) are = absurd are
  names_of (c ∷ cs) [] are = absurd are

  -- one cell more
  kept_last : (p : Cell → Bool) (cells : List Cell) (cell : Cell) (b : Bool) → p cell ≡ b
      → filter p (cells ++ cell ∷ []) ≡ filter p cells ++ (if b then cell ∷ [] else [])
  kept_last p [] cell true e = rw e refl
  kept_last p [] cell false e = rw e refl
  kept_last p (c ∷ cs) cell b e = elim (cases_Bool (p c)) [
    | inl h ↦ rw h (ap (λ (xs : List Cell). c ∷ xs) (kept_last p cs cell b e))
    | inr h ↦ rw h (kept_last p cs cell b e)
  ]

  pub choices_more : (p : Cell → Bool) (cells : List Cell) (i : ℕ) (cell : Cell) (rows more : List SizeChoice) → i < length cells → cell ≡ get_or cells i cell
      → AreChoicesOf now (filter p (take i cells)) rows → AddsIf (p cell) now cell rows more → AreChoicesOf now (filter p (take (i + 1) cells)) more
  choices_more p cells i cell rows more low here are adds =
      subst (λ (cs : List Cell). AreChoicesOf now cs more)
      (sym (ap (filter p) (take_more cells i cell low ∙ ap (λ (x : Cell). take i cells ++ x ∷ []) (sym here))))
      (by (p cell) refl adds)
    where
      by : (b : Bool) → p cell ≡ b → AddsIf b now cell rows more → AreChoicesOf now (filter p (take i cells ++ cell ∷ [])) more
      by true e (row, is, put) =
          subst (λ (cs : List Cell). AreChoicesOf now cs more) (sym (kept_last p (take i cells) cell true e))
          (subst (λ (rs : List SizeChoice). AreChoicesOf now (filter p (take i cells) ++ cell ∷ []) rs) (sym put)
          (choices_append (filter p (take i cells)) rows cell row are is))
      by false e same =
          subst (λ (cs : List Cell). AreChoicesOf now cs more) (sym (kept_last p (take i cells) cell false e ∙ append-nil (filter p (take i cells))))
          (subst (λ (rs : List SizeChoice). AreChoicesOf now (filter p (take i cells)) rs) (sym same) are)

-- the rows of the cells to which an instance may be resized, by name
module _ (d : Design) (linked : IsLinked d) (inst : Inst) (now : Cell) (has : cell_of d Late inst ≡ Some now) (cells : List Cell) (same : cells ≡ d.late.cells) where
  abbrev fits : Cell → Bool
  fits c = may_be d inst.name c.name

  alike_is : (cell : Cell) → is_alike d inst cell ≡ cells_agree now cell
  alike_is cell = ap (λ (o : Option Cell). option_map_or (λ now. cells_agree now cell) o false) has

  module _ (rows : List SizeChoice) (are : AreChoicesOf now (filter (λ c. may_be d inst.name c.name) cells) rows) where
    apart : are_distinct (map (λ (r : SizeChoice). r.cell) rows) ≡ true
    apart =
        ap are_distinct (names_of now (filter fits cells) rows are)
        ∙ distinct_filter (λ (c : Cell). c.name) fits cells
        (ap (λ (cs : List Cell). are_distinct (map (λ (c : Cell). c.name) cs)) same ∙ cells_distinct d linked)

    within : (r : SizeChoice) → IsChoice d inst r → Contains rows r
    within r (may, (cell, found, alike, inputs)) =
        let among : Contains d.late.cells cell = found_in (λ (c : Cell). bytes_eq c.name r.cell) d.late.cells cell found in
        let called : cell.name ≡ r.cell = same_is cell.name r.cell (found_passes (λ (c : Cell). bytes_eq c.name r.cell) d.late.cells cell found) in
        let passes : may_be d inst.name cell.name ≡ true = ap (may_be d inst.name) called ∙ may in
        let m =
        row_in now (filter fits cells) rows are cell
        (in_filter fits cells cell (subst (λ (cs : List Cell). Contains cs cell) (sym same) among) passes) in
        let its = m.2 in
        let name : m.0.cell ≡ r.cell = its.named ∙ called in
        let like : m.0.alike ≡ r.alike = its.alike ∙ sym (alike ∙ alike_is cell) in
        let caps : m.0.inputs ≡ r.inputs =
        all_same (λ (x : PinCap). x.pin) (IsInputOf cell) (one_input cell (pins_apart d linked cell among)) m.0.inputs r.inputs its.inputs inputs in
        subst (λ (x : SizeChoice). Contains rows x) (λ k. record { cell = name k; alike = like k; inputs = caps k }) m.1

    is : (r : SizeChoice) → Contains rows r → IsChoice d inst r
    is r c =
        let m = cell_in now (filter fits cells) rows are r c in
        let its = m.2 in
        let among : Contains d.late.cells m.0 = subst (λ (cs : List Cell). Contains cs m.0) same (kept_in fits cells m.0 m.1) in (
          ap (may_be d inst.name) its.named ∙ passes_in fits cells m.0 m.1,
          (
            m.0,
            ap (λ (n : List ℕ). find (λ (x : Cell). bytes_eq x.name n) d.late.cells) its.named
                ∙ found_by (λ (x : Cell). x.name) d.late.cells m.0 (cells_distinct d linked) among,
            its.alike ∙ sym (alike_is m.0),
            its.inputs,
          ),
        )

    pub choices_told : (sorted : List SizeChoice) → AreInOrder (λ r. r.cell) rows sorted → AreAll choice_before (IsChoice d inst) sorted
    choices_told sorted order = all_in_order (λ r. r.cell) (IsChoice d inst) rows sorted order apart within is
