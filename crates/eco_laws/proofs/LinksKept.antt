-- The numbers between which arcs lead, in a store and in one that an ECO made of it: at nets and instances that are not touched they are the same.

use Rattle.std.proofs.Common.{◌≡◌, ℕ, true, false, List, [], ◌∷◌, ◌++◌, Option, None, Some, refl, sym, ap, ◌∙◌, if◌then◌else◌, arith}
use Rattle.std.specs.Prelude.{Contains, ◌&&◌, find, not, option_and_then, option_map, is_some}
use Rattle.std.specs.List.{filter_map, cons_option, list_all}
use Rattle.std.specs.Option.{option_map_or}
use Rattle.std.specs.Str.{bytes_eq}
use Rattle.std.proofs.lemmas.Bool.{false≢true, and_parts, not-true}
use Rattle.timing_defs.specs.declared.kinds.Split.TheVariants.{Late}
use Rattle.timing_defs.specs.declared.kinds.Dir.{Dir}
use Rattle.timing_defs.specs.declared.kinds.Dir.TheVariants.{Input, Output}
use Rattle.timing_defs.specs.declared.library.Cell.{Cell}
use Rattle.timing_defs.specs.declared.library.CellPin.{CellPin}
use Rattle.timing_defs.specs.declared.library.CellArc.{CellArc}
use Rattle.timing_defs.specs.declared.library.CellTest.{CellTest}
use Rattle.timing_defs.specs.declared.netlist.Inst.{Inst}
use Rattle.timing_defs.specs.Netlist.{Pin, name_of, net_of, is_driver, driver, pins, cell_of, is_listed, same_dir}
use Rattle.timing_rules.specs.Clocking.{cell_arcs, cell_tests}
use Rattle.timing_defs.specs.Touches.{Touch}
use Rattle.timing_defs.specs.Documents.{is_cell_arc, is_cell_test, is_pin_of, has_pin}
use Rattle.timing_defs.specs.Lookup.{is_well_formed}
use Rattle.timing_defs.specs.Edits.{inst_named, has_colon, before_last}
use Rattle.timing_defs.proofs.SameNames.{same_is}
use Rattle.timing_defs.proofs.Members.{found_in, found_passes, all_in, any_back, some_is, first_in, later_in}
use Rattle.netlist_store.specs.Applying.{IsEditOf}
use Rattle.netlist_store.specs.Numbering.{Stored, name_at, number_of, inst_numbered, pin_numbered, IsNumbered}
use Rattle.netlist_store.proofs.SeenPins.{seen}
use Rattle.eco_laws.specs.Kept.{is_on_any, IsSameInst, IsSamePin, has_touched_inst, is_touched_pin}
use Rattle.eco_laws.specs.Links.{own_number, driver_number, number_before, before_number, arcs_made, arcs_made_at, tests_made, tests_made_at}
use Rattle.eco_laws.proofs.Lists.{either_false}
use Rattle.eco_laws.proofs.SeenLaws.{same_name, same_drives}
use Rattle.eco_laws.proofs.NetsLeft.{driver_left}
use Rattle.eco_laws.proofs.PinWords.{cell_good, colon_in, before_is}
use Rattle.eco_laws.proofs.PinsKept.{inst_named_so}
use Rattle.eco_laws.proofs.CellsKept.{cell_arcs_left, cell_tests_left}
use Rattle.eco_laws.proofs.EditOf.{base_linked, left_of, framed_of}
use Rattle.eco_laws.proofs.NamedPins.{then_pin}
use Rattle.eco_laws.proofs.Numbers.{number_of_both, pin_number, has_number, inst_before, inst_after}

-- what is made of items on which two functions agree
filter_map_agree : {X Y : Type 0} (f g : X → Option Y) (xs : List X) → ((x : X) → Contains xs x → f x ≡ g x) → filter_map f xs ≡ filter_map g xs
filter_map_agree f g [] same = refl
filter_map_agree f g (x ∷ xs) same =
    λ k. cons_option (same x (first_in x xs) k) (filter_map_agree f g xs (λ y c. same y (later_in x xs y c)) k)

-- the pins that a cell's arcs and tests name have no colon in their names
module _ (cell : Cell) (plain : list_all (λ p. not (has_colon p.name)) cell.pins ≡ true) where
  pin_plain : (own : List ℕ) → is_pin_of cell own ≡ true → has_colon own ≡ false
  pin_plain own h =
      let p = any_back (λ (p : CellPin). bytes_eq p.name own) cell.pins h in
      ap has_colon (sym (same_is p.item.name own p.passes))
      ∙ not-true (has_colon p.item.name) (all_in (λ (r : CellPin). not (has_colon r.name)) cell.pins p.item plain p.within)

  has_plain : (dir : Dir) (own : List ℕ) → has_pin cell dir own ≡ true → has_colon own ≡ false
  has_plain dir own h = by (find (λ p. bytes_eq p.name own) cell.pins) refl h
    where
      by : (o : Option CellPin) → find (λ p. bytes_eq p.name own) cell.pins ≡ o
          → option_map_or (same_dir dir) (option_map (λ p. p.dir) o) false ≡ true → has_colon own ≡ false
      by None e k = absurd (false≢true k)
      by (Some p) e k =
          ap has_colon (sym (same_is p.name own (found_passes (λ (r : CellPin). bytes_eq r.name own) cell.pins p e)))
          ∙ not-true (has_colon p.name)
          (all_in (λ (r : CellPin). not (has_colon r.name)) cell.pins p plain (found_in (λ (r : CellPin). bytes_eq r.name own) cell.pins p e))

module _ (base : Stored) (touch : Touch) (edited : Stored) (made : IsEditOf base touch edited) (num : IsNumbered base) (num2 : IsNumbered edited) where
  -- the number of the driver of a net that is not touched
  pub driver_number_left : (net : List ℕ) → is_listed touch.nets net ≡ false → driver_number edited net ≡ driver_number base net
  driver_number_left net off =
      by (driver base.design net) (driver edited.design net) refl refl
      (driver_left net base.design edited.design (left_of base touch edited made net off) (framed_of base touch edited made))
    where
      by : (o o2 : Option Pin) → driver base.design net ≡ o → driver edited.design net ≡ o2 → option_map seen o2 ≡ option_map seen o
          → option_and_then (λ pin. number_of edited.pins (name_of pin)) o2 ≡ option_and_then (λ pin. number_of base.pins (name_of pin)) o
      by None None e f h = refl
      by None (Some p2) e f h = absurd (cc)
      by (Some p) None e f h = absurd (cc)
      by (Some p) (Some p2) e f h =
          let same = same_name p p2 (some_is h) in
          let here = has_number base num p (found_in _ (pins base.design) p e) in
          let there = has_number edited num2 p2 (found_in _ (pins edited.design) p2 f) in
          ap (number_of edited.pins) same
          ∙ number_of_both base touch edited made num num2 (name_of p) here (sym (ap (λ q. is_some (number_of edited.pins q)) same) ∙ there)

  -- the number from which a net arc leads to a pin that is not touched
  pub before_left : (pin pin2 : Pin) → IsSamePin pin pin2 → is_on_any touch.nets (net_of pin2) ≡ false → number_before edited pin2 ≡ number_before base pin
  before_left pin pin2 same off =
      (λ k. if same_drives pin pin2 same.alike k then None else by (net_of pin2) off k)
      ∙ ap (λ o. if is_driver pin then None else option_and_then (driver_number base) o) same.joined
    where
      by : (o : Option (List ℕ)) → is_on_any touch.nets o ≡ false → option_and_then (driver_number edited) o ≡ option_and_then (driver_number base) o
      by None h = refl
      by (Some net) h = driver_number_left net h

  -- the numbers of the pins of an instance that is not touched
  module _ (inst inst2 : Inst) (same : IsSameInst touch.nets inst inst2) (off : is_listed touch.insts inst.name ≡ false) where
    pub own_number_left : (own : List ℕ) → has_colon own ≡ false → own_number edited inst2 own ≡ own_number base inst own
    own_number_left own plain =
        ap (λ n. number_of edited.pins (n ++ 58 ∷ own)) same.name
        ∙ pin_number base touch edited made num num2 (inst.name ++ 58 ∷ own)
        (ap (λ b. b && is_listed touch.insts (before_last (inst.name ++ 58 ∷ own))) (colon_in inst.name own)
        ∙ ap (is_listed touch.insts) (before_is inst.name own plain) ∙ off)

    -- what is made of each arc by the numbers of its ends, and of each test by those of its pins
    module _ {Y : Type 0} where
      pub inst_arcs_left : (make : CellArc → Option ℕ → Option ℕ → Option Y) → arcs_made make edited inst2 ≡ arcs_made make base inst
      inst_arcs_left make =
          ap (filter_map (λ arc. make arc (own_number edited inst2 arc.from) (own_number edited inst2 arc.to)))
          (cell_arcs_left base.design edited.design (framed_of base touch edited made) inst inst2 same.cell Late)
          ∙ filter_map_agree _ _ (cell_arcs (cell_of base.design Late inst)) (λ arc c. each arc (good arc c))
        where
          good : (arc : CellArc) → Contains (cell_arcs (cell_of base.design Late inst)) arc → (has_colon arc.from ≡ false) × (has_colon arc.to ≡ false)
          good arc = by (cell_of base.design Late inst) refl
            where
              by : (o : Option Cell) → cell_of base.design Late inst ≡ o → Contains (cell_arcs o) arc
                  → (has_colon arc.from ≡ false) × (has_colon arc.to ≡ false)
              by None e c = let low = c.1 in absurd (omega arith)
              by (Some cell) e c =
                  let g = cell_good base.design (base_linked base touch edited made) inst cell e in
                  let is = all_in (is_cell_arc cell) cell.arcs arc g.arcs c in
                  let one = and_parts (is_pin_of cell arc.from && has_pin cell Output arc.to && is_well_formed arc.delay) (is_well_formed arc.slew) is in
                  let two = and_parts (is_pin_of cell arc.from && has_pin cell Output arc.to) (is_well_formed arc.delay) one.0 in
                  let three = and_parts (is_pin_of cell arc.from) (has_pin cell Output arc.to) two.0 in
                  (pin_plain cell g.pins arc.from three.0, has_plain cell g.pins Output arc.to three.1)

          each : (arc : CellArc) → (has_colon arc.from ≡ false) × (has_colon arc.to ≡ false)
              → make arc (own_number edited inst2 arc.from) (own_number edited inst2 arc.to)
              ≡ make arc (own_number base inst arc.from) (own_number base inst arc.to)
          each arc plain = λ k. make arc (own_number_left arc.from plain.0 k) (own_number_left arc.to plain.1 k)

      pub inst_tests_left : (make : CellTest → Option ℕ → Option ℕ → Option Y) → tests_made make edited inst2 ≡ tests_made make base inst
      inst_tests_left make =
          ap (filter_map (λ test. make test (own_number edited inst2 test.clock) (own_number edited inst2 test.pin)))
          (cell_tests_left base.design edited.design (framed_of base touch edited made) inst inst2 same.cell Late)
          ∙ filter_map_agree _ _ (cell_tests (cell_of base.design Late inst)) (λ test c. each test (good test c))
        where
          good : (test : CellTest) → Contains (cell_tests (cell_of base.design Late inst)) test → (has_colon test.clock ≡ false) × (has_colon test.pin ≡ false)
          good test = by (cell_of base.design Late inst) refl
            where
              by : (o : Option Cell) → cell_of base.design Late inst ≡ o → Contains (cell_tests o) test
                  → (has_colon test.clock ≡ false) × (has_colon test.pin ≡ false)
              by None e c = let low = c.1 in absurd (omega arith)
              by (Some cell) e c =
                  let g = cell_good base.design (base_linked base touch edited made) inst cell e in
                  let is = all_in (is_cell_test cell) cell.tests test g.tests c in
                  let one = and_parts (has_pin cell Input test.pin && is_pin_of cell test.clock) (is_well_formed test.need) is in
                  let two = and_parts (has_pin cell Input test.pin) (is_pin_of cell test.clock) one.0 in
                  (pin_plain cell g.pins test.clock two.1, has_plain cell g.pins Input test.pin two.0)

          each : (test : CellTest) → (has_colon test.clock ≡ false) × (has_colon test.pin ≡ false)
              → make test (own_number edited inst2 test.clock) (own_number edited inst2 test.pin)
              ≡ make test (own_number base inst test.clock) (own_number base inst test.pin)
          each test plain = λ k. make test (own_number_left test.clock plain.0 k) (own_number_left test.pin plain.1 k)

  -- what is told of the instance of a number that stands for no touched instance
  module _ {Y : Type 0} (f2 f : Inst → Y) (y : Y)
      (each : (inst inst2 : Inst) → IsSameInst touch.nets inst inst2 → is_listed touch.insts inst.name ≡ false → f2 inst2 ≡ f inst) where
    pub at_inst : (n : ℕ) → is_on_any touch.insts (name_at base.insts n) ≡ false → is_on_any touch.insts (name_at edited.insts n) ≡ false
        → option_map_or f2 (inst_numbered edited n) y ≡ option_map_or f (inst_numbered base n) y
    at_inst n off off2 = by (inst_numbered base n) (inst_numbered edited n) refl refl
      where
        named : (s : Stored) (i : Inst) (o : Option (List ℕ)) → is_on_any touch.insts o ≡ false → option_and_then (inst_named s.design.insts) o ≡ Some i
            → is_listed touch.insts i.name ≡ false
        named s i None h e = absurd (cc)
        named s i (Some x) h e = ap (is_listed touch.insts) (inst_named_so s.design.insts x i e) ∙ h

        by : (o o2 : Option Inst) → inst_numbered base n ≡ o → inst_numbered edited n ≡ o2 → option_map_or f2 o2 y ≡ option_map_or f o y
        by None None e g = refl
        by None (Some i2) e g =
            let h = inst_before base touch edited made num num2 n i2 g (named edited i2 (name_at edited.insts n) off2 g) in
            let k : None ≡ Some h.inst = sym e ∙ h.numbered in
            absurd (cc)
        by (Some i) o2 e g =
            let free = named base i (name_at base.insts n) off e in
            let h = inst_after base touch edited made num num2 n i e free in
            ap (λ o. option_map_or f2 o y) (sym g ∙ h.numbered) ∙ each i h.inst2 h.same free

  -- the number from which a net arc leads to the pin of a number that stands for no touched pin
  pub before_at : (n : ℕ) → option_map_or (is_touched_pin touch) (pin_numbered base n) false ≡ false
      → option_map_or (is_touched_pin touch) (pin_numbered edited n) false ≡ false → before_number edited n ≡ before_number base n
  before_at n off off2 = then_pin base touch edited made num num2 (number_before edited) (number_before base) each n off off2
    where
      each : (pin pin2 : Pin) → IsSamePin pin pin2 → is_touched_pin touch pin ≡ false → number_before edited pin2 ≡ number_before base pin
      each pin pin2 same free =
          let on : is_on_any touch.nets (net_of pin) ≡ false = (either_false (is_on_any touch.nets (net_of pin)) (has_touched_inst touch pin) free).0 in
          before_left pin pin2 same (ap (is_on_any touch.nets) same.joined ∙ on)

  -- the arcs and the tests of the instance of a number that stands for no touched instance
  module _ {Y : Type 0} (n : ℕ) (off : is_on_any touch.insts (name_at base.insts n) ≡ false)
      (off2 : is_on_any touch.insts (name_at edited.insts n) ≡ false) where
    pub arcs_at : (make : CellArc → Option ℕ → Option ℕ → Option Y) → arcs_made_at make edited n ≡ arcs_made_at make base n
    arcs_at make = at_inst (arcs_made make edited) (arcs_made make base) [] (λ inst inst2 same free. inst_arcs_left inst inst2 same free make) n off off2

    pub tests_at : (make : CellTest → Option ℕ → Option ℕ → Option Y) → tests_made_at make edited n ≡ tests_made_at make base n
    tests_at make = at_inst (tests_made make edited) (tests_made make base) [] (λ inst inst2 same free. inst_tests_left inst inst2 same free make) n off off2
