-- The tests of a node: of one that drives a net, of an output port, of a register's data pin.

use Rattle.std.proofs.Common.{◌≡◌, ℕ, Bool, true, false, not, List, [], ◌∷◌, map, filter, Option, None, Some, refl, sym, ap, subst, ◌∙◌, inl, inr}
use Rattle.std.specs.Prelude.{Contains, option_map, option_and_then, ◌&&◌, ◌||◌, if◌then◌else◌}
use Rattle.std.specs.List.{filter_map, flat_map, list_any, list_all}
use Rattle.std.specs.Option.{option_map_or}
use Rattle.std.proofs.lemmas.Bool.{cases_Bool, true≢false}
use Rattle.timing_defs.specs.declared.kinds.Split.TheVariants.{Early, Late}
use Rattle.timing_defs.specs.declared.kinds.Tran.{Tran}
use Rattle.timing_defs.specs.declared.kinds.Tran.TheVariants.{Rise, Fall}
use Rattle.timing_defs.specs.declared.kinds.Kind.{Kind}
use Rattle.timing_defs.specs.declared.kinds.Dir.TheVariants.{Output}
use Rattle.timing_defs.specs.declared.library.Cell.{Cell}
use Rattle.timing_defs.specs.declared.library.CellPin.{CellPin}
use Rattle.timing_defs.specs.declared.constraints.PortDelay.{PortDelay}
use Rattle.timing_defs.specs.declared.netlist.Inst.{Inst}
use Rattle.timing_defs.specs.declared.design.Design.{Design}
use Rattle.timing_defs.specs.declared.faults.Fault.{Fault}
use Rattle.timing_defs.specs.declared.faults.Fault.TheVariants.{UnknownCell}
use Rattle.timing_defs.specs.Lookup.{look}
use Rattle.sta_units.specs.Numbers.{is_within}
use Rattle.timing_defs.specs.Netlist.{Pin, Node, cell_of, cell_pin, cell_pins, inst_pins, both_nodes, is_driver, drives_as, same_dir, are_distinct}
use Rattle.timing_defs.specs.Wires.{first_some}
use Rattle.timing_rules.specs.Clocking.{is_network}
use Rattle.timing_rules.specs.Rows.{slew}
use Rattle.timing_rules.specs.Tests.{Test, tests_at, register_tests, port_tests, output_test}
use Rattle.timing_defs.specs.Kinds.{data_split, clock_split}
use Rattle.timing_rules.specs.Range.{fine_slew, is_need_origin, is_need_origin_at}
use Rattle.timing_defs.specs.Edits.{link_inst, link_pin, link_net, first_fault, cells_agree}
use Rattle.timing_defs.specs.Documents.{is_cell_test}
use Rattle.netlist_store.specs.Numbering.{Stored, is_number, pin_numbered, IsNumbered}
use Rattle.netlist_store.specs.Linked.{IsLinked}
use Rattle.pin_graph.specs.Nodes.{node_at, pin_under, tran_under}
use Rattle.timing_defs.proofs.Members.{none_in, in_cases}
use Rattle.store_pins.proofs.PinNames.{pinned, tests_good}
use Rattle.store_pins.proofs.PinLaws.{own_back}
use Rattle.pin_graph.proofs.NodeLaws.{HasNode, has_node}
use Rattle.node_rows.specs.Evaluation.{IsPlaced}
use Rattle.node_tests.specs.declared.node_test.NodeTest.{NodeTest}
use Rattle.node_tests.specs.declared.registers.Asked.{Asked}
use Rattle.node_tests.specs.NodeTests.{AreTests, tests_numbered, is_wide_numbered, name_numbered, IsTestFault}
use Rattle.node_tests.specs.Outputs.{is_delay_of, delay_test}
use Rattle.node_tests.specs.Registers.{IsAsked, test_with, is_wide_with, late_pins, is_pin_wide, pin_tests_of, tests_by, is_wide_by}
use Rattle.node_tests.proofs.ClimbLaws.{no_pin}
use Rattle.node_tests.proofs.RegisterLaws.{register_is, wide_is}
use Rattle.node_tests.proofs.SinkTests.{none_at_output}

-- the cells of an instance of a linked design are there, and agree
pub record HasCells (d : Design) (inst : Inst) : Type 0 where
  pub early : Cell
  pub early_is : cell_of d Early inst ≡ Some early
  pub late : Cell
  pub late_is : cell_of d Late inst ≡ Some late
  pub agree : cells_agree early late ≡ true

no_fault : (a b : Option Fault) → option_map_or (λ (f : Fault). true) (first_fault (a ∷ b ∷ [])) false ≡ false → a ≡ None
no_fault None b e = refl
no_fault (Some f) b e = absurd (true≢false e)

none_at : {X : Type 0} (f : X → Option Fault) (xs : List X) → first_some f xs ≡ None → (x : X) → Contains xs x → f x ≡ None
none_at f [] e x c = absurd (none_in x c)
none_at f (y ∷ ys) e x c = by (f y) refl e (λ h d. none_at f ys h x d)
  where
    by : (o : Option Fault) → f y ≡ o → option_map_or Some o (first_some f ys) ≡ None → (first_some f ys ≡ None → Contains ys x → f x ≡ None) → f x ≡ None
    by (Some g) k h again = absurd (cc)
    by None k h again = elim (in_cases y ys x c) [ inl same ↦ ap f (sym same) ∙ k | inr d ↦ again h d ]

abbrev linked_by : Inst → Option Cell → Option Fault
linked_by inst o = option_map_or (λ cell. first_some (link_pin inst.name cell) inst.conns) o (Some (UnknownCell inst.cell))

has_cells : (d : Design) → IsLinked d → (inst : Inst) → Contains d.insts inst → HasCells d inst
has_cells d linked inst c = by (cell_of d Early inst) refl (cell_of d Late inst) refl
  where
    none : link_inst d.early d.late inst ≡ None
    none =
        none_at (link_inst d.early d.late) d.insts
        (no_fault (first_some (link_inst d.early d.late) d.insts) (first_some (link_net d.nets) d.rcs) linked.linked) inst c

    by : (a : Option Cell) → cell_of d Early inst ≡ a → (b : Option Cell) → cell_of d Late inst ≡ b → HasCells d inst
    by None e b f =
        let h : linked_by inst None ≡ None =
        sym (ap (λ o. linked_by inst (option_and_then (λ x. option_and_then (λ y. if cells_agree x y then Some y else None) (cell_of d Late inst)) o)) e) ∙ none in
        absurd (cc)
    by (Some x) e None f =
        let h : linked_by inst None ≡ None =
        sym (ap (λ o. linked_by inst (option_and_then (λ x. option_and_then (λ y. if cells_agree x y then Some y else None) (cell_of d Late inst)) o)) e
        ∙ ap (λ o. linked_by inst (option_and_then (λ y. if cells_agree x y then Some y else None) o)) f) ∙ none in
        absurd (cc)
    by (Some x) e (Some y) f = elim (cases_Bool (cells_agree x y)) [
      | inl g ↦ record { early = x; early_is = e; late = y; late_is = f; agree = g }
      | inr g ↦
          let h : linked_by inst None ≡ None =
          sym (ap (λ o. linked_by inst (option_and_then (λ x. option_and_then (λ y. if cells_agree x y then Some y else None) (cell_of d Late inst)) o)) e
          ∙ ap (λ o. linked_by inst (option_and_then (λ y. if cells_agree x y then Some y else None) o)) f
          ∙ ap (λ (b : Bool). linked_by inst (if b then Some y else None)) g) ∙ none in
          absurd (cc)
    ]

none_any : {X : Type 0} (p : X → Bool) (xs : List X) → ((x : X) → p x ≡ false) → list_any p xs ≡ false
none_any p [] h = refl
none_any p (x ∷ xs) h = let e = h x in rw e (none_any p xs h)

and_not : (a b c : Bool) → (a && b && c && not true) ≡ false
and_not true true true = refl
and_not true true false = refl
and_not true false c = refl
and_not false b c = refl

module _ (s : Stored) (num : IsNumbered s) (linked : IsLinked s.design) (node : ℕ) (kind : Kind) where
  nothing : (tests : List Test) → tests ≡ [] → AreTests s [] tests
  nothing tests e = subst (λ (ts : List Test). AreTests s [] ts) (sym e) tt

  pub gap_tests : is_number s.pins (pin_under node) ≡ false → AreTests s [] (tests_numbered s kind node) × (is_wide_numbered s kind node ≡ false)
  gap_tests e =
      let none : node_at s node ≡ None = ap (option_map (λ pin. record { pin = pin; tran = tran_under node })) (no_pin s (pin_under node) e) in (
        nothing (tests_numbered s kind node) (ap (λ o. option_map_or (tests_at s.design kind) o []) none),
        ap (λ o. option_map_or (is_need_origin s.design kind) o false) none,
      )

  -- the node of a number that stands for a pin
  pub target_of : (pin : Pin) → pin_numbered s (pin_under node) ≡ Some pin → node_at s node ≡ Some (record { pin = pin; tran = tran_under node })
  target_of pin e = ap (option_map (λ p. record { pin = p; tran = tran_under node })) e

  module _ (target : Node) (at : node_at s node ≡ Some target) where
    tests_are : tests_numbered s kind node ≡ tests_at s.design kind target
    tests_are = ap (λ o. option_map_or (tests_at s.design kind) o []) at

    wide_are : is_wide_numbered s kind node ≡ is_need_origin s.design kind target
    wide_are = ap (λ o. option_map_or (is_need_origin s.design kind) o false) at

    its : HasNode s target node
    its = has_node s num linked node target at

    none_there : is_driver target.pin ≡ true → tests_at s.design kind target ≡ []
    unfolding tests_at
    none_there drives = ap (λ (b : Bool). if b then [] else option_map_or (register_tests s.design kind target) target.pin.owner (port_tests s.design kind target)) drives

    pub driver_tests : is_driver target.pin ≡ true → AreTests s [] (tests_numbered s kind node) × (is_wide_numbered s kind node ≡ false)
    driver_tests drives = (nothing (tests_numbered s kind node) (tests_are ∙ none_there drives), wide_are ∙ by target.pin.owner refl)
      where
        by : (o : Option Inst) → target.pin.owner ≡ o → is_need_origin s.design kind target ≡ false
        by None own = ap (λ o. option_map_or (λ inst. list_any (is_need_origin_at s.design kind target inst) (flat_map both_nodes (inst_pins s.design inst))) o false) own
        by (Some inst) own =
            let mine = own_back s.design linked target.pin inst its.has.within own in
            let cells = has_cells s.design linked inst mine.inst in
            let name : target.pin.own ≡ mine.pin.name = ap (λ (p : Pin). p.own) mine.same in
            let out : same_dir mine.pin.dir Output ≡ true =
            sym (ap (λ o. drives_as o target.pin.dir) own ∙ ap (λ (p : Pin). same_dir p.dir Output) mine.same) ∙ drives in
            let inside : Contains cells.late.pins mine.pin = subst (λ (o : Option Cell). Contains (cell_pins o) mine.pin) cells.late_is mine.within in
            let apart : are_distinct (map (λ (p : CellPin). p.name) cells.late.pins) ≡ true =
            sym (ap (λ o. are_distinct (map (λ (p : CellPin). p.name) (cell_pins o))) cells.late_is) ∙ (pinned s.design.late linked.late inst).apart in
            let good : list_all (is_cell_test cells.late) cells.late.tests ≡ true = tests_good s.design.late linked.late cells.late inst.cell cells.late_is in
            ap (λ o. option_map_or (λ inst. list_any (is_need_origin_at s.design kind target inst) (flat_map both_nodes (inst_pins s.design inst))) o false) own
            ∙ none_any (is_need_origin_at s.design kind target inst) (flat_map both_nodes (inst_pins s.design inst))
            (λ clock.
            let none = none_at_output s.design inst cells.early cells.late cells.early_is cells.late_is cells.agree apart good kind target clock mine.pin inside name out in
            ap (λ xs. is_network s.design clock.pin && fine_slew s.design (data_split kind) target && fine_slew s.design (clock_split kind) clock
            && not (list_all (λ test. option_map_or (λ x. option_map_or (λ y. is_within (look test.need x y)) (slew s.design (data_split kind) target) true)
            (slew s.design (clock_split kind) clock) true) xs)) none
            ∙ and_not (is_network s.design clock.pin) (fine_slew s.design (data_split kind) target) (fine_slew s.design (clock_split kind) clock))

    -- a pin that drives no net
    module _ (sink : is_driver target.pin ≡ false) where
      its_tests : tests_numbered s kind node ≡ option_map_or (register_tests s.design kind target) target.pin.owner (port_tests s.design kind target)
      unfolding tests_at
      its_tests =
          tests_are
          ∙ ap (λ (b : Bool). if b then [] else option_map_or (register_tests s.design kind target) target.pin.owner (port_tests s.design kind target)) sink

      pub port_tests_are : target.pin.owner ≡ None → (port : List ℕ) (tran : Tran) (delays : List PortDelay) (tests : List NodeTest) → port ≡ target.pin.own → tran ≡ target.tran
          → delays ≡ s.design.constraints.outputs → tests ≡ map (delay_test kind) (filter (is_delay_of port (data_split kind) tran) delays)
          → AreTests s tests (tests_numbered s kind node)
      port_tests_are own port tran delays tests p t same e =
          subst (λ (ts : List Test). AreTests s tests ts) (sym (its_tests ∙ ap (λ o. option_map_or (register_tests s.design kind target) o (port_tests s.design kind target)) own))
          (subst (λ (xs : List NodeTest). AreTests s xs (port_tests s.design kind target))
          (sym (e ∙ (λ i. map (delay_test kind) (filter (is_delay_of (p i) (data_split kind) (t i)) (same i)))))
          (each (filter (is_delay_of target.pin.own (data_split kind) target.tran) s.design.constraints.outputs)))
        where
          each : (ds : List PortDelay) → AreTests s (map (delay_test kind) ds) (map (output_test kind) ds)
          each [] = tt
          each (x ∷ xs) = (record { clock = tt; need = refl; capture = refl; early = refl; late = refl }, each xs)

      pub port_fine : target.pin.owner ≡ None → is_wide_numbered s kind node ≡ false
      port_fine own =
          wide_are ∙ ap (λ o. option_map_or (λ inst. list_any (is_need_origin_at s.design kind target inst) (flat_map both_nodes (inst_pins s.design inst))) o false) own

-- the tests of a register's data node
or_end : (a b : Bool) → (a || b) ≡ (a || (b || false))
or_end true b = refl
or_end false true = refl
or_end false false = refl

agree : {X : Type 0} (p q : X → Bool) (xs : List X) → ((x : X) → p x ≡ q x) → list_any p xs ≡ list_any q xs
agree p q [] h = refl
agree p q (x ∷ xs) h = λ i. h x i || agree p q xs h i

module _ (asked : Asked) (a : IsAsked asked) (num : IsNumbered asked.store.now) (linked : IsLinked asked.store.now.design) where
  tests_by_pins : flat_map (pin_tests_of asked) (late_pins asked.store.now asked.inst)
      ≡ flat_map (tests_by asked.store.now.design asked.kind a.register a.target) (cell_pins (cell_of asked.store.now.design Late a.register))
  tests_by_pins = λ i.
      flat_map (λ pin. filter_map (λ tran.
      test_with asked.store.now.design asked.kind (a.node i) (a.inst i) (option_map (λ (j : Inst). record { pin = cell_pin j pin; tran = tran }) (a.inst i)))
      (Rise ∷ Fall ∷ []))
      (cell_pins (option_and_then (cell_of asked.store.now.design Late) (a.inst i)))

  wide_by_pins : list_any (is_pin_wide asked) (late_pins asked.store.now asked.inst)
      ≡ list_any (λ pin. is_need_origin_at asked.store.now.design asked.kind a.target a.register (record { pin = cell_pin a.register pin; tran = Rise })
      || is_need_origin_at asked.store.now.design asked.kind a.target a.register (record { pin = cell_pin a.register pin; tran = Fall }))
      (cell_pins (cell_of asked.store.now.design Late a.register))
  wide_by_pins = λ i.
      list_any (λ pin. is_wide_with asked.store.now.design asked.kind (a.node i) (a.inst i) (option_map (λ (j : Inst). record { pin = cell_pin j pin; tran = Rise }) (a.inst i))
      || is_wide_with asked.store.now.design asked.kind (a.node i) (a.inst i) (option_map (λ (j : Inst). record { pin = cell_pin j pin; tran = Fall }) (a.inst i)))
      (cell_pins (option_and_then (cell_of asked.store.now.design Late) (a.inst i)))

  wide_same : is_wide_numbered asked.store.now asked.kind asked.node ≡ list_any (is_pin_wide asked) (late_pins asked.store.now asked.inst)
  wide_same =
      wide_are asked.store.now num linked asked.node asked.kind a.target a.node
      ∙ ap (λ o. option_map_or (λ inst. list_any (is_need_origin_at asked.store.now.design asked.kind a.target inst) (flat_map both_nodes (inst_pins asked.store.now.design inst))) o false) a.owner
      ∙ wide_is asked.store.now.design asked.kind a.register a.target
      ∙ sym (wide_by_pins ∙ agree
      (λ pin. is_need_origin_at asked.store.now.design asked.kind a.target a.register (record { pin = cell_pin a.register pin; tran = Rise })
      || is_need_origin_at asked.store.now.design asked.kind a.target a.register (record { pin = cell_pin a.register pin; tran = Fall }))
      (is_wide_by asked.store.now.design asked.kind a.register a.target) (cell_pins (cell_of asked.store.now.design Late a.register))
      (λ pin. or_end (is_need_origin_at asked.store.now.design asked.kind a.target a.register (record { pin = cell_pin a.register pin; tran = Rise }))
      (is_need_origin_at asked.store.now.design asked.kind a.target a.register (record { pin = cell_pin a.register pin; tran = Fall }))))

  pub registers_are : is_driver a.target.pin ≡ false → (tests : List NodeTest) → AreTests asked.store.now tests (flat_map (pin_tests_of asked) (late_pins asked.store.now asked.inst))
      → AreTests asked.store.now tests (tests_numbered asked.store.now asked.kind asked.node)
  registers_are sink tests =
      subst (λ (ts : List Test). AreTests asked.store.now tests ts)
      (tests_by_pins ∙ sym (its_tests asked.store.now num linked asked.node asked.kind a.target a.node sink
      ∙ ap (λ o. option_map_or (register_tests asked.store.now.design asked.kind a.target) o (port_tests asked.store.now.design asked.kind a.target)) a.owner
      ∙ register_is asked.store.now.design asked.kind a.register a.target))

  pub registers_fine : list_any (is_pin_wide asked) (late_pins asked.store.now asked.inst) ≡ false → is_wide_numbered asked.store.now asked.kind asked.node ≡ false
  registers_fine e = wide_same ∙ e

  pub registers_fault : (fault : Fault) → IsPlaced (list_any (is_pin_wide asked) (late_pins asked.store.now asked.inst)) (name_numbered asked.store.now asked.node) fault
      → IsTestFault asked.store.now asked.kind asked.node fault
  registers_fault fault = subst (λ (w : Bool). IsPlaced w (name_numbered asked.store.now asked.node) fault) (sym wide_same)
