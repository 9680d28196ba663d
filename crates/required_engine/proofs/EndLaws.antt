-- A node whose pin is no endpoint has no tests, and no setup or hold time leaves its limit there: the tests of a cell in either
-- library stand at pins at which some of the late library do.

use Rattle.std.proofs.Common.{◌≡◌, ℕ, Bool, true, false, not, List, [], ◌∷◌, filter, length, Option, None, Some, refl, sym, ap, subst, ◌∙◌, inl, inr}
use Rattle.std.specs.Prelude.{Contains, nat_lt, option_map, option_and_then, ◌&&◌, if◌then◌else◌}
use Rattle.std.specs.List.{filter_map, flat_map, list_all, list_any}
use Rattle.std.specs.Option.{option_map_or}
use Rattle.std.specs.Str.{bytes_eq}
use Rattle.std.proofs.lemmas.Bool.{cases_Bool, and_parts, false≢true, true≢false}
use Rattle.std.proofs.lemmas.Option.{cond_some}
use Rattle.std.proofs.lemmas.Slice.Eq.{bytes_eq-Decides}
use Rattle.sta_units.specs.Numbers.{is_within}
use Rattle.timing_defs.specs.declared.kinds.Split.{Split}
use Rattle.timing_defs.specs.declared.kinds.Split.TheVariants.{Early, Late}
use Rattle.timing_defs.specs.declared.kinds.Kind.{Kind}
use Rattle.timing_defs.specs.declared.library.Cell.{Cell}
use Rattle.timing_defs.specs.declared.library.CellTest.{CellTest}
use Rattle.timing_defs.specs.declared.netlist.Inst.{Inst}
use Rattle.timing_defs.specs.declared.design.Design.{Design}
use Rattle.timing_defs.specs.declared.faults.Fault.{Fault}
use Rattle.timing_defs.specs.declared.faults.Fault.TheVariants.{UnknownCell}
use Rattle.timing_defs.specs.Lookup.{look}
use Rattle.timing_defs.specs.Netlist.{Pin, Node, cell_named, cell_of, inst_pins, both_nodes, is_driver, same_tran}
use Rattle.timing_defs.specs.Wires.{first_some}
use Rattle.timing_rules.specs.Clocking.{cell_tests, is_network}
use Rattle.timing_rules.specs.Rows.{slew}
use Rattle.timing_rules.specs.Tests.{Test, network_walk, is_test_of, library_tests, test_along, register_tests, port_tests, tests_at, tests_pin, is_endpoint}
use Rattle.timing_defs.specs.Kinds.{data_split, clock_split, same_kind}
use Rattle.timing_rules.specs.Range.{fine_slew, is_need_origin, is_need_origin_at}
use Rattle.timing_defs.specs.Edits.{link_inst, link_pin, link_net, first_fault, usable_cell, cells_agree, same_set, same_cell_pin, same_arc, same_test}
use Rattle.netlist_store.specs.Linked.{IsLinked}
use Rattle.netlist_store.specs.Numbering.{Stored, is_number, pin_numbered, IsNumbered}
use Rattle.node_tests.specs.NodeTests.{AreTests, tests_numbered, is_wide_numbered}
use Rattle.node_tests.proofs.TopLaws.{driver_tests}
use Rattle.pin_graph.specs.Nodes.{node_at, pin_under, tran_under}
use Rattle.timing_defs.proofs.Members.{some_is, none_in, in_cases, first_in, later_in, any_in, any_back, all_in}
use Rattle.store_pins.proofs.PinLaws.{own_back, pin_at_number}
use Rattle.pin_graph.proofs.NodeLaws.{HasNode, has_node}
use Rattle.required_engine.specs.Worked.{pin_told}

-- lists
none_kept : {X : Type 0} (p : X → Bool) (xs : List X) → ((x : X) → Contains xs x → p x ≡ true → ⊥) → filter p xs ≡ []
none_kept p [] none = refl
none_kept p (x ∷ xs) none = elim (cases_Bool (p x)) [
  | inl e ↦ absurd (none x (first_in x xs) e)
  | inr e ↦ rw e (none_kept p xs (λ y c h. none y (later_in x xs y c) h))
]

none_any : {X : Type 0} (p : X → Bool) (xs : List X) → ((x : X) → p x ≡ false) → list_any p xs ≡ false
none_any p [] h = refl
none_any p (x ∷ xs) h = let e = h x in rw e (none_any p xs h)

none_at : {X : Type 0} (f : X → Option Fault) (xs : List X) → first_some f xs ≡ None → (x : X) → Contains xs x → f x ≡ None
none_at f [] e x c = absurd (none_in x c)
none_at f (y ∷ ys) e x c = by (f y) refl e (λ h d. none_at f ys h x d)
  where
    by : (o : Option Fault) → f y ≡ o → option_map_or Some o (first_some f ys) ≡ None → (first_some f ys ≡ None → Contains ys x → f x ≡ None) → f x ≡ None
    by (Some g) k h again = absurd (cc)
    by None k h again = elim (in_cases y ys x c) [ inl same ↦ ap f (sym same) ∙ k | inr d ↦ again h d ]

no_fault : (a b : Option Fault) → option_map_or (λ (f : Fault). true) (first_fault (a ∷ b ∷ [])) false ≡ false → a ≡ None
no_fault None b e = refl
no_fault (Some f) b e = absurd (true≢false e)

-- what a value that is found on a value that may be there is found on
bound : {X Y : Type 0} (f : X → Option Y) (o : Option X) (y : Y) → option_and_then f o ≡ Some y → (x : X) × ((o ≡ Some x) × (f x ≡ Some y))
bound f None y e = absurd (cc)
bound f (Some x) y e = (x, (refl, e))

first_of_five : (a b c d e : Bool) → (a && b && c && d && e) ≡ true → a ≡ true
first_of_five true b c d e h = refl
first_of_five false b c d e h = absurd (false≢true h)

second_of_five : (a b c d e : Bool) → (a && b && c && d && e) ≡ true → b ≡ true
second_of_five true true c d e h = refl
second_of_five true false c d e h = absurd (false≢true h)
second_of_five false b c d e h = absurd (false≢true h)

and_not : (a b c : Bool) → (a && b && c && not true) ≡ false
and_not true true true = refl
and_not true true false = refl
and_not true false c = refl
and_not false b c = refl

-- an instance of a linked design
module _ (d : Design) (linked : IsLinked d) (inst : Inst) (within : Contains d.insts inst) where
  abbrev linked_by : Option Cell → Option Fault
  linked_by o = option_map_or (λ cell. first_some (link_pin inst.name cell) inst.conns) o (Some (UnknownCell inst.cell))

  usable : (cell : Cell) × (usable_cell d.early d.late inst.cell ≡ Some cell)
  usable = by (usable_cell d.early d.late inst.cell) refl
    where
      none : link_inst d.early d.late inst ≡ None
      none =
          none_at (link_inst d.early d.late) d.insts
          (no_fault (first_some (link_inst d.early d.late) d.insts) (first_some (link_net d.nets) d.rcs) linked.linked) inst within

      by : (o : Option Cell) → usable_cell d.early d.late inst.cell ≡ o → (cell : Cell) × (usable_cell d.early d.late inst.cell ≡ Some cell)
      by None e = let h : linked_by None ≡ None = sym (ap linked_by e) ∙ none in absurd (cc)
      by (Some cell) e = (cell, e)

  -- where a test of either library stands, one of the late library does
  late_test : (split : Split) (test : CellTest) → Contains (cell_tests (cell_of d split inst)) test
      → (late : CellTest) × (Contains (cell_tests (cell_of d Late inst)) late × (test.pin ≡ late.pin))
  late_test Late test c = (test, (c, refl))
  late_test Early test c =
      let u = usable in
      let a = bound (λ x. option_and_then (λ y. if cells_agree x y then Some y else None) (cell_named d.late.cells inst.cell)) (cell_named d.early.cells inst.cell) u.0 u.1 in
      let b = bound (λ y. if cells_agree a.0 y then Some y else None) (cell_named d.late.cells inst.cell) u.0 a.1.1 in
      let k = cond_some (cells_agree a.0 b.0) b.0 u.0 b.1.1 in
      let set = (and_parts (same_set same_cell_pin a.0.pins b.0.pins && same_set same_arc a.0.arcs b.0.arcs) (same_set same_test a.0.tests b.0.tests) k.0).1 in
      let each = (and_parts (list_all (λ x. list_any (same_test x) b.0.tests) a.0.tests) (list_all (λ y. list_any (same_test y) a.0.tests) b.0.tests) set).0 in
      let inside : Contains a.0.tests test = subst (λ (o : Option Cell). Contains (cell_tests o) test) a.1.0 c in
      let r = any_back (same_test test) b.0.tests (all_in (λ x. list_any (same_test x) b.0.tests) a.0.tests test each inside) in
      let same : test.pin ≡ r.item.pin =
      (bytes_eq-Decides test.pin r.item.pin).0
      (first_of_five (bytes_eq test.pin r.item.pin) (same_tran test.tran r.item.tran) (bytes_eq test.clock r.item.clock) (same_tran test.active r.item.active) (same_kind test.kind r.item.kind) r.passes) in
      (r.item, (subst (λ (o : Option Cell). Contains (cell_tests o) r.item) (sym b.1.0) r.within, same))

  -- a node of the instance at whose pin no test of the late library stands
  module _ (target : Node) (own : target.pin.owner ≡ Some inst) (untested : tests_pin d target.pin.own inst ≡ false) (kind : Kind) where
    no_library : (clock : Node) → library_tests d kind inst target clock ≡ []
    no_library clock =
        none_kept (is_test_of kind target clock) (cell_tests (cell_of d (data_split kind) inst))
        (λ test c e.
        let same : bytes_eq test.pin target.pin.own ≡ true =
        second_of_five (same_kind test.kind kind) (bytes_eq test.pin target.pin.own) (same_tran test.tran target.tran) (bytes_eq test.clock clock.pin.own) (same_tran test.active clock.tran) e in
        let late = late_test (data_split kind) test c in
        let some : tests_pin d target.pin.own inst ≡ true =
        any_in (λ (t : CellTest). bytes_eq t.pin target.pin.own) (cell_tests (cell_of d Late inst)) late.0 late.1.0
        (ap (λ p. bytes_eq p target.pin.own) (sym late.1.1) ∙ same) in
        true≢false (sym some ∙ untested))

    no_register : register_tests d kind target inst ≡ []
    no_register =
        ap (filter_map (λ clock. option_and_then (test_along d kind inst target clock) (network_walk d clock)))
        (none_kept (λ clock. nat_lt 0 (length (library_tests d kind inst target clock))) (flat_map both_nodes (inst_pins d inst))
        (λ clock c e.
        let none : nat_lt 0 (length (library_tests d kind inst target clock)) ≡ false = ap (λ (xs : List CellTest). nat_lt 0 (length xs)) (no_library clock) in
        true≢false (sym e ∙ none)))

    pub no_tests : is_driver target.pin ≡ false → tests_at d kind target ≡ []
    unfolding tests_at
    no_tests sink =
        ap (λ (b : Bool). if b then [] else option_map_or (register_tests d kind target) target.pin.owner (port_tests d kind target)) sink
        ∙ ap (λ o. option_map_or (register_tests d kind target) o (port_tests d kind target)) own
        ∙ no_register

    pub no_need : is_need_origin d kind target ≡ false
    no_need =
        ap (λ o. option_map_or (λ i. list_any (is_need_origin_at d kind target i) (flat_map both_nodes (inst_pins d i))) o false) own
        ∙ none_any (is_need_origin_at d kind target inst) (flat_map both_nodes (inst_pins d inst))
        (λ clock.
        ap (λ xs. is_network d clock.pin && fine_slew d (data_split kind) target && fine_slew d (clock_split kind) clock
        && not (list_all (λ (test : CellTest). option_map_or (λ x. option_map_or (λ y. is_within (look test.need x y)) (slew d (data_split kind) target) true)
        (slew d (clock_split kind) clock) true) xs)) (no_library clock)
        ∙ and_not (is_network d clock.pin) (fine_slew d (data_split kind) target) (fine_slew d (clock_split kind) clock))

-- a node whose pin is no endpoint
module _ (s : Stored) (num : IsNumbered s) (linked : IsLinked s.design) (k : ℕ) (kind : Kind) where
  untested : (node : Node) → node_at s k ≡ Some node → is_endpoint s.design node.pin ≡ false → AreTests s [] (tests_numbered s kind k) × (is_wide_numbered s kind k ≡ false)
  untested node at inner = elim (cases_Bool (is_driver node.pin)) [
    | inl drives ↦ driver_tests s num linked k kind node at drives
    | inr sink ↦ by sink node.pin.owner refl
  ]
    where
      it : HasNode s node k
      it = has_node s num linked k node at

      of_owner : is_driver node.pin ≡ false → (o : Option Inst) → node.pin.owner ≡ o → option_map_or (tests_pin s.design node.pin.own) o true ≡ false
      of_owner sink o own =
          sym (ap (λ b. not b && option_map_or (tests_pin s.design node.pin.own) node.pin.owner true) sink
          ∙ ap (λ w. option_map_or (tests_pin s.design node.pin.own) w true) own) ∙ inner

      by : is_driver node.pin ≡ false → (o : Option Inst) → node.pin.owner ≡ o → AreTests s [] (tests_numbered s kind k) × (is_wide_numbered s kind k ≡ false)
      by sink None own = absurd (true≢false (of_owner sink None own))
      by sink (Some inst) own =
          let mine = own_back s.design linked node.pin inst it.has.within own in
          let none = of_owner sink (Some inst) own in (
            subst (λ (ts : List Test). AreTests s [] ts)
                (sym (ap (λ o. option_map_or (tests_at s.design kind) o []) at ∙ no_tests s.design linked inst mine.inst node own none kind sink)) tt,
            ap (λ o. option_map_or (is_need_origin s.design kind) o false) at ∙ no_need s.design linked inst mine.inst node own none kind,
          )

  -- by the number of the pin
  pub untested_pin : (pin : ℕ) → pin_told s k ≡ Some pin → option_map (is_endpoint s.design) (pin_numbered s pin) ≡ Some false
      → AreTests s [] (tests_numbered s kind k) × (is_wide_numbered s kind k ≡ false)
  untested_pin pin told inner =
      let c = cond_some (is_number s.pins (pin_under k)) (pin_under k) pin told in
      let p = pin_at_number s num linked (pin_under k) c.0 in
      untested (record { pin = p.0; tran = tran_under k }) (ap (option_map (λ (q : Pin). record { pin = q; tran = tran_under k })) p.1.pin)
      (some_is (sym (ap (option_map (is_endpoint s.design)) (ap (pin_numbered s) (sym c.1) ∙ p.1.pin)) ∙ inner))
