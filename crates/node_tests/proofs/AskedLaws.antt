-- The test of a register's data node against a clock pin's node, as it is found by numbers.

use Rattle.std.proofs.Common.{◌≡◌, ℕ, ℤ, Bool, true, false, not, List, [], ◌∷◌, filter, Option, None, Some, refl, sym, ap, subst, ◌∙◌}
use Rattle.std.specs.Prelude.{Contains, is_some, option_map, option_and_then, ◌&&◌}
use Rattle.std.specs.List.{list_all, list_any}
use Rattle.std.specs.Option.{option_map_or}
use Rattle.std.specs.Str.{bytes_eq}
use Rattle.std.proofs.lemmas.Bool.{or_parts}
use Rattle.sta_units.specs.Numbers.{is_within}
use Rattle.timing_defs.specs.declared.kinds.Split.{Split}
use Rattle.timing_defs.specs.declared.kinds.Kind.{Kind}
use Rattle.timing_defs.specs.declared.library.Cell.{Cell}
use Rattle.timing_defs.specs.declared.library.CellTest.{CellTest}
use Rattle.timing_defs.specs.declared.design.Design.{Design}
use Rattle.timing_defs.specs.declared.rows.NodeRow.{NodeRow}
use Rattle.timing_defs.specs.Lookup.{look}
use Rattle.timing_defs.specs.Netlist.{Node, pins, name_of, same_tran, cell_of}
use Rattle.timing_rules.specs.Clocking.{is_network, cell_tests}
use Rattle.timing_rules.specs.Rows.{slew, row}
use Rattle.timing_defs.specs.RowTimes.{slew_in}
use Rattle.timing_rules.specs.Tests.{Test, is_test_of, library_tests, need_at, network_walk, test_along}
use Rattle.timing_defs.specs.Kinds.{data_split, clock_split, same_kind}
use Rattle.timing_rules.specs.Range.{within_some, need_within, fine_slew}
use Rattle.netlist_store.specs.Numbering.{name_at, is_number, inst_numbered, IsNumbered}
use Rattle.netlist_store.specs.Linked.{IsLinked}
use Rattle.pin_graph.specs.Nodes.{pin_under}
use Rattle.pin_graph.specs.Graphs.{IsGraph}
use Rattle.timing_defs.proofs.Members.{some_is}
use Rattle.store_pins.proofs.PinLaws.{HasNumber, IsInst, pin_of_number, inst_of_number}
use Rattle.pin_graph.proofs.NodeLaws.{HasNode, has_node}
use Rattle.node_tests.specs.declared.needs.TestEnds.{TestEnds}
use Rattle.node_tests.specs.declared.node_test.NodeTest.{NodeTest}
use Rattle.node_tests.specs.declared.registers.Asked.{Asked}
use Rattle.node_tests.specs.Needs.{is_test_between, is_need_in, greatest_need, need_over, is_need_wide}
use Rattle.node_tests.specs.NodeTests.{MayBeTest, name_numbered}
use Rattle.node_tests.specs.Registers.{captured, test_at, test_with, is_wide_with, IsAsked, asked_test, is_asked_wide}
use Rattle.node_tests.proofs.ClimbLaws.{node_pin}
use Rattle.node_tests.proofs.NodeFacts.{slews_fine}
use Rattle.node_tests.proofs.RegisterLaws.{need_told, no_clock_slew, no_data_slew, no_test, test_is, origin_is}

all_true : {X : Type 0} (xs : List X) → list_all (λ x. true) xs ≡ true
all_true [] = refl
all_true (x ∷ xs) = all_true xs

no_walk : {X : Type 0} (f : List Node → Option X) (o : Option (List Node)) → o ≡ None → option_and_then f o ≡ None
no_walk f o e = ap (option_and_then f) e

none_left : {X : Type 0} (p : X → Bool) (xs : List X) → list_any p xs ≡ false → filter p xs ≡ []
none_left p [] e = refl
none_left p (x ∷ xs) e = let parts = or_parts (p x) (list_any p xs) e in let f = parts.0 in rw f (none_left p xs parts.1)

-- the time that a test needs is within its limit, at slews that may be there
abbrev test_in : Option ℤ → Option ℤ → CellTest → Bool
test_in x y test = option_map_or (λ v. option_map_or (λ w. is_within (look test.need v w)) y true) x true

-- tests of one list, by two descriptions of their ends
alike : (d : Design) (kind : Kind) (target c : Node) (ends : TestEnds) (tests : List CellTest) → ends.kind ≡ kind → ends.pin.now ≡ target.pin.own → ends.tran ≡ target.tran
    → ends.clock.now ≡ c.pin.own → ends.active ≡ c.tran → filter (is_test_of kind target c) tests ≡ filter (is_test_between ends) tests
alike d kind target c ends tests k p t cl a = λ i.
    filter (λ (test : CellTest). same_kind test.kind (sym k i) && bytes_eq test.pin (sym p i) && same_tran test.tran (sym t i)
    && bytes_eq test.clock (sym cl i) && same_tran test.active (sym a i)) tests

module _ (asked : Asked) (a : IsAsked asked) (num : IsNumbered asked.store.now) (linked : IsLinked asked.store.now.design) (is : IsGraph asked.graph.now) where
  target_has : HasNode asked.store.now a.target asked.node
  target_has = has_node asked.store.now num linked asked.node a.target a.node

  inst_is : IsInst asked.store.now a.register asked.inst
  inst_is = inst_of_number asked.store.now num linked asked.inst a.register a.inst

  pub inst_there : is_number asked.store.now.insts asked.inst ≡ true
  inst_there = ap is_some inst_is.name

  pin_there : HasNumber asked.store.now a.target.pin asked.pin
  pin_there = subst (λ (n : ℕ). HasNumber asked.store.now a.target.pin n) (sym a.pin)
      (pin_of_number asked.store.now num linked (pin_under asked.node) a.target.pin (node_pin asked.store.now asked.node a.target a.node).0)

  pub pin_number : is_number asked.store.now.pins asked.pin ≡ true
  pin_number = ap is_some pin_there.name

  pub name_is : name_at asked.store.now.pins asked.pin ≡ Some (name_numbered asked.store.now asked.node)
  name_is = pin_there.name ∙ ap Some (sym (ap (λ o. option_map_or (λ (n : Node). name_of n.pin) o []) a.node))

  facts : (split : Split) (n : Node) → Contains (pins asked.store.now.design) n.pin
      → (fine_slew asked.store.now.design split n ≡ true) × (within_some (slew asked.store.now.design split n) ≡ true)
  facts = slews_fine asked.graph.now asked.store.now a.graph num linked is a.fine

  pub target_slew : (split : Split) → within_some (slew_in split asked.row.now) ≡ true
  target_slew split = ap (λ r. within_some (slew_in split r)) a.row ∙ (facts split a.target target_has.has.within).1

  module _ (o : Option Node) (c : Node) (at : o ≡ Some c) (there : Contains (pins asked.store.now.design) c.pin) where
    told : asked_test asked o ≡ test_at asked.store.now.design asked.kind a.register a.target c
    told =
        ap (λ t. test_with asked.store.now.design asked.kind t (inst_numbered asked.store.now asked.inst) o) a.node
        ∙ ap (λ i. test_with asked.store.now.design asked.kind (Some a.target) i o) a.inst
        ∙ ap (test_with asked.store.now.design asked.kind (Some a.target) (Some a.register)) at

    wide_told : is_asked_wide asked o ≡ (is_network asked.store.now.design c.pin && not (need_within asked.store.now.design asked.kind a.target c a.register))
    wide_told =
        ap (λ t. is_wide_with asked.store.now.design asked.kind t (inst_numbered asked.store.now asked.inst) o) a.node
        ∙ ap (λ i. is_wide_with asked.store.now.design asked.kind (Some a.target) i o) a.inst
        ∙ ap (is_wide_with asked.store.now.design asked.kind (Some a.target) (Some a.register)) at
        ∙ origin_is asked.store.now.design asked.kind a.register a.target c
        (facts (data_split asked.kind) a.target target_has.has.within).0 (facts (clock_split asked.kind) c there).0

    pub not_network : is_network asked.store.now.design c.pin ≡ false → network_walk asked.store.now.design c ≡ None
        → MayBeTest asked.store.now None (asked_test asked o) × (is_asked_wide asked o ≡ false)
    not_network off none = (
      subst (λ (t : Option Test). MayBeTest asked.store.now None t)
          (sym (told ∙ no_walk (test_along asked.store.now.design asked.kind a.register a.target c) (network_walk asked.store.now.design c) none)) tt,
      wide_told ∙ ap (λ b. b && not (need_within asked.store.now.design asked.kind a.target c a.register)) off,
    )

    pub untested : library_tests asked.store.now.design asked.kind a.register a.target c ≡ []
        → MayBeTest asked.store.now None (asked_test asked o) × (is_asked_wide asked o ≡ false)
    untested none = (
      subst (λ (t : Option Test). MayBeTest asked.store.now None t)
          (sym (told ∙ test_is asked.store.now.design asked.kind a.register a.target c
          ∙ ap (option_and_then (captured asked.store.now.design c)) (no_test asked.store.now.design asked.kind a.register a.target c none))) tt,
      wide_told ∙ ap (λ xs. is_network asked.store.now.design c.pin && not (list_all (λ test.
          option_map_or (λ x. option_map_or (λ y. is_within (look test.need x y)) (slew asked.store.now.design (data_split asked.kind) a.target) true)
          (slew asked.store.now.design (clock_split asked.kind) c) true) xs)) none
          ∙ never (is_network asked.store.now.design c.pin),
    )
      where
        never : (b : Bool) → (b && not true) ≡ false
        never true = refl
        never false = refl

    module _ (ends : TestEnds) (kind : ends.kind ≡ asked.kind) (pin : ends.pin.now ≡ asked.own.now) (tran : ends.tran ≡ asked.tran)
        (clock : ends.clock.now ≡ c.pin.own) (active : ends.active ≡ c.tran) (tests : List CellTest)
        (are : option_map (λ (cell : Cell). cell.tests) (option_and_then (cell_of asked.store.now.design (data_split asked.kind)) (inst_numbered asked.store.now asked.inst)) ≡ Some tests) where
      its_tests : cell_tests (cell_of asked.store.now.design (data_split asked.kind) a.register) ≡ tests
      its_tests = by (cell_of asked.store.now.design (data_split asked.kind) a.register) refl
        where
          there_is : option_map (λ (cell : Cell). cell.tests) (cell_of asked.store.now.design (data_split asked.kind) a.register) ≡ Some tests
          there_is = sym (ap (λ i. option_map (λ (cell : Cell). cell.tests) (option_and_then (cell_of asked.store.now.design (data_split asked.kind)) i)) a.inst) ∙ are

          by : (o : Option Cell) → cell_of asked.store.now.design (data_split asked.kind) a.register ≡ o → cell_tests (cell_of asked.store.now.design (data_split asked.kind) a.register) ≡ tests
          by None e = let f : None ≡ Some tests = sym (ap (option_map (λ (cell : Cell). cell.tests)) e) ∙ there_is in absurd (cc)
          by (Some cell) e = ap cell_tests e ∙ some_is (sym (ap (option_map (λ (cell : Cell). cell.tests)) e) ∙ there_is)

      library : library_tests asked.store.now.design asked.kind a.register a.target c ≡ filter (is_test_between ends) tests
      library =
          ap (filter (is_test_of asked.kind a.target c)) its_tests
          ∙ alike asked.store.now.design asked.kind a.target c ends tests kind (pin ∙ a.own) (tran ∙ a.tran) clock active

      pub none_stands : list_any (is_test_between ends) tests ≡ false → MayBeTest asked.store.now None (asked_test asked o) × (is_asked_wide asked o ≡ false)
      none_stands e = untested (library ∙ none_left (is_test_between ends) tests e)

      module _ (clock_row : NodeRow) (is_row : clock_row ≡ row asked.store.now.design c) where
        need_is : need_over ends tests (slew_in (clock_split ends.kind) clock_row) (slew_in (data_split ends.kind) asked.row.now)
            ≡ need_at asked.store.now.design asked.kind a.register a.target c
        need_is =
            (λ i. need_over ends tests (slew_in (clock_split (kind i)) (is_row i)) (slew_in (data_split (kind i)) (a.row i)))
            ∙ by (slew asked.store.now.design (clock_split asked.kind) c) (slew asked.store.now.design (data_split asked.kind) a.target) refl refl
          where
            by : (x y : Option ℤ) → slew asked.store.now.design (clock_split asked.kind) c ≡ x → slew asked.store.now.design (data_split asked.kind) a.target ≡ y
                → need_over ends tests (slew asked.store.now.design (clock_split asked.kind) c) (slew asked.store.now.design (data_split asked.kind) a.target)
                ≡ need_at asked.store.now.design asked.kind a.register a.target c
            by None y e f =
                ap (λ v. need_over ends tests v (slew asked.store.now.design (data_split asked.kind) a.target)) e
                ∙ sym (no_clock_slew asked.store.now.design asked.kind a.register a.target c e)
            by (Some x) None e f =
                ap (λ v. need_over ends tests v (slew asked.store.now.design (data_split asked.kind) a.target)) e ∙ ap (need_over ends tests (Some x)) f
                ∙ sym (no_data_slew asked.store.now.design asked.kind a.register a.target c f)
            by (Some x) (Some y) e f =
                ap (λ v. need_over ends tests v (slew asked.store.now.design (data_split asked.kind) a.target)) e ∙ ap (need_over ends tests (Some x)) f
                ∙ sym (need_told asked.store.now.design asked.kind a.register a.target c x y e f ∙ ap (greatest_need x y None) library)

        wide_is : is_need_wide ends tests (slew_in (clock_split ends.kind) clock_row) (slew_in (data_split ends.kind) asked.row.now)
            ≡ not (need_within asked.store.now.design asked.kind a.target c a.register)
        wide_is =
            (λ i. is_need_wide ends tests (slew_in (clock_split (kind i)) (is_row i)) (slew_in (data_split (kind i)) (a.row i)))
            ∙ by (slew asked.store.now.design (clock_split asked.kind) c) (slew asked.store.now.design (data_split asked.kind) a.target) refl refl
          where
            by : (x y : Option ℤ) → slew asked.store.now.design (clock_split asked.kind) c ≡ x → slew asked.store.now.design (data_split asked.kind) a.target ≡ y
                → is_need_wide ends tests (slew asked.store.now.design (clock_split asked.kind) c) (slew asked.store.now.design (data_split asked.kind) a.target)
                ≡ not (need_within asked.store.now.design asked.kind a.target c a.register)
            by x y e f =
                (λ i. is_need_wide ends tests (e i) (f i)) ∙ each x y
                ∙ sym (λ i. not (list_all (test_in (e i) (f i)) (library_tests asked.store.now.design asked.kind a.register a.target c)))
              where
                each : (x y : Option ℤ) → is_need_wide ends tests x y ≡ not (list_all (test_in x y) (library_tests asked.store.now.design asked.kind a.register a.target c))
                each None y = sym (ap not (all_true (library_tests asked.store.now.design asked.kind a.register a.target c)))
                each (Some v) None = sym (ap not (all_true (library_tests asked.store.now.design asked.kind a.register a.target c)))
                each (Some v) (Some w) = ap (λ xs. not (list_all (is_need_in v w) xs)) (sym library)

        pub calm : is_need_wide ends tests (slew_in (clock_split ends.kind) clock_row) (slew_in (data_split ends.kind) asked.row.now) ≡ false → is_asked_wide asked o ≡ false
        calm e = wide_told ∙ ap (λ b. is_network asked.store.now.design c.pin && b) (sym wide_is ∙ e) ∙ never (is_network asked.store.now.design c.pin)
          where
            never : (b : Bool) → (b && false) ≡ false
            never true = refl
            never false = refl

        pub large : is_network asked.store.now.design c.pin ≡ true
            → is_need_wide ends tests (slew_in (clock_split ends.kind) clock_row) (slew_in (data_split ends.kind) asked.row.now) ≡ true → is_asked_wide asked o ≡ true
        large on e = wide_told ∙ ap (λ b. is_network asked.store.now.design c.pin && b) (sym wide_is ∙ e) ∙ ap (λ b. b && true) on

        module _ (need : Option ℤ) (found : need ≡ need_over ends tests (slew_in (clock_split ends.kind) clock_row) (slew_in (data_split ends.kind) asked.row.now)) where
          with_need : asked_test asked o ≡ option_and_then (captured asked.store.now.design c) need
          with_need = told ∙ test_is asked.store.now.design asked.kind a.register a.target c ∙ ap (option_and_then (captured asked.store.now.design c)) (sym (found ∙ need_is))

          pub no_need : need ≡ None → MayBeTest asked.store.now None (asked_test asked o)
          no_need e = subst (λ (t : Option Test). MayBeTest asked.store.now None t) (sym (with_need ∙ ap (option_and_then (captured asked.store.now.design c)) e)) tt

          pub some_need : (n : ℤ) (t : Option NodeTest) → need ≡ Some n → MayBeTest asked.store.now t (option_and_then (λ node. captured asked.store.now.design node n) o)
              → MayBeTest asked.store.now t (asked_test asked o)
          some_need n t e h =
              subst (λ (x : Option Test). MayBeTest asked.store.now t x)
              (ap (option_and_then (λ node. captured asked.store.now.design node n)) at ∙ sym (with_need ∙ ap (option_and_then (captured asked.store.now.design c)) e)) h
