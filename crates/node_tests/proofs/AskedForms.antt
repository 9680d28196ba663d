-- The test against a clock pin's node, as the code has it.

use Rattle.std.proofs.Common.{◌≡◌, ℕ, ◌<◌, ℤ, true, false, List, [], ◌∷◌, Option, None, Some, refl, sym, ap, subst, ◌∙◌, arith}
use Rattle.std.specs.Prelude.{Contains, option_map, option_and_then, slice_get, ◌&&◌}
use Rattle.std.specs.List.{list_all, list_any}
use Rattle.std.specs.Option.{option_map_or}
use Rattle.std.proofs.lemmas.Bool.{and_parts, and_from}
use Rattle.timing_defs.specs.declared.kinds.Split.{Split}
use Rattle.timing_defs.specs.declared.kinds.Split.TheVariants.{Early, Late}
use Rattle.timing_defs.specs.declared.kinds.Tran.{Tran}
use Rattle.timing_defs.specs.declared.library.Cell.{Cell}
use Rattle.timing_defs.specs.declared.library.CellPin.{CellPin}
use Rattle.timing_defs.specs.declared.library.CellTest.{CellTest}
use Rattle.timing_defs.specs.declared.netlist.Inst.{Inst}
use Rattle.timing_defs.specs.declared.rows.NodeRow.{NodeRow}
use Rattle.timing_defs.specs.Lookup.{is_well_formed}
use Rattle.timing_defs.specs.Netlist.{Node, pins, cell_of, cell_pin, cell_pins, library_of}
use Rattle.timing_rules.specs.Clocking.{is_network}
use Rattle.timing_defs.specs.RowTimes.{slew_in}
use Rattle.timing_rules.specs.Rows.{row, empty_row}
use Rattle.timing_defs.specs.Kinds.{data_split, clock_split}
use Rattle.timing_rules.specs.Range.{within_some}
use Rattle.timing_defs.specs.Documents.{is_cell_test, has_pin, is_pin_of, is_library}
use Rattle.timing_defs.specs.declared.kinds.Dir.TheVariants.{Input}
use Rattle.netlist_store.specs.Numbering.{Stored, inst_numbered, pin_numbered, IsNumbered}
use Rattle.netlist_store.specs.Linked.{IsLinked}
use Rattle.pin_graph.specs.Nodes.{node_at, node_bound, pin_under}
use Rattle.pin_graph.specs.Graphs.{network_at, IsGraph}
use Rattle.pin_graph.specs.RowTables.{AreRows, row_numbered}
use Rattle.timing_defs.proofs.Members.{some_is}
use Rattle.store_pins.proofs.PinNames.{tests_good}
use Rattle.store_pins.proofs.PinLaws.{inst_of_number, own_in}
use Rattle.pin_graph.proofs.NodeLaws.{has_node}
use Rattle.node_tests.specs.declared.needs.TestEnds.{TestEnds}
use Rattle.node_tests.specs.declared.node_test.NodeTest.{NodeTest}
use Rattle.node_tests.specs.declared.registers.Asked.{Asked}
use Rattle.node_tests.specs.Needs.{is_test_between, has_table, need_over, is_need_wide}
use Rattle.node_tests.specs.NodeTests.{MayBeTest}
use Rattle.node_tests.specs.Registers.{captured, pin_node, late_pins, IsAsked, IsEnds, asked_test, is_asked_wide}
use Rattle.node_tests.proofs.ClimbLaws.{node_pin}
use Rattle.node_tests.proofs.NodeFacts.{slews_fine}
use Rattle.node_tests.proofs.WalkSteps.{off_network}
use Rattle.node_tests.proofs.AskedLaws.{not_network, none_stands, calm, large, no_need, some_need}

module _ (asked : Asked) (a : IsAsked asked) (num : IsNumbered asked.store.now) (linked : IsLinked asked.store.now.design) (is : IsGraph asked.graph.now) where
  module _ (ends : TestEnds) (clock : ℕ) (e : IsEnds asked ends clock) where
    clock_there : Contains (pins asked.store.now.design) e.node.pin
    clock_there = (has_node asked.store.now num linked clock e.node e.told).has.within

    network_is : clock < node_bound asked.store.now → network_at asked.graph.now clock ≡ is_network asked.store.now.design e.node.pin
    network_is low =
        is.network.each (pin_under clock) (let z : clock < node_bound asked.graph.now.stored = subst (λ (s : Stored). clock < node_bound s) (sym a.graph) low in omega (arith, z))
        ∙ ap (λ (s : Stored). option_map_or (is_network s.design) (pin_numbered s (pin_under clock)) false) a.graph
        ∙ ap (λ o. option_map_or (is_network asked.store.now.design) o false) (node_pin asked.store.now clock e.node e.told).0

    pub off_as : clock < node_bound asked.store.now → network_at asked.graph.now clock ≡ false
        → MayBeTest asked.store.now None (asked_test asked (node_at asked.store.now clock)) × (is_asked_wide asked (node_at asked.store.now clock) ≡ false)
    off_as low off =
        let out = sym (network_is low) ∙ off in
        not_network asked a num linked is (node_at asked.store.now clock) e.node e.told clock_there out (off_network asked.store.now.design e.node out)

    module _ (clock_row : NodeRow) (rows : clock_row ≡ row_numbered asked.store.now clock) where
      row_is : clock_row ≡ row asked.store.now.design e.node
      row_is = rows ∙ ap (λ o. option_map_or (row asked.store.now.design) o empty_row) e.told

      pub clock_slew : (split : Split) → within_some (slew_in split clock_row) ≡ true
      clock_slew split =
          ap (λ r. within_some (slew_in split r)) row_is
          ∙ (slews_fine asked.graph.now asked.store.now a.graph num linked is a.fine split e.node clock_there).1

      module _ (tests : List CellTest)
          (are : option_map (λ (cell : Cell). cell.tests) (option_and_then (cell_of asked.store.now.design (data_split asked.kind)) (inst_numbered asked.store.now asked.inst)) ≡ Some tests) where
        pub calm_as : is_need_wide ends tests (slew_in (clock_split ends.kind) clock_row) (slew_in (data_split ends.kind) asked.row.now) ≡ false
            → is_asked_wide asked (node_at asked.store.now clock) ≡ false
        calm_as =
            calm asked a num linked is (node_at asked.store.now clock) e.node e.told clock_there ends e.kind e.pin e.tran e.clock e.active tests are clock_row row_is

        pub large_as : clock < node_bound asked.store.now → network_at asked.graph.now clock ≡ true
            → is_need_wide ends tests (slew_in (clock_split ends.kind) clock_row) (slew_in (data_split ends.kind) asked.row.now) ≡ true
            → is_asked_wide asked (node_at asked.store.now clock) ≡ true
        large_as low on =
            large asked a num linked is (node_at asked.store.now clock) e.node e.told clock_there ends e.kind e.pin e.tran e.clock e.active tests are clock_row row_is
            (sym (network_is low) ∙ on)

        module _ (need : Option ℤ) (found : need ≡ need_over ends tests (slew_in (clock_split ends.kind) clock_row) (slew_in (data_split ends.kind) asked.row.now)) where
          pub need_as : (t : Option NodeTest)
              → MayBeTest asked.store.now t (option_and_then (λ n. option_and_then (λ node. captured asked.store.now.design node n) (node_at asked.store.now clock)) need)
              → MayBeTest asked.store.now t (asked_test asked (node_at asked.store.now clock))
          need_as t = by need refl
            where
              nothing : (x : Option NodeTest) → MayBeTest asked.store.now x None → x ≡ None
              nothing None h = refl
              nothing (Some y) h = absurd h

              by : (o : Option ℤ) → need ≡ o
                  → MayBeTest asked.store.now t (option_and_then (λ n. option_and_then (λ node. captured asked.store.now.design node n) (node_at asked.store.now clock)) o)
                  → MayBeTest asked.store.now t (asked_test asked (node_at asked.store.now clock))
              by None q h =
                  subst (λ (x : Option NodeTest). MayBeTest asked.store.now x (asked_test asked (node_at asked.store.now clock))) (sym (nothing t h))
                  (no_need asked a num linked is (node_at asked.store.now clock) e.node e.told clock_there ends e.kind e.pin e.tran e.clock e.active tests are clock_row row_is need found q)
              by (Some n) q h =
                  some_need asked a num linked is (node_at asked.store.now clock) e.node e.told clock_there ends e.kind e.pin e.tran e.clock e.active tests are clock_row row_is need found n t q h

  -- a pin of the cell
  module _ (pin : CellPin) (tran : Tran) (c : Contains (late_pins asked.store.now asked.inst) pin) where
    abbrev node_of_pin : Node
    node_of_pin = record { pin = cell_pin a.register pin; tran = tran }

    pub pin_node_is : pin_node asked.store.now asked.inst pin tran ≡ Some (record { pin = cell_pin a.register pin; tran = tran })
    pin_node_is = ap (option_map (λ (i : Inst). record { pin = cell_pin i pin; tran = tran })) a.inst

    pin_in : Contains (pins asked.store.now.design) (cell_pin a.register pin)
    pin_in =
        own_in asked.store.now.design linked a.register pin (inst_of_number asked.store.now num linked asked.inst a.register a.inst).within
        (subst (λ (o : Option Inst). Contains (cell_pins (option_and_then (cell_of asked.store.now.design Late) o)) pin) a.inst c)

    module _ (ends : TestEnds) (kind : ends.kind ≡ asked.kind) (own : ends.pin.now ≡ asked.own.now) (its : ends.tran ≡ asked.tran)
        (clock : ends.clock.now ≡ pin.name) (active : ends.active ≡ tran) where
      pub ends_are : (k : ℕ) → node_at asked.store.now k ≡ pin_node asked.store.now asked.inst pin tran → IsEnds asked ends k
      ends_are k e = record {
        kind = kind;
        pin = own;
        tran = its;
        node = record { pin = cell_pin a.register pin; tran = tran };
        told = e ∙ pin_node_is;
        clock = clock;
        active = active;
      }

      pub untested_as : (cell : Cell) (tests : List CellTest) → option_and_then (cell_of asked.store.now.design (data_split asked.kind)) (inst_numbered asked.store.now asked.inst) ≡ Some cell
          → tests ≡ cell.tests → list_any (is_test_between ends) tests ≡ false
          → MayBeTest asked.store.now None (asked_test asked (pin_node asked.store.now asked.inst pin tran)) × (is_asked_wide asked (pin_node asked.store.now asked.inst pin tran) ≡ false)
      untested_as cell tests e same none =
          none_stands asked a num linked is (pin_node asked.store.now asked.inst pin tran) (record { pin = cell_pin a.register pin; tran = tran }) pin_node_is pin_in ends kind own its clock active tests
          (ap (option_map (λ (c : Cell). c.tests)) e ∙ ap Some (sym same)) none

  -- the tables of a cell's tests are well formed
  pub tables_good : (split : Split) (cell : Cell) (tests : List CellTest) → option_and_then (cell_of asked.store.now.design split) (inst_numbered asked.store.now asked.inst) ≡ Some cell
      → tests ≡ cell.tests → list_all has_table tests ≡ true
  tables_good split cell tests e same =
      ap (list_all has_table) same
      ∙ each cell.tests (tests_good (library_of asked.store.now.design split) (good split) cell a.register.cell
      (sym (ap (option_and_then (cell_of asked.store.now.design split)) a.inst) ∙ e))
    where
      good : (t : Split) → is_library (library_of asked.store.now.design t) ≡ true
      good Early = linked.early
      good Late = linked.late

      each : (ts : List CellTest) → list_all (is_cell_test cell) ts ≡ true → list_all has_table ts ≡ true
      each [] h = refl
      each (t ∷ ts) h =
          let parts = and_parts (is_cell_test cell t) (list_all (is_cell_test cell) ts) h in
          let table = and_parts (has_pin cell Input t.pin && is_pin_of cell t.clock) (is_well_formed t.need) parts.0 in
          and_from (has_table t) (list_all has_table ts) table.1 (each ts parts.1)

  -- the same, by the list of the tests
  pub tables_as : (tests : List CellTest)
      → option_map (λ (cell : Cell). cell.tests) (option_and_then (cell_of asked.store.now.design (data_split asked.kind)) (inst_numbered asked.store.now asked.inst)) ≡ Some tests
      → list_all has_table tests ≡ true
  tables_as tests are = by (option_and_then (cell_of asked.store.now.design (data_split asked.kind)) (inst_numbered asked.store.now asked.inst)) refl
    where
      by : (o : Option Cell) → option_and_then (cell_of asked.store.now.design (data_split asked.kind)) (inst_numbered asked.store.now asked.inst) ≡ o → list_all has_table tests ≡ true
      by None e = let f : None ≡ Some tests = sym (ap (option_map (λ (cell : Cell). cell.tests)) e) ∙ are in absurd (cc)
      by (Some cell) e = tables_good (data_split asked.kind) cell tests e (sym (some_is (sym (ap (option_map (λ (cell : Cell). cell.tests)) e) ∙ are)))

-- the row of a node's number
pub row_as : (s : Stored) (rows : List NodeRow) (node : ℕ) (r : NodeRow) → AreRows s rows → node < node_bound s → slice_get rows node ≡ Some r → r ≡ row_numbered s node
row_as s rows node r are low e = some_is (sym e ∙ are.row node low)
