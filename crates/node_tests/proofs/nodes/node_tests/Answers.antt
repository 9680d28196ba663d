use Rattle.std.proofs.Common.{◌≡◌, ap, false, ◌∙◌}
use Rattle.std.specs.List.{flat_map, list_any}
use Rattle.timing_defs.specs.declared.constraints.Constraints.{Constraints}
use Rattle.node_rows.specs.Evaluation.{IsPlaced}
use Rattle.node_rows.proofs.ResultLaws.{ok_more, err_more}
use Rattle.node_tests.specs.NodeTests.{AreTests, tests_numbered, is_wide_numbered, name_numbered, IsTestFault}
use Rattle.node_tests.specs.Registers.{IsAsked, late_pins, pin_tests_of, is_pin_wide}
use Rattle.node_tests.proofs.TopLaws.{registers_are, registers_fine, registers_fault}
use Rattle.node_tests.proofs.TopForms.{delays_within, pin_parts, target, target_at, driver_form, sink_is, port_form, register_at, own_at, row_at}
use Rattle.node_tests.proofs.nodes.node_tests.Goals as goal

pub returns-then-drives-clause-tests : goal.returns-then-drives-clause-tests
returns-then-drives-clause-tests g c = (driver_form c.args.store.now c.args.graph.now.stored c.requires.graph c.laws.ensures.numbered c.laws.ensures.linked c.args.node c.in-Some.pin c.in-Some.ensures c.args.kind c.new-then-drives.result c.new-then-drives.ensures c.if-drives.ensures).0

pub returns-then-drives-clause-fine : goal.returns-then-drives-clause-fine
returns-then-drives-clause-fine g c = (driver_form c.args.store.now c.args.graph.now.stored c.requires.graph c.laws.ensures.numbered c.laws.ensures.linked c.args.node c.in-Some.pin c.in-Some.ensures c.args.kind c.new-then-drives.result c.new-then-drives.ensures c.if-drives.ensures).1

pub register_tests-requires-clause-asked : goal.register_tests-requires-clause-asked
register_tests-requires-clause-asked g c =
    let r = register_at c.args.store.now c.args.graph.now.stored c.requires.graph c.laws.ensures.numbered c.laws.ensures.linked c.args.node c.in-Some.pin c.in-Some.ensures c.in-Some-inst_of.inst c.in-Some-inst_of.ensures.value in
    let a : IsAsked (record { store = c.args.store; graph = c.args.graph; kind = c.args.kind; node = c.args.node; pin = c.in-Some.pin; tran = c.tran_of.result; inst = c.in-Some-inst_of.inst; own = c.own_name.result; row = c.row.result }) = record {
      graph = c.requires.graph;
      target = target c.args.store.now c.args.graph.now.stored c.requires.graph c.laws.ensures.numbered c.laws.ensures.linked c.args.node c.in-Some.pin c.in-Some.ensures;
      node = target_at c.args.store.now c.args.graph.now.stored c.requires.graph c.laws.ensures.numbered c.laws.ensures.linked c.args.node c.in-Some.pin c.in-Some.ensures;
      register = r.0;
      inst = r.1.0;
      owner = r.1.1;
      pin = (pin_parts c.args.store.now c.args.graph.now.stored c.requires.graph c.laws.ensures.numbered c.laws.ensures.linked c.args.node c.in-Some.pin c.in-Some.ensures).1;
      tran = c.tran_of.ensures;
      own = own_at c.args.store.now c.args.graph.now.stored c.requires.graph c.laws.ensures.numbered c.laws.ensures.linked c.args.node c.in-Some.pin c.in-Some.ensures c.in-Some-inst_of.inst c.in-Some-inst_of.ensures.value c.own_name.result.now c.own_name.ensures;
      row = row_at c.args.store.now c.args.graph.now.stored c.requires.graph c.laws.ensures.numbered c.laws.ensures.linked c.args.node c.in-Some.pin c.in-Some.ensures c.in-Some-inst_of.inst c.in-Some-inst_of.ensures.value (g.A.Rows.rows c.args.arrivals.now) c.row.result.now c.requires.rows c.requires.node c.row.ensures;
      fine = c.requires.range;
    } in
    a

pub returns-in-Some-inst_of-clause-tests : goal.returns-in-Some-inst_of-clause-tests
returns-in-Some-inst_of-clause-tests g c =
    let r = register_at c.args.store.now c.args.graph.now.stored c.requires.graph c.laws.ensures.numbered c.laws.ensures.linked c.args.node c.in-Some.pin c.in-Some.ensures c.in-Some-inst_of.inst c.in-Some-inst_of.ensures.value in
    let a : IsAsked (record { store = c.args.store; graph = c.args.graph; kind = c.args.kind; node = c.args.node; pin = c.in-Some.pin; tran = c.tran_of.result; inst = c.in-Some-inst_of.inst; own = c.own_name.result; row = c.row.result }) = record {
      graph = c.requires.graph;
      target = target c.args.store.now c.args.graph.now.stored c.requires.graph c.laws.ensures.numbered c.laws.ensures.linked c.args.node c.in-Some.pin c.in-Some.ensures;
      node = target_at c.args.store.now c.args.graph.now.stored c.requires.graph c.laws.ensures.numbered c.laws.ensures.linked c.args.node c.in-Some.pin c.in-Some.ensures;
      register = r.0;
      inst = r.1.0;
      owner = r.1.1;
      pin = (pin_parts c.args.store.now c.args.graph.now.stored c.requires.graph c.laws.ensures.numbered c.laws.ensures.linked c.args.node c.in-Some.pin c.in-Some.ensures).1;
      tran = c.tran_of.ensures;
      own = own_at c.args.store.now c.args.graph.now.stored c.requires.graph c.laws.ensures.numbered c.laws.ensures.linked c.args.node c.in-Some.pin c.in-Some.ensures c.in-Some-inst_of.inst c.in-Some-inst_of.ensures.value c.own_name.result.now c.own_name.ensures;
      row = row_at c.args.store.now c.args.graph.now.stored c.requires.graph c.laws.ensures.numbered c.laws.ensures.linked c.args.node c.in-Some.pin c.in-Some.ensures c.in-Some-inst_of.inst c.in-Some-inst_of.ensures.value (g.A.Rows.rows c.args.arrivals.now) c.row.result.now c.requires.rows c.requires.node c.row.ensures;
      fine = c.requires.range;
    } in
    ok_more c.register_tests.result
    (λ tests. AreTests c.args.store.now tests (flat_map (pin_tests_of (record { store = c.args.store; graph = c.args.graph; kind = c.args.kind; node = c.args.node; pin = c.in-Some.pin; tran = c.tran_of.result; inst = c.in-Some-inst_of.inst; own = c.own_name.result; row = c.row.result })) (late_pins c.args.store.now c.in-Some-inst_of.inst)))
    (λ tests. AreTests c.args.store.now tests (tests_numbered c.args.store.now c.args.kind c.args.node))
    (λ tests h. registers_are (record { store = c.args.store; graph = c.args.graph; kind = c.args.kind; node = c.args.node; pin = c.in-Some.pin; tran = c.tran_of.result; inst = c.in-Some-inst_of.inst; own = c.own_name.result; row = c.row.result }) a c.laws.ensures.numbered c.laws.ensures.linked (sink_is c.args.store.now c.args.graph.now.stored c.requires.graph c.laws.ensures.numbered c.laws.ensures.linked c.args.node c.in-Some.pin c.in-Some.ensures c.if-drives.ensures) tests h) c.register_tests.ensures.tests

pub returns-in-Some-inst_of-clause-fine : goal.returns-in-Some-inst_of-clause-fine
returns-in-Some-inst_of-clause-fine g c =
    let r = register_at c.args.store.now c.args.graph.now.stored c.requires.graph c.laws.ensures.numbered c.laws.ensures.linked c.args.node c.in-Some.pin c.in-Some.ensures c.in-Some-inst_of.inst c.in-Some-inst_of.ensures.value in
    let a : IsAsked (record { store = c.args.store; graph = c.args.graph; kind = c.args.kind; node = c.args.node; pin = c.in-Some.pin; tran = c.tran_of.result; inst = c.in-Some-inst_of.inst; own = c.own_name.result; row = c.row.result }) = record {
      graph = c.requires.graph;
      target = target c.args.store.now c.args.graph.now.stored c.requires.graph c.laws.ensures.numbered c.laws.ensures.linked c.args.node c.in-Some.pin c.in-Some.ensures;
      node = target_at c.args.store.now c.args.graph.now.stored c.requires.graph c.laws.ensures.numbered c.laws.ensures.linked c.args.node c.in-Some.pin c.in-Some.ensures;
      register = r.0;
      inst = r.1.0;
      owner = r.1.1;
      pin = (pin_parts c.args.store.now c.args.graph.now.stored c.requires.graph c.laws.ensures.numbered c.laws.ensures.linked c.args.node c.in-Some.pin c.in-Some.ensures).1;
      tran = c.tran_of.ensures;
      own = own_at c.args.store.now c.args.graph.now.stored c.requires.graph c.laws.ensures.numbered c.laws.ensures.linked c.args.node c.in-Some.pin c.in-Some.ensures c.in-Some-inst_of.inst c.in-Some-inst_of.ensures.value c.own_name.result.now c.own_name.ensures;
      row = row_at c.args.store.now c.args.graph.now.stored c.requires.graph c.laws.ensures.numbered c.laws.ensures.linked c.args.node c.in-Some.pin c.in-Some.ensures c.in-Some-inst_of.inst c.in-Some-inst_of.ensures.value (g.A.Rows.rows c.args.arrivals.now) c.row.result.now c.requires.rows c.requires.node c.row.ensures;
      fine = c.requires.range;
    } in
    ok_more c.register_tests.result
    (λ tests. list_any (is_pin_wide (record { store = c.args.store; graph = c.args.graph; kind = c.args.kind; node = c.args.node; pin = c.in-Some.pin; tran = c.tran_of.result; inst = c.in-Some-inst_of.inst; own = c.own_name.result; row = c.row.result })) (late_pins c.args.store.now c.in-Some-inst_of.inst) ≡ false)
    (λ tests. is_wide_numbered c.args.store.now c.args.kind c.args.node ≡ false)
    (λ tests h. registers_fine (record { store = c.args.store; graph = c.args.graph; kind = c.args.kind; node = c.args.node; pin = c.in-Some.pin; tran = c.tran_of.result; inst = c.in-Some-inst_of.inst; own = c.own_name.result; row = c.row.result }) a c.laws.ensures.numbered c.laws.ensures.linked h) c.register_tests.ensures.fine

pub returns-in-Some-inst_of-clause-err : goal.returns-in-Some-inst_of-clause-err
returns-in-Some-inst_of-clause-err g c =
    let r = register_at c.args.store.now c.args.graph.now.stored c.requires.graph c.laws.ensures.numbered c.laws.ensures.linked c.args.node c.in-Some.pin c.in-Some.ensures c.in-Some-inst_of.inst c.in-Some-inst_of.ensures.value in
    let a : IsAsked (record { store = c.args.store; graph = c.args.graph; kind = c.args.kind; node = c.args.node; pin = c.in-Some.pin; tran = c.tran_of.result; inst = c.in-Some-inst_of.inst; own = c.own_name.result; row = c.row.result }) = record {
      graph = c.requires.graph;
      target = target c.args.store.now c.args.graph.now.stored c.requires.graph c.laws.ensures.numbered c.laws.ensures.linked c.args.node c.in-Some.pin c.in-Some.ensures;
      node = target_at c.args.store.now c.args.graph.now.stored c.requires.graph c.laws.ensures.numbered c.laws.ensures.linked c.args.node c.in-Some.pin c.in-Some.ensures;
      register = r.0;
      inst = r.1.0;
      owner = r.1.1;
      pin = (pin_parts c.args.store.now c.args.graph.now.stored c.requires.graph c.laws.ensures.numbered c.laws.ensures.linked c.args.node c.in-Some.pin c.in-Some.ensures).1;
      tran = c.tran_of.ensures;
      own = own_at c.args.store.now c.args.graph.now.stored c.requires.graph c.laws.ensures.numbered c.laws.ensures.linked c.args.node c.in-Some.pin c.in-Some.ensures c.in-Some-inst_of.inst c.in-Some-inst_of.ensures.value c.own_name.result.now c.own_name.ensures;
      row = row_at c.args.store.now c.args.graph.now.stored c.requires.graph c.laws.ensures.numbered c.laws.ensures.linked c.args.node c.in-Some.pin c.in-Some.ensures c.in-Some-inst_of.inst c.in-Some-inst_of.ensures.value (g.A.Rows.rows c.args.arrivals.now) c.row.result.now c.requires.rows c.requires.node c.row.ensures;
      fine = c.requires.range;
    } in
    err_more c.register_tests.result
    (IsPlaced (list_any (is_pin_wide (record { store = c.args.store; graph = c.args.graph; kind = c.args.kind; node = c.args.node; pin = c.in-Some.pin; tran = c.tran_of.result; inst = c.in-Some-inst_of.inst; own = c.own_name.result; row = c.row.result })) (late_pins c.args.store.now c.in-Some-inst_of.inst)) (name_numbered c.args.store.now c.args.node))
    (IsTestFault c.args.store.now c.args.kind c.args.node)
    (λ fault h. registers_fault (record { store = c.args.store; graph = c.args.graph; kind = c.args.kind; node = c.args.node; pin = c.in-Some.pin; tran = c.tran_of.result; inst = c.in-Some-inst_of.inst; own = c.own_name.result; row = c.row.result }) a c.laws.ensures.numbered c.laws.ensures.linked fault h) c.register_tests.ensures.err

pub output_tests-requires : goal.output_tests-requires
output_tests-requires g c =
    delays_within c.args.store.now.design.constraints c.laws.ensures.linked.constraints c.as_slice-delays.result.now
    (c.as_slice-delays.ensures ∙ ap (λ (k : Constraints). k.outputs) c.constraints.ensures)

pub returns-in_ok-output_tests-in-None-clause-tests : goal.returns-in_ok-output_tests-in-None-clause-tests
returns-in_ok-output_tests-in-None-clause-tests g c =
    port_form c.args.store.now c.args.graph.now.stored c.requires.graph c.laws.ensures.numbered c.laws.ensures.linked c.args.node c.in-Some.pin c.in-Some.ensures c.if-drives.ensures c.in-None.ensures.none c.args.kind c.pin_name-port.result.now c.tran_of-in-None.result c.as_slice-delays.result.now c.in_ok-output_tests-in-None.field-0
    c.pin_name-port.ensures c.tran_of-in-None.ensures (c.as_slice-delays.ensures ∙ ap (λ (k : Constraints). k.outputs) c.constraints.ensures) c.in_ok-output_tests-in-None.ensures
