use Rattle.timing_defs.specs.declared.library.CellTest.{CellTest}
use Rattle.pin_graph.specs.Joins.{own_number}
use Rattle.pin_graph.proofs.ArcLaws.{mapped_more}
use Rattle.pin_graph.proofs.networks.add_cell_tests.Goals as goal

pub loop-test-preserved : goal.loop-test-preserved
loop-test-preserved c =
    mapped_more (λ (test : CellTest). own_number c.args.store.now c.args.inst.now test.clock) c.args.pins.now c.loop-test.pins c.add_number.new.numbers
    c.as_slice-test-items.result.now c.loop-test.test-index c.test-item.result c.in_ok-pin.pin
    c.loop-test-test.true c.test-item.is c.in_ok-pin.ensures c.loop-test.invariant c.in_ok-add_number.ensures
