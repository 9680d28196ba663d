use Rattle.node_tests.proofs.PinLoops.{gathered_as}
use Rattle.node_tests.proofs.registers.register_tests.Goals as goal

pub loop-pin-preserved : goal.loop-pin-preserved
loop-pin-preserved g c =
    gathered_as c.args.asked.now c.as_slice-pin-items.result.now c.cell_at-cell.result.now c.cell_at-cell.ensures c.as_slice-pin-items.ensures c.loop-pin.tests c.loop-pin.pin-index
    c.pin-item.result c.loop-pin-test.true c.pin-item.is c.loop-pin.invariant c.in_ok-found.found c.add_test.new.tests c.add_test-in-loop-pin.new.tests c.in_ok-found.ensures.tests
    c.in_ok-found.ensures.fine c.in_ok-add_test.ensures c.in_ok-add_test-2.ensures
