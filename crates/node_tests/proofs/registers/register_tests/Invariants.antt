use Rattle.node_tests.specs.Registers.{late_pins}
use Rattle.node_tests.proofs.PinLoops.{AreGathered}
use Rattle.node_tests.proofs.registers.register_tests.Given as goal

abbrev pub invariant-loop-pin : goal.invariant-loop-pin
invariant-loop-pin g l = AreGathered l.asked (late_pins l.asked.store.now l.asked.inst) l.tests l.pin-index
