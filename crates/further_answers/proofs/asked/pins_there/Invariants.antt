use Rattle.std.proofs.Common.{◌≡◌, drop}
use Rattle.timing_defs.specs.Wires.{first_some}
use Rattle.timing_rules.specs.Reports.{unknown_pin}
use Rattle.further_answers.proofs.asked.pins_there.Given as goal

abbrev pub invariant-loop-pin : goal.invariant-loop-pin
invariant-loop-pin l =
    first_some (unknown_pin l.store.design) (drop l.pin-index l.pins) ≡ first_some (unknown_pin l.store.design) l.pins
