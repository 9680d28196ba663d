use Rattle.std.proofs.Common.{◌≡◌, [], drop}
use Rattle.spef_reader.specs.Faults.{pins_on}
use Rattle.spef_reader.proofs.checks.pins_of.Given as goal

abbrev pub invariant-loop-event : goal.invariant-loop-event
invariant-loop-event l =
    pins_on l.pins (drop l.event-index l.rows) ≡ pins_on [] l.rows
