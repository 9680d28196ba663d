use Rattle.std.proofs.Common.{◌≡◌, [], drop}
use Rattle.sta_text.specs.Faults.{least_from}
use Rattle.spef_reader.specs.Faults.{double_nets}
use Rattle.spef_reader.proofs.checks.double_nets.Given as goal

abbrev pub invariant-loop-event : goal.invariant-loop-event
invariant-loop-event l =
    least_from l.least (double_nets l.names (drop l.event-index l.events)) ≡ least_from l.fn.best (double_nets [] l.events)
