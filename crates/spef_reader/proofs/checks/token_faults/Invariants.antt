use Rattle.std.proofs.Common.{◌≡◌, drop}
use Rattle.sta_text.specs.Faults.{least_from}
use Rattle.spef_reader.specs.Faults.{token_faults}
use Rattle.spef_reader.proofs.checks.token_faults.Given as goal

abbrev pub invariant-loop-event : goal.invariant-loop-event
invariant-loop-event l =
    least_from l.least (token_faults (drop l.event-index l.events)) ≡ least_from l.fn.best (token_faults l.events)
