use Rattle.std.proofs.Common.{◌≡◌, drop}
use Rattle.sta_text.specs.Faults.{least_from}
use Rattle.spef_reader.specs.Faults.{strange_couplings}
use Rattle.spef_reader.proofs.checks.strange_couplings.Given as goal

abbrev pub invariant-loop-event : goal.invariant-loop-event
invariant-loop-event l =
    least_from l.least (strange_couplings l.pins (drop l.event-index l.rows)) ≡ least_from l.fn.best (strange_couplings l.pins l.rows)
