use Rattle.std.proofs.Common.{◌≡◌, drop}
use Rattle.sta_text.specs.Faults.{least_from}
use Rattle.spef_reader.specs.Faults.{nets_faults}
use Rattle.spef_reader.proofs.checks.nets_faults.Given as goal

abbrev pub invariant-loop-i : goal.invariant-loop-i
invariant-loop-i l =
    least_from l.least (nets_faults (drop l.i l.events)) ≡ least_from l.fn.best (nets_faults l.events)
