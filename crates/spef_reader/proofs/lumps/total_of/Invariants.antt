use Rattle.std.proofs.Common.{◌≡◌, drop}
use Rattle.spef_reader.specs.Faults.{total_of}
use Rattle.spef_reader.proofs.lumps.total_of.Given as goal

abbrev pub invariant-loop-event : goal.invariant-loop-event
invariant-loop-event l =
    total_of (drop l.event-index l.rows) ≡ total_of l.rows
