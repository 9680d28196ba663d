use Rattle.std.proofs.Common.{◌≡◌, ◌++◌, drop}
use Rattle.spef_reader.specs.Parasitics.{ress_of}
use Rattle.spef_reader.proofs.parasitics.ress_of.Given as goal

abbrev pub invariant-loop-event : goal.invariant-loop-event
invariant-loop-event l =
    l.ress ++ ress_of (drop l.event-index l.rows) ≡ ress_of l.rows
