use Rattle.std.proofs.Common.{◌≡◌, ◌++◌, drop}
use Rattle.spef_reader.specs.Parasitics.{caps_of}
use Rattle.spef_reader.proofs.parasitics.caps_of.Given as goal

abbrev pub invariant-loop-event : goal.invariant-loop-event
invariant-loop-event l =
    l.caps ++ caps_of l.pins (drop l.event-index l.rows) ≡ caps_of l.pins l.rows
