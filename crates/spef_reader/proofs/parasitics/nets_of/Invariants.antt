use Rattle.std.proofs.Common.{◌≡◌, ◌++◌, drop}
use Rattle.spef_reader.specs.Parasitics.{nets_of}
use Rattle.spef_reader.proofs.parasitics.nets_of.Given as goal

abbrev pub invariant-loop-i : goal.invariant-loop-i
invariant-loop-i l =
    l.nets ++ nets_of (drop l.i l.events) ≡ nets_of l.events
