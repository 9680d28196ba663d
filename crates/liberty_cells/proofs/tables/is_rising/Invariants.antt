use Rattle.std.proofs.Common.{◌≡◌, drop}
use Rattle.timing_defs.specs.Lookup.{is_rising}
use Rattle.liberty_cells.proofs.tables.is_rising.Given as goal

abbrev pub invariant-loop-i : goal.invariant-loop-i
invariant-loop-i l =
    is_rising (drop l.i l.index) ≡ is_rising l.index
