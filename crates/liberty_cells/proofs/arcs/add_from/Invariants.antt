use Rattle.std.proofs.Common.{◌≡◌, ◌++◌, drop}
use Rattle.liberty_cells.specs.Cells.{arcs_from}
use Rattle.liberty_cells.proofs.arcs.add_from.Given as goal

abbrev pub invariant-loop-from : goal.invariant-loop-from
invariant-loop-from l =
    l.arcs ++ arcs_from l.group (drop l.from-index l.froms) l.to ≡ l.fn.arcs ++ arcs_from l.group l.froms l.to
