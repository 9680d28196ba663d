use Rattle.std.proofs.Common.{◌≡◌, ◌++◌, drop}
use Rattle.liberty_cells.specs.Cells.{all_arcs}
use Rattle.liberty_cells.proofs.arcs.add_arcs.Given as goal

abbrev pub invariant-loop-to : goal.invariant-loop-to
invariant-loop-to l =
    l.arcs ++ all_arcs l.group l.froms (drop l.to-index l.tos) ≡ l.fn.arcs ++ all_arcs l.group l.froms l.tos
