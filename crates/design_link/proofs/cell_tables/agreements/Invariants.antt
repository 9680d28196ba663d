use Rattle.std.proofs.Common.{◌≡◌, map, take}
use Rattle.design_link.specs.Documents.{agrees_in}
use Rattle.design_link.proofs.cell_tables.agreements.Given as goal

abbrev pub invariant-loop-cell : goal.invariant-loop-cell
invariant-loop-cell l = l.all ≡ map (agrees_in l.early) (take l.cell-index l.late)
