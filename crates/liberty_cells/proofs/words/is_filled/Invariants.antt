use Rattle.std.proofs.Common.{◌≡◌, false, drop}
use Rattle.liberty_cells.specs.Tables.{filled_on}
use Rattle.liberty_cells.proofs.words.is_filled.Given as goal

abbrev pub invariant-loop-b : goal.invariant-loop-b
invariant-loop-b l =
    filled_on l.seen (drop l.b-index l.text) ≡ filled_on false l.text
