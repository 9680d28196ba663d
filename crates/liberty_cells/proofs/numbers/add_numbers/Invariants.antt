use Rattle.std.proofs.Common.{◌≡◌, ◌++◌, map, length}
use Rattle.std.specs.Prelude.{◌&&◌}
use Rattle.std.specs.List.{list_all}
use Rattle.liberty_cells.specs.Units.{is_number, number_or_zero}
use Rattle.liberty_cells.specs.Tables.{numbers, row}
use Rattle.liberty_cells.proofs.numbers.add_numbers.Given as goal

abbrev pub invariant-loop-word : goal.invariant-loop-word
invariant-loop-word l =
    ((l.good && list_all (is_number l.unit) l.words) ≡ list_all (is_number l.unit) (numbers l.text))
    × (l.found ++ map (number_or_zero l.unit) l.words ≡ l.fn.found ++ row l.unit l.text)

abbrev pub decreases-loop-word : goal.decreases-loop-word
decreases-loop-word l = length l.words
