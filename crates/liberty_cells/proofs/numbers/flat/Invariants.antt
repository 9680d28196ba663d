use Rattle.std.proofs.Common.{◌≡◌, ◌++◌, drop}
use Rattle.std.specs.Prelude.{◌&&◌}
use Rattle.liberty_cells.specs.Tables.{all_rows, flat}
use Rattle.liberty_cells.proofs.numbers.flat.Given as goal

abbrev pub invariant-loop-arg : goal.invariant-loop-arg
invariant-loop-arg l =
    ((l.good && all_rows l.unit (drop l.arg-index l.args)) ≡ all_rows l.unit l.args)
    × (l.values ++ flat l.unit (drop l.arg-index l.args) ≡ flat l.unit l.args)
