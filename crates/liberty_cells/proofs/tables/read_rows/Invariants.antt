use Rattle.std.proofs.Common.{◌≡◌, [], drop}
use Rattle.std.specs.Prelude.{◌&&◌}
use Rattle.std.specs.List.{list_all}
use Rattle.liberty_cells.specs.Statements.{told}
use Rattle.liberty_cells.specs.Tables.{has_rows, stand_all, last_rows}
use Rattle.liberty_cells.proofs.tables.read_rows.Given as goal

abbrev pub invariant-loop-args : goal.invariant-loop-args
invariant-loop-args l =
    ((l.good && list_all (has_rows l.unit l.count l.columns) (told (drop l.args-index l.found))) ≡ stand_all (has_rows l.unit l.count l.columns) (told l.found))
    × (last_rows l.unit l.rows (told (drop l.args-index l.found)) ≡ last_rows l.unit [] (told l.found))
