use Rattle.std.proofs.Common.{◌≡◌, [], drop}
use Rattle.std.specs.Prelude.{◌&&◌}
use Rattle.std.specs.List.{list_all}
use Rattle.liberty_cells.specs.Statements.{told}
use Rattle.liberty_cells.specs.Tables.{has_values, stand_all, last_flat}
use Rattle.liberty_cells.proofs.tables.read_values.Given as goal

abbrev pub invariant-loop-args : goal.invariant-loop-args
invariant-loop-args l =
    ((l.good && list_all (has_values l.unit l.count) (told (drop l.args-index l.found))) ≡ stand_all (has_values l.unit l.count) (told l.found))
    × (last_flat l.unit l.values (told (drop l.args-index l.found)) ≡ last_flat l.unit [] (told l.found))
