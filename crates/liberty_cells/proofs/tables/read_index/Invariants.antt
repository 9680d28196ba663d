use Rattle.std.proofs.Common.{◌≡◌, [], drop}
use Rattle.std.specs.Prelude.{◌&&◌}
use Rattle.std.specs.List.{list_all}
use Rattle.liberty_cells.specs.Statements.{told}
use Rattle.liberty_cells.specs.Tables.{is_index, is_axis, all_rise, last_flat}
use Rattle.liberty_cells.proofs.tables.read_index.Given as goal

abbrev pub invariant-loop-args : goal.invariant-loop-args
invariant-loop-args l =
    ((l.index.fits && list_all (is_index l.unit) (told (drop l.args-index l.found))) ≡ is_axis l.unit (told l.found))
    × ((l.index.rises && all_rise l.unit (told (drop l.args-index l.found))) ≡ all_rise l.unit (told l.found))
    × (last_flat l.unit l.index.values (told (drop l.args-index l.found)) ≡ last_flat l.unit [] (told l.found))
