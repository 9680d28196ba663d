use Rattle.std.proofs.Common.{◌≡◌, drop}
use Rattle.std.specs.List.{flat_map}
use Rattle.sta_text.specs.Faults.{least_from}
use Rattle.liberty_cells.specs.Statements.{told}
use Rattle.liberty_cells.specs.Faults.{value_faults}
use Rattle.liberty_cells.proofs.attributes.note_values.Given as goal

abbrev pub invariant-loop-value : goal.invariant-loop-value
invariant-loop-value l =
    least_from l.least (flat_map (value_faults l.code l.check) (told (drop l.value-index l.found))) ≡ least_from l.fn.best (flat_map (value_faults l.code l.check) (told l.found))
