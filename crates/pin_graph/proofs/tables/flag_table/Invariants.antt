use Rattle.std.proofs.Common.{◌≡◌, map, take}
use Rattle.pin_graph.specs.Marks.{flag_of}
use Rattle.pin_graph.proofs.tables.flag_table.Given as goal

abbrev pub invariant-loop-mark : goal.invariant-loop-mark
invariant-loop-mark l = l.table ≡ map flag_of (take l.mark-index l.marks)
