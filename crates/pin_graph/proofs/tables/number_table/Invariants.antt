use Rattle.std.proofs.Common.{◌≡◌, take}
use Rattle.pin_graph.proofs.tables.number_table.Given as goal

abbrev pub invariant-loop-number : goal.invariant-loop-number
invariant-loop-number l = l.table ≡ take l.number-index l.numbers
