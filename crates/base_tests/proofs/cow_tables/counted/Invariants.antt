use Rattle.std.proofs.Common.{◌≡◌, length}
use Rattle.base_tests.proofs.cow_tables.counted.Given as goal

abbrev pub invariant-loop-i : goal.invariant-loop-i
invariant-loop-i g l = length l.table ≡ l.i
