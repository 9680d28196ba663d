use Rattle.std.proofs.Common.{◌≡◌, length}
use Rattle.base_tests.proofs.cow_tables.every_place.Given as goal

abbrev pub invariant-loop-i : goal.invariant-loop-i
invariant-loop-i g l = length l.places.items ≡ length l.values.items
