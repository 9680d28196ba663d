use Rattle.std.proofs.Common.{◌≡◌, map}
use Rattle.std.specs.List.{range_with_len}
use Rattle.pin_graph.specs.Joins.{before}
use Rattle.pin_graph.proofs.drivers.befores.Given as goal

abbrev pub invariant-loop-pin : goal.invariant-loop-pin
invariant-loop-pin l = l.befores ≡ map (before l.store) (range_with_len 0 l.pin)
