use Rattle.std.proofs.Common.{◌≡◌, take}
use Rattle.pin_graph.specs.Joins.{own_numbers}
use Rattle.pin_graph.proofs.pin_arcs.own_numbers.Given as goal

abbrev pub invariant-loop-pin : goal.invariant-loop-pin
invariant-loop-pin l = l.numbers ≡ own_numbers l.store l.inst (take l.pin-index l.pins)
