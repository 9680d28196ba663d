use Rattle.std.proofs.Common.{◌≡◌, drop}
use Rattle.std.specs.Cmp.Lexicographic.{pointwise}
use Rattle.timing_defs.specs.Edits.{same_cell_pin}
use Rattle.pin_graph.proofs.keeping.same_pins.Given as goal

abbrev pub invariant-loop-pin : goal.invariant-loop-pin
invariant-loop-pin l = pointwise same_cell_pin (drop l.pin-index l.a) l.rest ≡ pointwise same_cell_pin l.a l.initial.rest
