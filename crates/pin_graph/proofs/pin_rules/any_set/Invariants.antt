use Rattle.std.proofs.Common.{◌≡◌, false, take}
use Rattle.std.specs.List.{list_any}
use Rattle.pin_graph.specs.PinValues.{is_set}
use Rattle.pin_graph.proofs.pin_rules.any_set.Given as goal

abbrev pub invariant-loop-pin : goal.invariant-loop-pin
invariant-loop-pin l = list_any (is_set l.flags) (take l.pin-index l.pins) ≡ false
