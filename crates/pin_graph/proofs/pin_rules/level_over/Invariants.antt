use Rattle.std.proofs.Common.{◌≡◌, take}
use Rattle.pin_graph.specs.PinValues.{level_over}
use Rattle.pin_graph.proofs.pin_rules.level_over.Given as goal

abbrev pub invariant-loop-pin : goal.invariant-loop-pin
invariant-loop-pin l = l.level ≡ level_over l.levels (take l.pin-index l.befores)
