use Rattle.std.proofs.Common.{◌≡◌, ◌++◌, map, take}
use Rattle.pin_graph.specs.Pulls.{to_pin}
use Rattle.pin_graph.proofs.pulls.add_heads.Given as goal

abbrev pub invariant-loop-arc : goal.invariant-loop-arc
invariant-loop-arc l = l.pins ≡ l.initial.pins ++ map to_pin (take l.arc-index l.arcs)
