use Rattle.std.proofs.Common.{◌≡◌, ◌++◌, map, take}
use Rattle.std.specs.Option.{option_to_list}
use Rattle.pin_graph.specs.Pulls.{from_pin}
use Rattle.pin_graph.proofs.pulls.tails.Given as goal

abbrev pub invariant-loop-arc : goal.invariant-loop-arc
invariant-loop-arc l = l.pins ≡ option_to_list l.fn.first ++ map from_pin (take l.arc-index l.arcs)
