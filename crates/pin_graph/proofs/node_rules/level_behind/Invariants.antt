use Rattle.std.proofs.Common.{◌≡◌, take}
use Rattle.pin_graph.specs.NodeValues.{level_behind}
use Rattle.pin_graph.proofs.node_rules.level_behind.Given as goal

abbrev pub invariant-loop-arc : goal.invariant-loop-arc
invariant-loop-arc l = l.level ≡ level_behind l.levels (take l.arc-index l.arcs)
