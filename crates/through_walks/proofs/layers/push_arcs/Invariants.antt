use Rattle.std.proofs.Common.{◌≡◌, ◌++◌, map, take}
use Rattle.through_walks.specs.Layers.{arc_on}
use Rattle.through_walks.proofs.layers.push_arcs.Given as goal

abbrev pub invariant-loop-arc : goal.invariant-loop-arc
invariant-loop-arc l = l.arcs ≡ l.initial.arcs ++ map (arc_on l.stages l.stage) (take l.arc-index l.listed)
