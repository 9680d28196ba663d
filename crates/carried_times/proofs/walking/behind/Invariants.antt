use Rattle.std.proofs.Common.{take}
use Rattle.carried_times.specs.Sides.{ArePassed}
use Rattle.carried_times.proofs.walking.behind.Given as goal

abbrev pub invariant-loop-arc : goal.invariant-loop-arc
invariant-loop-arc g l = ArePassed l.before l.after l.nodes.keys l.times l.found (take l.arc-index l.arcs)
