use Rattle.std.proofs.Common.{◌-◌}
use Rattle.levelizer.proofs.Sweeps.{IsSweeping}
use Rattle.levelizer.proofs.sweeping.sweep.Given as goal

abbrev pub invariant-loop-done : goal.invariant-loop-done
invariant-loop-done l = IsSweeping l.n l.arcs l.done l.queue l.levels.items l.waiting.items

abbrev pub decreases-loop-done : goal.decreases-loop-done
decreases-loop-done l = l.n - l.done
