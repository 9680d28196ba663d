use Rattle.std.proofs.Common.{◌-◌}
use Rattle.levelizer.proofs.Reach.{IsReaching}
use Rattle.levelizer.proofs.reaching.reached.Given as goal

abbrev pub invariant-loop-done : goal.invariant-loop-done
invariant-loop-done l = IsReaching l.n l.arcs l.first l.marks.items l.queue l.done

abbrev pub decreases-loop-done : goal.decreases-loop-done
decreases-loop-done l = l.n - l.done
