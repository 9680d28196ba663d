use Rattle.std.proofs.Common.{◌≡◌, ◌-◌, ◌≤◌, ◌++◌, [], Some, replicate, length}
use Rattle.pin_graph.proofs.held_fans.Fans.lengthen.Given as goal

abbrev pub invariant-loop-at : goal.invariant-loop-at
invariant-loop-at l = (l.self.later ≡ l.fn.self.later ++ replicate (l.at - length l.fn.self.later) (Some [])) × (l.self.first ≡ l.fn.self.first) × (length l.fn.self.later ≤ l.at)
