use Rattle.std.proofs.Common.{◌≡◌, map, take, ◌^◌}
use Rattle.rc_tree.specs.Weights.{AreUnder}
use Rattle.rc_tree.specs.Wiring.{micro}
use Rattle.rc_tree.proofs.wires.delays_of.Given as goal

abbrev pub invariant-loop-moment : goal.invariant-loop-moment
invariant-loop-moment l = (l.delays ≡ map micro (take l.moment-index l.moments)) × AreUnder (10 ^ 12) l.delays
