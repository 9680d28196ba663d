use Rattle.std.proofs.Common.{take, length}
use Rattle.rc_tree.specs.Loops.{AreVisited}
use Rattle.rc_tree.proofs.forests.visit_all.Given as goal

abbrev pub invariant-loop-index : goal.invariant-loop-index
invariant-loop-index l = AreVisited l.segments (length l.initial.all.places.items) l.place l.home (take l.index-index l.indexes) l.initial.all l.all
