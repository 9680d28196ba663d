use Rattle.std.proofs.Common.{take}
use Rattle.worst_walks.specs.Walks.{count_of}
use Rattle.worst_walks.proofs.Marking.{AreMarkedBy}
use Rattle.worst_walks.proofs.firsts.first_nodes.Given as goal

abbrev pub invariant-loop-end : goal.invariant-loop-end
invariant-loop-end l = AreMarkedBy (take l.end-index l.end-items) (count_of l.cone) l.marks.items
