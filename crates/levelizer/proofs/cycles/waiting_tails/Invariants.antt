use Rattle.levelizer.proofs.Walks.{AreTailsSoFar}
use Rattle.levelizer.proofs.cycles.waiting_tails.Given as goal

abbrev pub invariant-loop-arc : goal.invariant-loop-arc
invariant-loop-arc l = AreTailsSoFar l.arcs l.waiting l.arc-index l.tails.items
