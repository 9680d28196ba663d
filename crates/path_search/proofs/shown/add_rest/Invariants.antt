use Rattle.path_search.proofs.TimeSteps.{IsAdded}
use Rattle.path_search.proofs.shown.add_rest.Given as goal

abbrev pub invariant-loop-next : goal.invariant-loop-next
invariant-loop-next l = IsAdded l.store l.kind l.search l.first l.rest l.start l.initial.path l.next-index l.at l.time l.path
