use Rattle.edit_reach.proofs.Spreading.{IsSpreading}
use Rattle.edit_reach.proofs.behind.nodes_behind.Given as goal

abbrev pub invariant-loop-at : goal.invariant-loop-at
invariant-loop-at l = IsSpreading l.graph l.seeds l.found.keys l.at
