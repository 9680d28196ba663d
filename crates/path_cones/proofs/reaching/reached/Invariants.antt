use Rattle.path_cones.proofs.Growing.{IsReaching}
use Rattle.path_cones.proofs.reaching.reached.Given as goal

abbrev pub invariant-loop-at : goal.invariant-loop-at
invariant-loop-at l = IsReaching l.graph l.ends l.found.keys l.at
