use Rattle.design_link.specs.Walks.{IsWalkTo}
use Rattle.design_link.proofs.walks.are_walked.Given as goal

abbrev pub invariant-loop-at : goal.invariant-loop-at
invariant-loop-at l = IsWalkTo l.root l.ress l.at
