use Rattle.design_link.proofs.Orders.{IsBest}
use Rattle.design_link.proofs.least.least_place.Given as goal

abbrev pub invariant-loop-at : goal.invariant-loop-at
invariant-loop-at l = IsBest l.names l.place l.at
