use Rattle.std.proofs.Common.{◌∙◌}
use Rattle.affected_cone.proofs.RenewedEnds.{listed_ends}
use Rattle.affected_cone.proofs.found.all_slacks.Goals as goal

pub slacks_of-slacks-requires-clause-ends : goal.slacks_of-slacks-requires-clause-ends
slacks_of-slacks-requires-clause-ends g c κs within = listed_ends c.args.search.now.store.now c.as_slice.result.now (c.as_slice.ensures ∙ c.in_ok-ends.ensures)
