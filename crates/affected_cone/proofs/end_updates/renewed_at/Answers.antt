use Rattle.std.proofs.Common.{◌∙◌}
use Rattle.affected_cone.proofs.end_updates.renewed_at.Goals as goal

pub renewed_with-ends-requires-clause-again : goal.renewed_with-ends-requires-clause-again
renewed_with-ends-requires-clause-again g c κs within = c.as_slice.ensures ∙ c.in_ok-again.ensures
