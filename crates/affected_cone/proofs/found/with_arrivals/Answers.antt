use Rattle.affected_cone.proofs.RangeFacts.{no_origin}
use Rattle.affected_cone.proofs.found.with_arrivals.Goals as goal

pub with_required-requires-clause-fine : goal.with_required-requires-clause-fine
with_required-requires-clause-fine g c κs within = no_origin c.args.store.now.design c.requires.fine c.in-Ok.ensures.fine
