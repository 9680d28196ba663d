use Rattle.affected_cone.proofs.RangeFacts.{no_origin}
use Rattle.affected_cone.proofs.ChangedLaws.{on_ok}
use Rattle.affected_cone.proofs.updating.required_after.Goals as goal

pub returns-clause-fine : goal.returns-clause-fine
returns-clause-fine g c = on_ok c.update-required.result (no_origin c.args.store.now.design c.requires.fine) c.update-required.ensures.fine
