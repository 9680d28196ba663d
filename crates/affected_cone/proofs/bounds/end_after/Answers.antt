use Rattle.affected_cone.proofs.BoundLaws.{end_by}
use Rattle.affected_cone.proofs.RenewedEnds.{end_known}
use Rattle.affected_cone.proofs.bounds.end_after.Goals as goal

pub stands_alone-requires : goal.stands_alone-requires
stands_alone-requires c = end_known c.args.weighed.now.search.now.store.now c.args.pin c.requires.pin

pub returns : goal.returns
returns c = end_by c.args.weighed.now.search.now.store.now c.args.pin c.in_ok-setup.setup c.in_ok-hold.hold c.in_ok-setup.ensures c.in_ok-hold.ensures
