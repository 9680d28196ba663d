use Rattle.affected_cone.proofs.BoundLaws.{both_left}
use Rattle.affected_cone.proofs.bounds.are_left.Goals as goal

pub returns-then-is_left : goal.returns-then-is_left
returns-then-is_left c = λ yes.
    both_left c.args.base.now.graph.now.stored c.args.search.now.graph.now c.args.carried.now.seeds.keys c.args.split c.args.pin (c.is_left.ensures c.if-is_left.true)
    (c.is_left-then-is_left.ensures yes)
