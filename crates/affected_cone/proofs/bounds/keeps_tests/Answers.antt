use Rattle.affected_cone.proofs.BoundLaws.{kept_pin}
use Rattle.affected_cone.proofs.bounds.keeps_tests.Goals as goal

pub returns-then-alone : goal.returns-then-alone
returns-then-alone c = λ yes.
    kept_pin c.args.base.now.graph.now.stored c.args.search.now.graph.now c.args.search.now.store.now c.requires.search.graph c.args.carried.now.seeds.keys c.args.carried.now.nodes.keys
    c.args.split c.args.pin c.requires.there (c.are_left.ensures yes) (c.requires.alone c.if-alone.true)
