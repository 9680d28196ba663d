use Rattle.pin_graph.proofs.SeedLaws.{seeds_are}
use Rattle.pin_graph.proofs.seeding.seeds.Goals as goal

pub returns : goal.returns
returns c =
    seeds_are c.args.base.now c.args.graph.now c.kept.ensures.numbered c.kept-2.ensures.numbered c.kept.ensures.linked c.kept-2.ensures.linked
    c.kept.ensures.graph c.kept-2.ensures.graph c.requires.1.numbers.pins (record { insts = c.args.touched.now.insts; nets = c.args.touched.now.nets })
    c.in_ok-nodes.nodes c.distinct.result c.in_ok-nodes.ensures c.distinct.ensures.rising c.distinct.ensures.same
