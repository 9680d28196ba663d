use Rattle.std.proofs.Common.{sym}
use Rattle.node_tests.proofs.ClimbLaws.{off_as, none_as, some_as}
use Rattle.node_tests.proofs.climbs.walk_start.Goals as goal

pub returns-then-not-is_network : goal.returns-then-not-is_network
returns-then-not-is_network c =
    off_as c.args.graph.now c.args.store.now c.requires.graph c.laws.ensures.numbered c.laws.ensures.linked c.laws-2.ensures c.args.node c.requires.node (sym c.if-not-is_network.ensures)

pub returns-in-Some : goal.returns-in-Some
returns-in-Some c =
    some_as c.args.graph.now c.args.store.now c.requires.graph c.laws.ensures.numbered c.laws.ensures.linked c.laws-2.ensures c.args.node c.climbed-top.result c.climbed-top.ensures
    c.top_clock.result c.top_clock.ensures c.in-Some.clock c.tran_of.result c.in-Some.is c.tran_of.ensures

pub returns-in-None : goal.returns-in-None
returns-in-None c =
    none_as c.args.graph.now c.args.store.now c.requires.graph c.laws.ensures.numbered c.laws.ensures.linked c.laws-2.ensures c.args.node c.climbed-top.result c.climbed-top.ensures
    c.top_clock.result c.top_clock.ensures c.in-None.is
