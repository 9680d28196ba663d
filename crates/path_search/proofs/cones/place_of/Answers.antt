use Rattle.path_search.proofs.PinEnds.{place_none, place_is}
use Rattle.path_search.proofs.cones.place_of.Goals as goal

pub unreachable-requires : goal.unreachable-requires
unreachable-requires c = place_none c.args.nodes.now c.args.node c.requires.among c.in-None.ensures

pub returns-clause-there : goal.returns-clause-there
returns-clause-there c = place_is c.args.nodes.now c.args.node c.in-Some.place c.in-Some.ensures
