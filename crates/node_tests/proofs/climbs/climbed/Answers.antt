use Rattle.std.proofs.Common.{sym}
use Rattle.node_tests.proofs.ClimbLaws.{above_first, above_more, level_falls, top_reached_as}
use Rattle.node_tests.proofs.climbs.climbed.Goals as goal

pub loop-from-init : goal.loop-from-init
loop-from-init c = above_first c.args.graph.now c.requires.numbered c.requires.linked c.laws.ensures c.args.node c.requires.below c.requires.network

pub loop-from-smaller : goal.loop-from-smaller
loop-from-smaller c =
    level_falls c.args.graph.now c.requires.numbered c.requires.linked c.laws.ensures c.args.node c.loop-from.top c.loop-from.invariant c.in-Some.from (sym c.in-Some.ensures)

pub loop-from-preserved : goal.loop-from-preserved
loop-from-preserved c =
    above_more c.args.graph.now c.requires.numbered c.requires.linked c.laws.ensures c.args.node c.loop-from.top c.loop-from.invariant c.in-Some.from (sym c.in-Some.ensures)

pub returns : goal.returns
returns c =
    top_reached_as c.args.graph.now c.requires.numbered c.requires.linked c.laws.ensures c.args.node c.loop-from.top c.loop-from.invariant c.before-in-loop-from.result
    c.before-in-loop-from.ensures c.in_default.not-Some
