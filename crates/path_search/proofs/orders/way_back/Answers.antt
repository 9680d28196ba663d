use Rattle.std.proofs.Common.{sym}
use Rattle.path_search.proofs.ClimbNames.{way_first_as, way_more_as, way_last_as, lower}
use Rattle.path_search.proofs.orders.way_back.Goals as goal

pub loop-from-init : goal.loop-from-init
loop-from-init c = way_first_as c.args.graph.now c.laws.ensures c.args.node c.new-nodes.result c.requires c.new-nodes.ensures

pub loop-from-smaller : goal.loop-from-smaller
loop-from-smaller c =
    (lower c.args.graph.now c.laws.ensures c.loop-from.top c.in-Some.from c.loop-from.invariant.low (sym c.in-Some.ensures)).falls

pub loop-from-preserved : goal.loop-from-preserved
loop-from-preserved c =
    way_more_as c.args.graph.now c.laws.ensures c.args.node c.loop-from.top c.in-Some.from c.loop-from.nodes _ c.loop-from.invariant (sym c.in-Some.ensures) c.in_ok-push.ensures.ok

pub returns : goal.returns
returns c =
    way_last_as c.args.graph.now c.laws.ensures c.args.node c.loop-from.top c.loop-from.nodes c.before-in-loop-from.result c.loop-from.invariant
    c.before-in-loop-from.ensures c.in_default.not-Some
