use Rattle.std.proofs.Common.{pos, arith}
use Rattle.bounded_slack.specs.Cuts.{sum_at}
use Rattle.bounded_slack.proofs.Cutting.{item_into, item_there, spread_start, spread_step, spread_end}
use Rattle.bounded_slack.proofs.searching.spread.Goals as goal

pub loop-arc-init : goal.loop-arc-init
loop-arc-init g c =
    spread_start (g.F.Fan.net c.args.fan.now) (sum_at c.args.reached.now) c.args.least c.args.held c.args.arcs.now
    c.requires.arcs c.requires.still

pub follow-requires-clause-net : goal.follow-requires-clause-net
follow-requires-clause-net g c = c.requires.net.shape

pub follow-requires-clause-held : goal.follow-requires-clause-held
follow-requires-clause-held g c = c.requires.held

pub follow-requires-clause-arc : goal.follow-requires-clause-arc
follow-requires-clause-arc g c =
    item_into (g.F.Fan.net c.args.fan.now) c.args.held.node c.loop-arc.arc-index (record { from = 0; delay = pos 0 }) c.args.arcs.now c.requires.net.shape c.requires.held.low
    c.requires.arcs c.loop-arc-test.true

pub follow-requires-clause-there : goal.follow-requires-clause-there
follow-requires-clause-there g c =
    item_there (g.F.Fan.net c.args.fan.now) c.args.held.node c.loop-arc.arc-index (record { from = 0; delay = pos 0 }) c.args.arcs.now c.requires.net.shape c.requires.held.low
    c.requires.arcs c.loop-arc-test.true

pub loop-arc-preserved : goal.loop-arc-preserved
loop-arc-preserved g c =
    spread_step (g.F.Fan.net c.args.fan.now) (sum_at c.loop-arc.reached) (sum_at c.follow.new.reached) c.args.least c.args.held c.args.arcs.now c.loop-arc.arc-index
    (record { from = 0; delay = pos 0 }) c.loop-arc-test.true c.requires.arcs c.requires.net c.requires.held c.in_ok-follow.ensures c.loop-arc.invariant

pub returns : goal.returns
returns g c =
    spread_end (g.F.Fan.net c.args.fan.now) (sum_at c.loop-arc.reached) c.args.least c.args.held c.args.arcs.now c.loop-arc.arc-index (omega (arith, c.loop-arc-test.false))
    c.loop-arc.invariant
