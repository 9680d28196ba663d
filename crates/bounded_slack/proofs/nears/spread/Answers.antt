use Rattle.std.proofs.Common.{get_or, pos, sym, subst, arith, ◌<◌}
use Rattle.bounded_slack.specs.Nets.{level_of}
use Rattle.bounded_slack.specs.Cuts.{sum_at}
use Rattle.bounded_slack.proofs.Cutting.{item_into, item_there, behind_held}
use Rattle.bounded_slack.proofs.Nearing.{all_followed, spread_none, spread_more}
use Rattle.bounded_slack.proofs.nears.spread.Goals as goal

pub loop-arc-init : goal.loop-arc-init
loop-arc-init g c = spread_none (g.F.Fan.net c.args.fan.now) c.args.bound.most c.args.held c.args.arcs.now (sum_at c.args.reached.now)

pub near-requires-clause-net : goal.near-requires-clause-net
near-requires-clause-net g c = c.requires.net

pub near-requires-clause-held : goal.near-requires-clause-held
near-requires-clause-held g c = c.requires.held

pub near-requires-clause-arc : goal.near-requires-clause-arc
near-requires-clause-arc g c =
    item_into (g.F.Fan.net c.args.fan.now) c.args.held.node c.loop-arc.arc-index (record { from = 0; delay = pos 0 }) c.args.arcs.now c.requires.net c.requires.held.low
    c.requires.arcs c.loop-arc-test.true

pub near-requires-clause-there : goal.near-requires-clause-there
near-requires-clause-there g c =
    item_there (g.F.Fan.net c.args.fan.now) c.args.held.node c.loop-arc.arc-index (record { from = 0; delay = pos 0 }) c.args.arcs.now c.requires.net c.requires.held.low
    c.requires.arcs c.loop-arc-test.true

pub loop-arc-preserved : goal.loop-arc-preserved
loop-arc-preserved g c =
    let net = g.F.Fan.net c.args.fan.now in
    let into = item_into net c.args.held.node c.loop-arc.arc-index (record { from = 0; delay = pos 0 }) c.args.arcs.now c.requires.net c.requires.held.low c.requires.arcs c.loop-arc-test.true in
    let there = item_there net c.args.held.node c.loop-arc.arc-index (record { from = 0; delay = pos 0 }) c.args.arcs.now c.requires.net c.requires.held.low c.requires.arcs c.loop-arc-test.true in
    spread_more net c.args.bound.most c.args.held c.args.arcs.now (sum_at c.args.reached.now) (sum_at c.loop-arc.reached) (sum_at c.near.new.reached) c.loop-arc.arc-index
    (record { from = 0; delay = pos 0 }) c.loop-arc-test.true (behind_held net c.args.held _ c.requires.held into there)
    (subst (λ l. level_of net (get_or c.args.arcs.now c.loop-arc.arc-index (record { from = 0; delay = pos 0 })).from < l) (sym c.requires.held.its) into.1)
    c.in_ok-near.ensures c.loop-arc.invariant

pub returns : goal.returns
returns g c =
    all_followed (g.F.Fan.net c.args.fan.now) c.args.bound.most c.args.held c.args.arcs.now (sum_at c.args.reached.now) (sum_at c.loop-arc.reached) c.loop-arc.arc-index
    (omega (arith, c.loop-arc-test.false)) c.loop-arc.invariant
