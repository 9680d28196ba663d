use Rattle.std.proofs.Common.{pos, ◌∙◌}
use Rattle.bounded_slack.proofs.Cutting.{item_into, item_there, behind_some, nearer_behind, behind_at}
use Rattle.bounded_slack.proofs.firsts.back.Goals as goal

pub arcs_into-requires : goal.arcs_into-requires
arcs_into-requires g c = c.requires.held.low

pub behind-next-requires-clause-net : goal.behind-next-requires-clause-net
behind-next-requires-clause-net g c = c.requires.net

pub behind-next-requires-clause-held : goal.behind-next-requires-clause-held
behind-next-requires-clause-held g c = c.requires.held

pub behind-next-requires-clause-arc : goal.behind-next-requires-clause-arc
behind-next-requires-clause-arc g c =
    item_into (g.F.Fan.net c.args.fan.now) c.args.held.node c.loop-arc.arc-index (record { from = 0; delay = pos 0 }) c.as_slice-arc-items.result.now c.requires.net c.requires.held.low
    (c.as_slice-arc-items.ensures ∙ c.in_ok-arcs.ensures) c.loop-arc-test.true

pub behind-next-requires-clause-there : goal.behind-next-requires-clause-there
behind-next-requires-clause-there g c =
    item_there (g.F.Fan.net c.args.fan.now) c.args.held.node c.loop-arc.arc-index (record { from = 0; delay = pos 0 }) c.as_slice-arc-items.result.now c.requires.net c.requires.held.low
    (c.as_slice-arc-items.ensures ∙ c.in_ok-arcs.ensures) c.loop-arc-test.true

pub nearer-requires-clause-net : goal.nearer-requires-clause-net
nearer-requires-clause-net g c = c.requires.net

pub nearer-requires-clause-best : goal.nearer-requires-clause-best
nearer-requires-clause-best g c = behind_some (g.F.Fan.net c.args.fan.now) c.args.held c.loop-arc.best c.loop-arc.invariant

pub nearer-requires-clause-next : goal.nearer-requires-clause-next
nearer-requires-clause-next g c = c.behind-next.ensures.held

pub loop-arc-preserved : goal.loop-arc-preserved
loop-arc-preserved g c =
    let net = g.F.Fan.net c.args.fan.now in
    nearer_behind net c.args.held c.loop-arc.best c.behind-next.result c.nearer.result c.loop-arc.invariant c.behind-next.ensures.held
    (behind_at net c.args.held c.behind-next.result c.loop-arc.arc-index (record { from = 0; delay = pos 0 }) c.as_slice-arc-items.result.now c.requires.net c.requires.held
    (c.as_slice-arc-items.ensures ∙ c.in_ok-arcs.ensures) c.loop-arc-test.true c.behind-next.ensures.value) c.nearer.ensures

pub returns : goal.returns
returns g c = c.loop-arc.invariant
