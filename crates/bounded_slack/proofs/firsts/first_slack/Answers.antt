use Rattle.std.proofs.Common.{◌<◌, sym, subst}
use Rattle.bounded_slack.specs.Cuts.{height_of, IsBehind}
use Rattle.bounded_slack.proofs.Cutting.{height_falls}
use Rattle.bounded_slack.proofs.firsts.first_slack.Goals as goal

pub at_end-at-requires : goal.at_end-at-requires
at_end-at-requires g c = c.requires

pub back-requires-clause-net : goal.back-requires-clause-net
back-requires-clause-net g c = c.requires

pub back-requires-clause-held : goal.back-requires-clause-held
back-requires-clause-held g c = c.at_end-at.ensures.held

pub loop-next-init : goal.loop-next-init
loop-next-init g c = record { at = c.at_end-at.ensures.held; next = c.in_ok-next.ensures }

pub back-requires-in-Some-clause-net : goal.back-requires-in-Some-clause-net
back-requires-in-Some-clause-net g c = c.requires

pub back-requires-in-Some-clause-held : goal.back-requires-in-Some-clause-held
back-requires-in-Some-clause-held g c =
    let behind = subst (IsBehind (g.F.Fan.net c.args.fan.now) c.loop-next.at) c.in-Some.is c.loop-next.invariant.next in
    behind.0

pub loop-next-smaller : goal.loop-next-smaller
loop-next-smaller g c =
    subst (λ o. height_of c.in_ok-next-2.next < height_of o) (sym c.in-Some.is)
    (height_falls (g.F.Fan.net c.args.fan.now) c.in-Some.held c.in_ok-next-2.next c.in_ok-next-2.ensures)

pub loop-next-preserved : goal.loop-next-preserved
loop-next-preserved g c =
    let behind = subst (IsBehind (g.F.Fan.net c.args.fan.now) c.loop-next.at) c.in-Some.is c.loop-next.invariant.next in
    record { at = behind.0; next = c.in_ok-next-2.ensures }

pub own_slack-requires-clause-net : goal.own_slack-requires-clause-net
own_slack-requires-clause-net g c = c.requires

pub own_slack-requires-clause-held : goal.own_slack-requires-clause-held
own_slack-requires-clause-held g c = c.loop-next.invariant.at
