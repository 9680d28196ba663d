use Rattle.std.proofs.Common.{true, false}
use Rattle.bounded_slack.specs.Cuts.{sum_at}
use Rattle.bounded_slack.proofs.Nearing.{past_is, neared_past, neared_raised}
use Rattle.bounded_slack.proofs.nears.near.Goals as goal

pub behind-next-requires-clause-net : goal.behind-next-requires-clause-net
behind-next-requires-clause-net g c = c.requires.net

pub behind-next-requires-clause-held : goal.behind-next-requires-clause-held
behind-next-requires-clause-held g c = c.requires.held

pub behind-next-requires-clause-arc : goal.behind-next-requires-clause-arc
behind-next-requires-clause-arc g c = c.requires.arc

pub behind-next-requires-clause-there : goal.behind-next-requires-clause-there
behind-next-requires-clause-there g c = c.requires.there

pub room-requires-clause-net : goal.room-requires-clause-net
room-requires-clause-net g c = c.requires.net

pub room-requires-clause-held : goal.room-requires-clause-held
room-requires-clause-held g c = c.behind-next.ensures.held

pub returns-then-is_past : goal.returns-then-is_past
returns-then-is_past g c =
    let net = g.F.Fan.net c.args.fan.now in
    neared_past net c.args.bound.most c.args.held c.behind-next.result c.args.arc (sum_at c.args.reached.now) c.behind-next.ensures.value
    (past_is net c.args.bound.most c.behind-next.result c.room.result c.is_past.result true c.room.ensures
    c.is_past.ensures c.if-is_past.true)

pub returns : goal.returns
returns g c =
    let net = g.F.Fan.net c.args.fan.now in
    neared_raised net c.args.bound.most c.args.held c.behind-next.result c.args.arc (sum_at c.args.reached.now) (sum_at c.raise.new.self) c.behind-next.ensures.value
    (past_is net c.args.bound.most c.behind-next.result c.room.result c.is_past.result false c.room.ensures
    c.is_past.ensures c.if-is_past.false) c.in_ok-raise.ensures
