use Rattle.std.proofs.Common.{◌<◌, sym, subst}
use Rattle.bounded_slack.specs.declared.reached.Held.{Held}
use Rattle.bounded_slack.specs.Cuts.{sum_at, top_of, HasRaised, IsSearching}
use Rattle.bounded_slack.proofs.Cutting.{end_fine, started, popped, finished, next_falls}
use Rattle.bounded_slack.proofs.searching.least_slack.Goals as goal

pub first_slack-requires : goal.first_slack-requires
first_slack-requires g c = c.requires.shape

pub at_end-end-requires : goal.at_end-end-requires
at_end-end-requires g c = c.requires.shape

pub loop-next-init : goal.loop-next-init
loop-next-init g c =
    let net = g.F.Fan.net c.args.fan.now in
    popped net (sum_at c.raise.new.self) (sum_at c.pop-next.new.self) c.in_ok-least.least c.pop-next.result
    (started net (sum_at c.new-reached.result) (sum_at c.raise.new.self) c.in_ok-least.least c.in_ok-least.ensures c.new-reached.ensures (end_fine net c.requires.shape)
    (subst (λ (h : Held). HasRaised (sum_at c.new-reached.result) (sum_at c.raise.new.self) h.level h.node h.sum) c.at_end-end.ensures.end c.in_ok-raise.ensures))
    c.pop-next.ensures

pub settle-requires-clause-net : goal.settle-requires-clause-net
settle-requires-clause-net g c = c.requires

pub settle-requires-clause-searching : goal.settle-requires-clause-searching
settle-requires-clause-searching g c =
    subst (IsSearching (g.F.Fan.net c.args.fan.now) (sum_at c.loop-next.reached) c.loop-next.least) c.in-Some.is c.loop-next.invariant

pub loop-next-smaller : goal.loop-next-smaller
loop-next-smaller g c =
    subst (λ o. top_of c.pop-next-in-Some.result < top_of o) (sym c.in-Some.is)
    (next_falls (g.F.Fan.net c.args.fan.now) (sum_at c.settle.new.reached) (sum_at c.pop-next-in-Some.new.self) c.in_ok-least-2.least c.in-Some.held c.pop-next-in-Some.result c.requires.shape
    c.in_ok-least-2.ensures c.pop-next-in-Some.ensures)

pub loop-next-preserved : goal.loop-next-preserved
loop-next-preserved g c =
    popped (g.F.Fan.net c.args.fan.now) (sum_at c.settle.new.reached) (sum_at c.pop-next-in-Some.new.self) c.in_ok-least-2.least c.pop-next-in-Some.result
    c.in_ok-least-2.ensures.cut c.pop-next-in-Some.ensures

pub returns : goal.returns
returns g c =
    let net = g.F.Fan.net c.args.fan.now in
    finished net (sum_at c.loop-next.reached) c.loop-next.least
    (subst (IsSearching net (sum_at c.loop-next.reached) c.loop-next.least) c.in_default.is c.loop-next.invariant)
