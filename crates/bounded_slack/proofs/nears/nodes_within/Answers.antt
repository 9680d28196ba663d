use Rattle.std.proofs.Common.{◌<◌, List, ℕ, sym, subst}
use Rattle.bounded_slack.specs.declared.reached.Held.{Held}
use Rattle.bounded_slack.specs.Cuts.{sum_at, top_of, HasRaised}
use Rattle.bounded_slack.specs.Nears.{IsNearing, IsNearSearch, IsNowhere}
use Rattle.bounded_slack.proofs.Cutting.{end_fine}
use Rattle.bounded_slack.proofs.Nearing.{near_started, near_popped, near_found, near_falls}
use Rattle.bounded_slack.proofs.nears.nodes_within.Goals as goal

pub at_end-requires : goal.at_end-requires
at_end-requires g c = c.requires.shape

pub loop-next-init : goal.loop-next-init
loop-next-init g c =
    let net = g.F.Fan.net c.args.fan.now in
    near_popped net c.args.bound.most (sum_at c.raise.new.self) (sum_at c.pop-next.new.self) c.new-nodes.result c.pop-next.result
    (subst (λ (xs : List ℕ). IsNearing net c.args.bound.most (sum_at c.raise.new.self) xs IsNowhere) (sym c.new-nodes.ensures)
    (near_started net c.args.bound.most (sum_at c.new-reached.result) (sum_at c.raise.new.self) c.new-reached.ensures (end_fine net c.requires.shape)
    (subst (λ (h : Held). HasRaised (sum_at c.new-reached.result) (sum_at c.raise.new.self) h.level h.node h.sum) c.at_end.ensures.end c.in_ok-raise.ensures)))
    c.pop-next.ensures

pub take-requires-clause-net : goal.take-requires-clause-net
take-requires-clause-net g c = c.requires

pub take-requires-clause-searching : goal.take-requires-clause-searching
take-requires-clause-searching g c =
    let net = g.F.Fan.net c.args.fan.now in
    subst (IsNearSearch net c.args.bound.most (sum_at c.loop-next.reached) c.loop-next.nodes) c.in-Some.is c.loop-next.invariant

pub loop-next-smaller : goal.loop-next-smaller
loop-next-smaller g c =
    let net = g.F.Fan.net c.args.fan.now in
    let told = c.in_ok-take.ensures in
    subst (λ o. top_of c.pop-next-in-Some.result < top_of o) (sym c.in-Some.is)
    (near_falls net c.args.bound.most (sum_at c.take.new.reached) (sum_at c.pop-next-in-Some.new.self) c.take.new.nodes c.in-Some.held c.pop-next-in-Some.result c.requires.shape
    told c.pop-next-in-Some.ensures)

pub loop-next-preserved : goal.loop-next-preserved
loop-next-preserved g c =
    let net = g.F.Fan.net c.args.fan.now in
    let told = c.in_ok-take.ensures in
    near_popped net c.args.bound.most (sum_at c.take.new.reached) (sum_at c.pop-next-in-Some.new.self) c.take.new.nodes c.pop-next-in-Some.result
    told.nearing c.pop-next-in-Some.ensures

pub returns : goal.returns
returns g c =
    let net = g.F.Fan.net c.args.fan.now in
    near_found net c.args.bound.most c.requires (sum_at c.loop-next.reached) c.loop-next.nodes
    (subst (IsNearSearch net c.args.bound.most (sum_at c.loop-next.reached) c.loop-next.nodes) c.in_default.is c.loop-next.invariant)
