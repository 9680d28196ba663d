use Rattle.std.proofs.Common.{◌≡◌, Some, rules, sym, ap, subst, ◌∙◌, FitsSigned, w64, to_z, of_z}
use Rattle.std.proofs.lemmas.Int.{to_z-of_z}
use Rattle.worst_walks.specs.Best.{BestOf}
use Rattle.worst_walks.specs.Walks.{comes_before}
use Rattle.worst_walks.specs.Searches.{IsTied}
use Rattle.worst_walks.proofs.Offers.{is_falling}
use Rattle.worst_walks.proofs.Ties.{offer_best, offer_none, offer_other}
use Rattle.worst_walks.proofs.searching.tied_walk.Goals as goal

pub returns-in_default : goal.returns-in_default
returns-in_default g c =
    offer_none (g.O.WalkOrder.rank c.args.order.now) (g.O.WalkOrder.before c.args.order.now) c.args.cone.now c.args.place c.args.end.now c.args.rows.now c.requires.cone c.requires.order.ranked c.requires.place c.requires.rows c.args.launch
    c.launch_at-begin.result.now c.launch_at-begin.ensures c.args.least c.in_default.ensures

pub returns-then-slack-least : goal.returns-then-slack-least
returns-then-slack-least g c =
    offer_other (g.O.WalkOrder.rank c.args.order.now) (g.O.WalkOrder.before c.args.order.now) c.args.cone.now c.args.place c.args.end.now c.args.rows.now c.requires.cone c.requires.order.ranked c.requires.place c.requires.rows c.args.launch
    c.launch_at-begin.result.now c.launch_at-begin.ensures c.in-Some.slack c.args.least c.in-Some.ensures
    (λ e. c.if-slack-least.true (ap (of_z w64) e)) c.requires.least

pub nodes_from-requires-clause-falling : goal.nodes_from-requires-clause-falling
nodes_from-requires-clause-falling g c = is_falling (g.O.WalkOrder.rank c.args.order.now) c.args.cone.now c.args.end.now.node c.args.rows.now c.requires.cone c.requires.rows

pub returns : goal.returns
returns g c =
    let there : FitsSigned w64 c.in-Some.slack = search rules in
    let here : FitsSigned w64 c.args.least = search rules in
    let is : to_z w64 (of_z w64 c.in-Some.slack) ≡ c.in-Some.slack = to_z-of_z w64 c.in-Some.slack there in
    let same : to_z w64 (of_z w64 c.in-Some.slack) ≡ c.args.least = ap (to_z w64) c.if-slack-least.false ∙ to_z-of_z w64 c.args.least here in
    subst (λ s. BestOf (comes_before (g.O.WalkOrder.rank c.args.order.now) (g.O.WalkOrder.before c.args.order.now)) (IsTied c.args.cone.now c.args.place c.args.least c.args.launch)
    (Some (record { slack = s; launch = c.args.launch; end = c.args.place; nodes = c.in_ok-nodes.nodes }))) (sym same)
    (offer_best (g.O.WalkOrder.rank c.args.order.now) (g.O.WalkOrder.before c.args.order.now) c.args.cone.now c.args.place c.args.end.now c.args.rows.now c.requires.cone c.requires.order.ranked c.requires.place c.requires.rows c.args.launch
    c.launch_at-begin.result.now c.launch_at-begin.ensures c.args.least c.in_ok-nodes.nodes (ap Some (sym same ∙ is) ∙ c.in-Some.ensures) c.in_ok-nodes.ensures)
