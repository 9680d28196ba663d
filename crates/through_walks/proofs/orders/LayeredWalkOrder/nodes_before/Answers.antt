use Rattle.std.proofs.Common.{◌<◌, map, sym, ap, subst, ◌∙◌}
use Rattle.std.specs.Prelude.{All}
use Rattle.std.proofs.lemmas.Result.{IfOk-weaker}
use Rattle.through_walks.specs.Layers.{past, known_on}
use Rattle.through_walks.proofs.Knowing.{past_known}
use Rattle.through_walks.proofs.orders.LayeredWalkOrder.nodes_before.Goals as goal

pub returns-clause-known : goal.returns-clause-known
returns-clause-known g c =
    IfOk-weaker c.all_past.result _ _
    (λ moved put. subst (All (λ n. n < known_on c.args.self.now.stages c.args.self.now.count (g.O.WalkOrder.count c.args.self.now.order.now)))
    (sym (put ∙ ap (map (past c.args.self.now.count)) c.as_slice.ensures))
    (past_known c.args.self.now.stages c.args.self.now.count (g.O.WalkOrder.count c.args.self.now.order.now) c.args.launch c.in_ok-nodes.nodes c.requires c.in_ok-nodes.ensures.known))
    c.all_past.ensures
