use Rattle.std.proofs.lemmas.Result.{IfOk-weaker}
use Rattle.through_walks.proofs.Stages.{cone_there, order_there, worst_under}
use Rattle.through_walks.proofs.searching.through_walk.Goals as goal

pub worst_in-requires-clause-layers : goal.worst_in-requires-clause-layers
worst_in-requires-clause-layers g c =
    cone_there c.args.cone.now c.args.stops.now c.args.begun.now c.in_ok-stages.stages c.in_ok-layers.layers c.requires.cone c.requires.begun
    c.in_ok-stages.ensures.stages c.in_ok-layers.ensures c.in_ok-stages.ensures.few

pub worst_in-requires-clause-order : goal.worst_in-requires-clause-order
worst_in-requires-clause-order g c =
    order_there c.args.cone.now c.args.stops.now c.args.begun.now c.in_ok-stages.stages c.in_ok-layers.layers c.requires.cone c.requires.begun
    c.in_ok-stages.ensures.stages c.in_ok-layers.ensures (g.O.WalkOrder.count c.args.order.now) (g.O.WalkOrder.rank c.args.order.now) c.requires.order

pub returns : goal.returns
returns g c =
    IfOk-weaker c.unlayered.result _ _
    (λ under is. worst_under c.args.cone.now c.args.stops.now c.args.begun.now c.in_ok-stages.stages c.in_ok-layers.layers c.requires.cone c.requires.begun
    c.in_ok-stages.ensures.stages c.in_ok-layers.ensures (g.O.WalkOrder.rank c.args.order.now) (g.O.WalkOrder.before c.args.order.now) c.in_ok-worst.worst under
    c.in_ok-stages.ensures.few c.in_ok-worst.ensures is)
    c.unlayered.ensures
