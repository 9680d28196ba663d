use Rattle.path_search.proofs.NumberNames.{past_all}
use Rattle.path_search.proofs.orders.climb_past.Goals as goal

pub returns-clause-known : goal.returns-clause-known
returns-clause-known c =
    past_all c.all_past.result c.args.places _ c.in_ok-nodes.nodes c.as_slice.result.now c.as_slice.ensures c.in_ok-nodes.ensures.known c.all_past.ensures
