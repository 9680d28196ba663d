use Rattle.path_ranking.proofs.RankedPaths.{first_as}
use Rattle.path_ranking.proofs.ranking.first_walks.Goals as goal

pub returns : goal.returns
returns c =
    first_as c.ranked_walks.result c.args.store.now c.args.graph.now c.args.search.now c.args.count c.as_slice.result.now c.as_slice.ensures c.ranked_walks.ensures
