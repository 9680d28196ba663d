use Rattle.path_ranking.proofs.RankedPaths.{paths_more}
use Rattle.path_ranking.proofs.ranking.paths_of.Goals as goal

pub loop-walk-preserved : goal.loop-walk-preserved
loop-walk-preserved g c =
    paths_more c.args.sources.now.graph.now c.args.sources.now.kind c.args.endpoint.now c.args.search.now c.args.walks.now c.loop-walk.walk-index c.walk-item.result c.loop-walk.paths c.push.new.self
    c.in_ok-path.path c.loop-walk-test.true c.walk-item.is c.loop-walk.invariant c.in_ok-path.ensures c.in_ok-push.ensures.ok
