use Rattle.std.proofs.Common.{take}
use Rattle.path_ranking.specs.WalkLists.{ArePathsOf}
use Rattle.path_ranking.proofs.ranking.paths_of.Given as goal

abbrev pub invariant-loop-walk : goal.invariant-loop-walk
invariant-loop-walk g l = ArePathsOf l.sources.graph.now l.sources.kind l.endpoint l.search (take l.walk-index l.walks) l.paths
