use Rattle.affected_cone.specs.Ranks.{rows_of}
use Rattle.affected_cone.proofs.RowLaws.{AreGathered}
use Rattle.affected_cone.proofs.ranking.ranked_ends.Given as goal

abbrev pub invariant-loop-end : goal.invariant-loop-end
invariant-loop-end l = AreGathered l.store l.kind l.ends l.found.items l.end-index (rows_of l.store l.kind l.ends)
