use Rattle.std.proofs.Common.{◌≡◌, ◌++◌, map}
use Rattle.affected_cone.specs.Ranks.{end_row}
use Rattle.affected_cone.proofs.ranking.end_rows.Given as goal

abbrev pub invariant-loop-end : goal.invariant-loop-end
invariant-loop-end l = l.rows ++ map end_row l.end-iterator.rest.items ≡ map end_row l.fn.ends.rest.items
