use Rattle.std.proofs.Common.{length}
use Rattle.kernel_rows.proofs.checked_cones.+are_apart.Given as goal

abbrev pub decreases-are_apart : goal.decreases-are_apart
decreases-are_apart l = length l.arcs.now
