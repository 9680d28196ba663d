use Rattle.std.proofs.Common.{length}
use Rattle.live_run.proofs.closing.+taken_apart.Given as goal

abbrev pub decreases-taken_apart : goal.decreases-taken_apart
decreases-taken_apart g l = length l.ended.items
