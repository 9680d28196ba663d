use Rattle.std.proofs.Common.{length}
use Rattle.live_run.proofs.runs.+seated.Given as goal

abbrev pub decreases-seated : goal.decreases-seated
decreases-seated g l = length l.seats.items
