use Rattle.std.proofs.Common.{length}
use Rattle.shell_session.proofs.sessions.+taken_apart.Given as goal

abbrev pub decreases-taken_apart : goal.decreases-taken_apart
decreases-taken_apart l = length l.ended.items
