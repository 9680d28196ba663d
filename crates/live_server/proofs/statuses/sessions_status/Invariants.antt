use Rattle.std.proofs.Common.{◌≡◌, max, drop}
use Rattle.live_server.specs.Statuses.{sessions_status}
use Rattle.live_server.proofs.statuses.sessions_status.Given as goal

abbrev pub invariant-loop-session : goal.invariant-loop-session
invariant-loop-session g l = max l.status (sessions_status (drop l.session-index l.sessions)) ≡ sessions_status l.sessions
