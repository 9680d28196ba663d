use Rattle.std.proofs.Common.{◌≡◌, rules}
use Rattle.session_core.specs.Machine.{state, opening}
use Rattle.session_core.proofs.Runs.{reached_opening}
use Rattle.session_core.proofs.cores.Core.begin.Goals as goal

pub returns-clause-reached : goal.returns-clause-reached
returns-clause-reached c =
    let begun : state c.args.first c.new.result c.args.scripts c.in_ok-sessions.sessions ≡ opening c.args.first c.args.scripts = search rules in
    reached_opening _ c.args.first c.args.scripts begun
