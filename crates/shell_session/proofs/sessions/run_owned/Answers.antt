use Rattle.shell_session.proofs.EachLaws.{runnable}
use Rattle.shell_session.proofs.sessions.run_owned.Goals as goal

pub run_script-outcome-requires-clause-script : goal.run_script-outcome-requires-clause-script
run_script-outcome-requires-clause-script g c κs within = runnable c.args.script.now c.requires.script
