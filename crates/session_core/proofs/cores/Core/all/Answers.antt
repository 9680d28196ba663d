use Rattle.session_core.specs.Cores.{state_of}
use Rattle.session_core.proofs.Runs.{lawful_reached}
use Rattle.session_core.proofs.cores.Core.all.Goals as goal

pub returns-clause-law : goal.returns-clause-law
returns-clause-law c = lawful_reached (state_of c.loop-event.core) c.loop-event.core.runnable c.loop-event.invariant.reached
