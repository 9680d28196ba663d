use Rattle.seated_session.proofs.Runs.{answered_run}
use Rattle.seated_session.proofs.laws.answered_is_run.Goals as goal

pub returns : goal.returns
returns c = λ s commands rows h. answered_run s commands rows h
