use Rattle.std.proofs.Common.{subst, sym}
use Rattle.std.specs.Prelude.{IfSome}
use Rattle.script_reader.specs.LiveKept.{CanBeAnswered}
use Rattle.live_session.proofs.TurnLaws.{end_runs}
use Rattle.seated_session.proofs.talking.end_item.Goals as goal

pub returns-clause-asked : goal.returns-clause-asked
returns-clause-asked c = subst (λ what. IfSome what CanBeAnswered) (sym c.end.ensures) (end_runs c.args.reader.now.place)
