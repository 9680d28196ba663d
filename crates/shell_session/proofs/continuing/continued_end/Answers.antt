use Rattle.std.specs.Arc.{arc_value}
use Rattle.shell_core.specs.declared.ends.End.{End}
use Rattle.shell_session.specs.Serving.{AreSavedEnded, IsContinued}
use Rattle.shell_session.proofs.EndLemmas.{ended}
use Rattle.shell_session.proofs.SavedLaws.{continued}
use Rattle.shell_session.proofs.continuing.continued_end.Goals as goal

pub returns-in-Ok-clause-answer : goal.returns-in-Ok-clause-answer
returns-in-Ok-clause-answer g c =
    let version = arc_value c.args.version in
    let last = arc_value c.in-Ok.closed.last in
    let ts = c.in-Ok.closed.transcripts in
    let scripts = c.args.scripts.now in
    let ensures = c.in-Ok.ensures in
    ended c.sessions_end.result
    (λ (end : End). AreSavedEnded last ts end.status end.text.items)
    (λ (end : End). IsContinued version.origin version.first scripts end.status end.text.items)
    (λ end is. continued version.origin version.first scripts last ts end.status end.text.items c.requires.scripts c.requires.count.1 ensures.whole ensures.last ensures.first ensures.origin is)
    c.sessions_end.ensures.ends
