use Rattle.std.proofs.Common.{◌≡◌}
use Rattle.std.specs.Arc.{arc_value}
use Rattle.shell_core.specs.declared.ends.End.{End}
use Rattle.shell_session.specs.Serving.{IsContinued, IsReplayLine, SavedEnds}
use Rattle.shell_session.proofs.EndLemmas.{ended}
use Rattle.shell_session.proofs.SavedLaws.{saved_continued, saved_stopped}
use Rattle.shell_session.proofs.continuing.saved_end.Goals as goal

pub returns-in-Ok-clause-ends : goal.returns-in-Ok-clause-ends
returns-in-Ok-clause-ends g c =
    let d = c.args.store.design in
    let saved = c.args.saved.now in
    let scripts = c.args.scripts.now in
    let version = arc_value c.in-Ok.version in
    let ensures = c.in-Ok.ensures in
    ended c.continued_end.result
    (λ (end : End). IsContinued version.origin version.first scripts end.status end.text.items)
    (λ (end : End). SavedEnds d saved scripts end.status end.text.items)
    (λ end is. saved_continued d saved scripts end.status end.text.items version.origin version.first ensures.sound ensures.origin ensures.first is)
    c.continued_end.ensures.answer

pub returns-in-Err-clause-ends : goal.returns-in-Err-clause-ends
returns-in-Err-clause-ends g c =
    let d = c.args.store.design in
    let saved = c.args.saved.now in
    let scripts = c.args.scripts.now in
    let fault = c.in-Err.fault in
    ended c.replay_end.result
    (λ (end : End). (end.status ≡ 3) × IsReplayLine fault end.text.items)
    (λ (end : End). SavedEnds d saved scripts end.status end.text.items)
    (λ end is. saved_stopped d saved scripts end.status end.text.items fault c.in-Err.ensures.refused is.0 is.1)
    c.replay_end.ensures
