use Rattle.std.proofs.Common.{subst}
use Rattle.std.specs.Prelude.{IfOk}
use Rattle.shell_core.specs.declared.ends.End.{End}
use Rattle.shell_session.specs.Serving.{BegunEnds, DocumentsEnd}
use Rattle.shell_session.proofs.EndLemmas.{ended, documents_linked}
use Rattle.shell_session.proofs.answers.end_of.Goals as goal

pub returns-in-Ok-clause-ends : goal.returns-in-Ok-clause-ends
returns-in-Ok-clause-ends g c =
    let d = c.in-Ok.store.design in
    let docs = c.args.docs in
    ended c.begun_end-end.result (λ (end : End). BegunEnds d docs.saved docs.scripts end.status end.text.items)
    (λ (end : End). DocumentsEnd docs end.status end.text.items)
    (λ end is. documents_linked docs end.status end.text.items d c.in-Ok.ensures.linked is)
    (subst (λ scripts. IfOk c.begun_end-end.result (λ (end : End). BegunEnds d docs.saved scripts end.status end.text.items)) c.as_slice.ensures c.begun_end-end.ensures.ends)
