use Rattle.std.proofs.Common.{subst}
use Rattle.std.specs.Prelude.{IfOk}
use Rattle.eco_analysis.specs.Soundness.{IsFaultless}
use Rattle.shell_session.specs.Generating.{IsWholeLine, IsDocumentsLine}
use Rattle.shell_session.proofs.GeneratingLaws.{both}
use Rattle.shell_session.proofs.generating.documents_line.Goals as goal

pub returns-in-Ok : goal.returns-in-Ok
returns-in-Ok g c =
    let d = c.in-Ok.store.design in
    let docs = c.args.docs in
    both c.store_line-line.result (λ text. IsWholeLine d docs.scripts c.args.gates c.args.edits text.items) (λ text. IsFaultless d)
    (λ text. IsDocumentsLine docs c.args.gates c.args.edits text.items)
    (λ text line sound. (d, c.in-Ok.ensures.linked, sound, line))
    (subst (λ scripts. IfOk c.store_line-line.result (λ text. IsWholeLine d scripts c.args.gates c.args.edits text.items)) c.as_slice.ensures c.store_line-line.ensures.line)
    c.store_line-line.ensures.sound
