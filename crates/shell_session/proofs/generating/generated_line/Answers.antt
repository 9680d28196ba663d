use Rattle.std.proofs.lemmas.Result.{IfOk-weaker}
use Rattle.shell_session.specs.Generating.{IsDocumentsLine, IsSummary}
use Rattle.shell_session.proofs.GeneratingLaws.{summary, four_scripts}
use Rattle.shell_session.proofs.generating.generated_line.Goals as goal

pub documents_line-requires-clause-count : goal.documents_line-requires-clause-count
documents_line-requires-clause-count g c κs within =
    four_scripts c.in-Ok.docs c.args.start c.args.gates c.args.edits c.in-Ok.ensures.value

pub returns-in-Ok : goal.returns-in-Ok
returns-in-Ok g c =
    IfOk-weaker c.documents_line.result (λ text. IsDocumentsLine c.in-Ok.docs c.args.gates c.args.edits text.items)
    (λ text. IsSummary c.args.start c.args.gates c.args.edits text.items)
    (λ text line. summary c.in-Ok.docs c.args.start c.args.gates c.args.edits text.items c.in-Ok.ensures.value line)
    c.documents_line.ensures
