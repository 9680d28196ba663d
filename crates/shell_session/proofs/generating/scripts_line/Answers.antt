use Rattle.std.specs.Arc.{arc_value}
use Rattle.std.proofs.lemmas.Result.{IfOk-weaker}
use Rattle.shell_session.proofs.GeneratingLaws.{whole_line, faultless}
use Rattle.shell_session.proofs.generating.scripts_line.Goals as goal

pub returns-in-Ok-clause-line : goal.returns-in-Ok-clause-line
returns-in-Ok-clause-line g c =
    let version = arc_value c.args.version in
    let last = arc_value c.in-Ok.closed.last in
    let ensures = c.in-Ok.ensures in
    IfOk-weaker c.closed_line.result _ _
    (λ text left. whole_line version.origin version.first c.args.scripts.now last c.in-Ok.closed.transcripts c.args.gates c.args.edits text.items
    c.requires.first ensures.whole ensures.last ensures.first ensures.origin left)
    c.closed_line.ensures

pub returns-in-Ok-clause-sound : goal.returns-in-Ok-clause-sound
returns-in-Ok-clause-sound g c =
    IfOk-weaker c.closed_line.result _ _ (λ text left. faultless (arc_value c.args.version).origin (arc_value c.in-Ok.closed.last) c.in-Ok.ensures.last c.in-Ok.ensures.origin)
    c.closed_line.ensures
