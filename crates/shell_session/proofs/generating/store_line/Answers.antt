use Rattle.std.proofs.Common.{subst}
use Rattle.std.specs.Prelude.{IfOk}
use Rattle.eco_analysis.specs.Soundness.{IsFaultless}
use Rattle.shell_session.specs.Generating.{IsWholeLine}
use Rattle.shell_session.proofs.generating.store_line.Goals as goal

pub returns-in-Ok-clause-line : goal.returns-in-Ok-clause-line
returns-in-Ok-clause-line g c =
    subst (λ d. IfOk c.scripts_line.result (λ text. IsWholeLine d c.args.scripts.now c.args.gates c.args.edits text.items)) c.in-Ok.ensures.origin
    c.scripts_line.ensures.line

pub returns-in-Ok-clause-sound : goal.returns-in-Ok-clause-sound
returns-in-Ok-clause-sound g c =
    subst (λ d. IfOk c.scripts_line.result (λ text. IsFaultless d)) c.in-Ok.ensures.origin c.scripts_line.ensures.sound
