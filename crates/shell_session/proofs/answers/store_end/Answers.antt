use Rattle.std.proofs.Common.{subst}
use Rattle.std.specs.Prelude.{IfOk}
use Rattle.shell_core.specs.declared.ends.End.{End}
use Rattle.shell_session.specs.Serving.{DesignEnds}
use Rattle.shell_session.proofs.answers.store_end.Goals as goal

pub returns-in-Ok-clause-ends : goal.returns-in-Ok-clause-ends
returns-in-Ok-clause-ends g c =
    subst (λ d. IfOk c.scripts_end.result (λ (end : End). DesignEnds d c.args.scripts.now end.status end.text.items)) c.in-Ok.ensures.origin
    c.scripts_end.ensures.answer
