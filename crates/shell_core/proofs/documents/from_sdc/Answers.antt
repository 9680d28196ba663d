use Rattle.std.proofs.Common.{◌∙◌, subst}
use Rattle.command_words.specs.Asked.{run_words}
use Rattle.shell_core.specs.Documents.{AreParasitics}
use Rattle.shell_core.proofs.documents.from_sdc.Goals as goal

pub returns-in-Ok-clause-value : goal.returns-in-Ok-clause-value
returns-in-Ok-clause-value g c =
    let sdc = c.in_ok-sdc.ensures.value in
    let spef = c.in-Ok.ensures.value in (
      sdc.0,
      subst (λ docs. AreParasitics docs (run_words c.args.run.now) c.in-Ok.spef) c.sdc.ensures.map spef.0,
      spef.1 ∙ sdc.1,
    )
