use Rattle.std.proofs.Common.{◌∙◌, ap, sym, subst}
use Rattle.script_reader.specs.Scripts.{script_of}
use Rattle.generated_runs.specs.Generated.{IsFine}
use Rattle.generated_runs.proofs.ScriptLaws.{text_fine, reading_more}
use Rattle.generated_runs.proofs.scripts.read_scripts.Goals as goal

pub script-requires : goal.script-requires
script-requires c =
    subst IsFine (sym c.as_slice.ensures)
    (text_fine c.args.texts.now c.loop-text.text-index c.text-item.result c.loop-text.invariant.fine c.loop-text-test.true c.text-item.is)

pub loop-text-preserved : goal.loop-text-preserved
loop-text-preserved c =
    rw c.in_ok-push.ensures.ok
    (reading_more c.args.texts.now c.loop-text.text-index c.text-item.result c.loop-text.all c.in_ok-script.script c.loop-text.invariant c.loop-text-test.true c.text-item.is
    (ap script_of (sym c.as_slice.ensures) ∙ c.in_ok-script.ensures))
