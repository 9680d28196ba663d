use Rattle.generated_runs.proofs.ScriptLaws.{IsReading}
use Rattle.generated_runs.proofs.scripts.read_scripts.Given as goal

abbrev pub invariant-loop-text : goal.invariant-loop-text
invariant-loop-text l = IsReading l.texts l.text-index l.all
