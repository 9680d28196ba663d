use Rattle.std.proofs.Common.{◌≡◌, ◌∙◌, ap, []}
use Rattle.liberty_cells.specs.Faults.{faults_of, library_of_text}
use Rattle.generated_runs.proofs.Faultless.{never_told}
use Rattle.generated_runs.proofs.readings.library.Goals as goal

pub unreachable-requires : goal.unreachable-requires
unreachable-requires c =
    let none : faults_of c.args.text.now ≡ [] = ap faults_of c.requires.text ∙ c.library_read_back.ensures.faults in
    never_told c.in-Err-At.field-0-0 c.in-Err-At.field-0-1 (faults_of c.args.text.now) none (rw c.in-Err-At.field-0-is at c.in-Err-At.ensures.value)

pub returns-in-Ok-clause-value : goal.returns-in-Ok-clause-value
returns-in-Ok-clause-value c = c.in-Ok.ensures.value.1 ∙ ap library_of_text c.requires.text ∙ c.library_read_back.ensures.library
