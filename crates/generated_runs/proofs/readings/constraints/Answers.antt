use Rattle.std.proofs.Common.{◌≡◌, ◌∙◌, ap₂, List, ℕ, [], length}
use Rattle.timing_defs.specs.declared.library.Units.{Units}
use Rattle.sdc_reader.specs.Grammar.{events_of}
use Rattle.sdc_reader.specs.Faults.{faults_of}
use Rattle.sdc_reader.specs.Meaning.{constraints_of}
use Rattle.generated_runs.proofs.Faultless.{never_told}
use Rattle.generated_runs.proofs.readings.constraints.Goals as goal

pub unreachable-requires : goal.unreachable-requires
unreachable-requires c =
    let none : faults_of (length c.args.text.now) c.in_ok-units.units (events_of c.args.text.now) ≡ [] =
    ap₂ (λ (text : List ℕ) (units : Units). faults_of (length text) units (events_of text)) c.requires.text c.in_ok-units.ensures ∙ c.constraints_read_back.ensures.faults in
    never_told c.in-Err-At.field-0-0 c.in-Err-At.field-0-1 (faults_of (length c.args.text.now) c.in_ok-units.units (events_of c.args.text.now)) none
    (rw c.in-Err-At.field-0-is at c.in-Err-At.ensures.value)

pub returns-in-Ok-clause-value : goal.returns-in-Ok-clause-value
returns-in-Ok-clause-value c =
    c.in-Ok.ensures.value.1 ∙ ap₂ (λ (text : List ℕ) (units : Units). constraints_of units (events_of text)) c.requires.text c.in_ok-units.ensures
    ∙ c.constraints_read_back.ensures.constraints
