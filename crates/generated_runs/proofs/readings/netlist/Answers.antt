use Rattle.std.proofs.Common.{◌≡◌, ◌∙◌, ap, sym, []}
use Rattle.std.specs.Prelude.{unwrap_or}
use Rattle.verilog_netlist.specs.Grammar.{events_of}
use Rattle.verilog_netlist.specs.Faults.{faults_of}
use Rattle.verilog_netlist.specs.Modules.{module_of}
use Rattle.generated_runs.proofs.Faultless.{never_told}
use Rattle.generated_runs.proofs.readings.netlist.Goals as goal

pub unreachable-requires : goal.unreachable-requires
unreachable-requires c =
    let none : faults_of (events_of c.args.text.now) ≡ [] =
    ap (λ text. faults_of (events_of text)) c.requires.text ∙ c.generated_netlist_read_back.ensures.faults c.args.start c.args.gates c.requires.few in
    never_told c.in-Err-At.field-0-0 c.in-Err-At.field-0-1 (faults_of (events_of c.args.text.now)) none (rw c.in-Err-At.field-0-is at c.in-Err-At.ensures.value)

pub returns-in-Ok-clause-value : goal.returns-in-Ok-clause-value
returns-in-Ok-clause-value c =
    ap (λ found. unwrap_or found c.in-Ok.module)
    (sym c.in-Ok.ensures.value.1 ∙ ap (λ text. module_of (events_of text)) c.requires.text ∙ c.generated_netlist_read_back.ensures.module c.args.start c.args.gates c.requires.few)
