use Rattle.std.proofs.Common.{◌∷◌, [], subst}
use Rattle.shell_core.specs.declared.documents.Role.TheVariants.{Early, Late, Netlist}
use Rattle.command_words.specs.Asked.{run_words}
use Rattle.shell_core.specs.Documents.{Stops}
use Rattle.shell_core.proofs.Stopping.{handed_up, stops_netlist}
use Rattle.shell_core.proofs.documents.to_netlist.Goals as goal

pub returns-in_err-netted-clause-stop : goal.returns-in_err-netted-clause-stop
returns-in_err-netted-clause-stop g c =
    let docs = g.S.Shelf.holds c.args.shelf.now in
    let run = run_words c.args.run.now in
    let old = g.S.Shelf.faults c.args.shelf.now in
    let mid = g.S.Shelf.faults c.read_libraries.new.shelf in
    let new = g.S.Shelf.faults c.with_netlist.new.shelf in
    let read = c.in_ok-libraries.ensures.value in
    handed_up c.from_residual-in_err-netted.result c.in_err-netted.field-0.0 (λ stop. Stops docs run old new (Early ∷ Late ∷ Netlist ∷ []) stop)
    c.from_residual-in_err-netted.ensures.1
    (stops_netlist docs run old mid new c.in_ok-libraries.libraries.early c.in_ok-libraries.libraries.late c.in_err-netted.field-0.0 read.0 read.1 read.2
    (subst (λ d. Stops d run mid new (Netlist ∷ []) c.in_err-netted.field-0.0) c.read_libraries.ensures.map c.in_err-netted.ensures.stop))
