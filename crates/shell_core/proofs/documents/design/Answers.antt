use Rattle.std.proofs.Common.{◌∷◌, ◌∙◌, subst}
use Rattle.shell_core.specs.declared.documents.Role.TheVariants.{Sdc}
use Rattle.command_words.specs.Asked.{run_words}
use Rattle.shell_core.specs.Documents.{Stops}
use Rattle.shell_core.specs.Designs.{AreDesign, spef_sources, design_sources}
use Rattle.shell_core.proofs.Stopping.{handed_up, stops_rest}
use Rattle.shell_core.proofs.documents.design.Goals as goal

pub returns-in_err-design-clause-stop : goal.returns-in_err-design-clause-stop
returns-in_err-design-clause-stop g c =
    let docs = g.S.Shelf.holds c.args.shelf.now in
    let run = run_words c.args.run.now in
    let old = g.S.Shelf.faults c.args.shelf.now in
    let mid = g.S.Shelf.faults c.to_netlist.new.shelf in
    let new = g.S.Shelf.faults c.with_rest.new.shelf in
    let netted = c.in_ok-netted.netted in
    let read = c.in_ok-netted.ensures.libraries in
    handed_up c.from_residual-in_err-design.result c.in_err-design.field-0.0 (λ stop. Stops docs run old new (design_sources run) stop)
    c.from_residual-in_err-design.ensures.1
    (stops_rest docs run old mid new netted.libraries.early netted.libraries.late netted.netlist (Sdc ∷ spef_sources run) c.in_err-design.field-0.0
    read.0 read.1 c.in_ok-netted.ensures.netlist read.2
    (subst (λ d. Stops d run mid new (Sdc ∷ spef_sources run) c.in_err-design.field-0.0) c.to_netlist.ensures.map c.in_err-design.ensures.stop))

pub returns-clause-value : goal.returns-clause-value
returns-clause-value g c = (
  subst (λ d. AreDesign d (run_words c.args.run.now) c.in_ok-design.design) c.to_netlist.ensures.map c.in_ok-design.ensures.value.0,
  c.in_ok-design.ensures.value.1 ∙ c.in_ok-netted.ensures.libraries.2,
)
