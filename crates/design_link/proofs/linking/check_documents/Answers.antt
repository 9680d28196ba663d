use Rattle.std.proofs.Common.{◌∙◌, ap, sym, subst}
use Rattle.timing_defs.specs.Wires.{first_some}
use Rattle.timing_defs.specs.Edits.{link_inst, link_net, link_fault}
use Rattle.netlist_store.specs.Applying.{IsChecked}
use Rattle.design_link.proofs.LinkLaws.{first_stops, then_told, stops_same}
use Rattle.design_link.proofs.Results.{handed_on}
use Rattle.design_link.proofs.linking.check_documents.Goals as goal

pub returns-in_err-check_insts : goal.returns-in_err-check_insts
returns-in_err-check_insts c =
    handed_on c.from_residual.result c.in_err-check_insts.field-0.0 (link_fault c.args.early.now c.args.late.now c.args.netlist.now c.args.parasitics.now)
    c.from_residual.ensures.1
    (first_stops c.args.early.now c.args.late.now c.args.netlist.now c.args.parasitics.now c.in_err-check_insts.field-0.0
    (stops_same (first_some (link_inst c.args.early.now c.args.late.now) c.as_slice.result.now) (first_some (link_inst c.args.early.now c.args.late.now) c.args.netlist.now.insts)
    c.in_err-check_insts.field-0.0 (ap (first_some (link_inst c.args.early.now c.args.late.now)) c.as_slice.ensures) c.in_err-check_insts.ensures))

pub returns : goal.returns
returns c =
    then_told c.args.early.now c.args.late.now c.args.netlist.now c.args.parasitics.now c.check_rcs.result
    (sym (ap (first_some (link_inst c.args.early.now c.args.late.now)) c.as_slice.ensures) ∙ c.in_ok-check_insts.ensures)
    (subst (λ o. IsChecked c.check_rcs.result o)
    (ap (λ ns. first_some (link_net ns) c.as_slice-3.result.now) c.as_slice-2.ensures ∙ ap (first_some (link_net c.args.netlist.now.nets)) c.as_slice-3.ensures)
    c.check_rcs.ensures)
