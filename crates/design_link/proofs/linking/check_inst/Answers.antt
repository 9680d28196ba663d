use Rattle.std.proofs.Common.{◌∙◌, ap, sym, subst}
use Rattle.timing_defs.specs.Wires.{first_some}
use Rattle.timing_defs.specs.Edits.{link_pin}
use Rattle.netlist_store.specs.Applying.{IsChecked}
use Rattle.design_link.proofs.LinkLaws.{of_cell, of_no_cell}
use Rattle.design_link.proofs.linking.check_inst.Goals as goal

pub returns-in-Some : goal.returns-in-Some
returns-in-Some c = λ early all.
    subst (λ o. IsChecked c.check_conns.result o)
    (ap (first_some (link_pin c.args.inst.now.name c.in-Some.cell.now)) c.as_slice.ensures
    ∙ of_cell early c.args.late.now c.args.inst.now c.in-Some.cell.now (c.in-Some.ensures early all))
    c.check_conns.ensures

pub returns-in-None : goal.returns-in-None
returns-in-None c = λ early all.
    subst (λ o. IsChecked c.refuse_cell.result o) (sym (of_no_cell early c.args.late.now c.args.inst.now (c.in-None.ensures early all))) c.refuse_cell.ensures
