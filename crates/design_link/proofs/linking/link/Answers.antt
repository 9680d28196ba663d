use Rattle.std.proofs.Common.{◌≡◌, ◌⊎◌, Err}
use Rattle.timing_defs.specs.declared.faults.Fault.TheVariants.{Memory}
use Rattle.timing_defs.specs.Edits.{linked}
use Rattle.design_link.proofs.LinkLaws.{short, is_linked, is_sized, is_joined, is_refused}
use Rattle.design_link.proofs.Results.{passed_up}
use Rattle.design_link.proofs.linking.link.Goals as goal

pub check_documents-requires : goal.check_documents-requires
check_documents-requires c = record { early = short c.args.early c.requires.has_early; late = short c.args.late c.requires.has_late }

pub of-requires : goal.of-requires
of-requires c = record {
  linked = is_linked c.args.early c.args.late c.args.netlist c.args.constraints c.args.parasitics c.requires c.in_ok-check_documents.ensures;
  sized = is_sized c.args.early c.args.late c.args.netlist c.args.constraints c.args.parasitics c.requires;
}

pub returns-clause-linked : goal.returns-clause-linked
returns-clause-linked c =
    is_joined c.args.early c.args.late c.args.netlist c.args.constraints c.args.parasitics c.requires c.in_ok-store.store.design c.in_ok-check_documents.ensures c.in_ok-store.ensures

pub returns-in_err-check_documents-clause-refused : goal.returns-in_err-check_documents-clause-refused
returns-in_err-check_documents-clause-refused c =
    passed_up c.from_residual.result c.in_err-check_documents.field-0.0
    (λ fault. (fault ≡ Memory) ⊎ (linked c.args.early c.args.late c.args.netlist c.args.constraints c.args.parasitics ≡ Err fault))
    c.from_residual.ensures.1
    (is_refused c.args.early c.args.late c.args.netlist c.args.constraints c.args.parasitics c.requires c.in_err-check_documents.field-0.0 c.in_err-check_documents.ensures)
