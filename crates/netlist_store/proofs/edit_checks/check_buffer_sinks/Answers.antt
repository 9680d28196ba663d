use Rattle.std.proofs.Common.{sym, subst, ◌∷◌, ◌++◌, [], map, Option}
use Rattle.timing_defs.specs.declared.faults.Fault.{Fault}
use Rattle.timing_defs.specs.declared.faults.Fault.TheVariants.{PinsDiffer}
use Rattle.timing_defs.specs.Edits.{need_sink, free_inst, free_net, unless, is_buffer, sink_faults, first_fault}
use Rattle.netlist_store.specs.Applying.{IsChecked}
use Rattle.netlist_store.proofs.FaultLaws.{first_later, err_among, handed_on}
use Rattle.netlist_store.proofs.edit_checks.check_buffer_sinks.Goals as goal

pub returns : goal.returns
returns c =
    subst (λ (o : Option Fault). IsChecked c.check_buffer_added.result o)
    (sym (first_later (map (need_sink c.args.store.now.design) c.args.sinks.now)
    (free_inst c.args.store.now.design c.args.inst.now ∷ free_net c.args.store.now.design c.args.fresh.now
    ∷ unless (is_buffer c.args.cell.now) (PinsDiffer c.args.inst.now) ∷ sink_faults c.args.store.now.design c.args.net.now [] c.args.sinks.now)
    c.in_ok-check_sinks.ensures.checked)) c.check_buffer_added.ensures

pub returns-in_err-check_sinks : goal.returns-in_err-check_sinks
returns-in_err-check_sinks c =
    handed_on c.from_residual.result c.in_err-check_sinks.field-0.0 (first_fault (map (need_sink c.args.store.now.design) c.args.sinks.now ++ (free_inst c.args.store.now.design c.args.inst.now ∷ free_net c.args.store.now.design c.args.fresh.now ∷ unless (is_buffer c.args.cell.now) (PinsDiffer c.args.inst.now) ∷ sink_faults c.args.store.now.design c.args.net.now [] c.args.sinks.now))) c.from_residual.ensures
    (err_among (map (need_sink c.args.store.now.design) c.args.sinks.now) (free_inst c.args.store.now.design c.args.inst.now ∷ free_net c.args.store.now.design c.args.fresh.now ∷ unless (is_buffer c.args.cell.now) (PinsDiffer c.args.inst.now) ∷ sink_faults c.args.store.now.design c.args.net.now [] c.args.sinks.now) c.in_err-check_sinks.field-0.0 c.in_err-check_sinks.ensures.checked)
