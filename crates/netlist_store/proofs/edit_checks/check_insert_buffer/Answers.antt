use Rattle.std.proofs.Common.{sym, subst, ◌∙◌, ◌∷◌, ◌++◌, [], map, true, Option}
use Rattle.std.specs.Option.{option_map_or}
use Rattle.timing_defs.specs.declared.library.Cell.{Cell}
use Rattle.timing_defs.specs.declared.faults.Fault.{Fault}
use Rattle.timing_defs.specs.declared.faults.Fault.TheVariants.{PinsDiffer}
use Rattle.timing_defs.specs.Edits.{need_pin_inst, need_net, need_cell, need_sink, free_inst, free_net, unless, is_buffer, cell_for, sink_faults, first_fault}
use Rattle.netlist_store.specs.Applying.{IsChecked}
use Rattle.netlist_store.proofs.FaultLaws.{err_among, err_here, err_by, handed_on, past_cell, past_insts, first_after}
use Rattle.netlist_store.proofs.edit_checks.check_insert_buffer.Goals as goal

pub returns-in_err-check_pin_insts : goal.returns-in_err-check_pin_insts
returns-in_err-check_pin_insts c =
    handed_on c.from_residual.result c.in_err-check_pin_insts.field-0.0 (first_fault ((map (need_pin_inst c.args.store.now.design) c.args.sinks.now ++ need_net c.args.store.now.design c.args.net.now ∷ need_cell c.args.store.now.design c.args.cell.now ∷ map (need_sink c.args.store.now.design) c.args.sinks.now) ++ (free_inst c.args.store.now.design c.args.inst.now ∷ free_net c.args.store.now.design c.args.fresh.now ∷ unless (option_map_or is_buffer (cell_for c.args.store.now.design c.args.cell.now) true) (PinsDiffer c.args.inst.now) ∷ sink_faults c.args.store.now.design c.args.net.now [] c.args.sinks.now))) c.from_residual.ensures
    (err_among (map (need_pin_inst c.args.store.now.design) c.args.sinks.now ++ need_net c.args.store.now.design c.args.net.now ∷ need_cell c.args.store.now.design c.args.cell.now ∷ map (need_sink c.args.store.now.design) c.args.sinks.now) (free_inst c.args.store.now.design c.args.inst.now ∷ free_net c.args.store.now.design c.args.fresh.now ∷ unless (option_map_or is_buffer (cell_for c.args.store.now.design c.args.cell.now) true) (PinsDiffer c.args.inst.now) ∷ sink_faults c.args.store.now.design c.args.net.now [] c.args.sinks.now) c.in_err-check_pin_insts.field-0.0
    (err_among (map (need_pin_inst c.args.store.now.design) c.args.sinks.now) (need_net c.args.store.now.design c.args.net.now ∷ need_cell c.args.store.now.design c.args.cell.now ∷ map (need_sink c.args.store.now.design) c.args.sinks.now) c.in_err-check_pin_insts.field-0.0 c.in_err-check_pin_insts.ensures.checked))

pub returns-in_err-needed_net : goal.returns-in_err-needed_net
returns-in_err-needed_net c =
    handed_on c.from_residual-in_err-needed_net.result c.in_err-needed_net.field-0.0 (first_fault ((map (need_pin_inst c.args.store.now.design) c.args.sinks.now ++ need_net c.args.store.now.design c.args.net.now ∷ need_cell c.args.store.now.design c.args.cell.now ∷ map (need_sink c.args.store.now.design) c.args.sinks.now) ++ (free_inst c.args.store.now.design c.args.inst.now ∷ free_net c.args.store.now.design c.args.fresh.now ∷ unless (option_map_or is_buffer (cell_for c.args.store.now.design c.args.cell.now) true) (PinsDiffer c.args.inst.now) ∷ sink_faults c.args.store.now.design c.args.net.now [] c.args.sinks.now))) c.from_residual-in_err-needed_net.ensures
    (err_by ((map (need_pin_inst c.args.store.now.design) c.args.sinks.now ++ need_net c.args.store.now.design c.args.net.now ∷ need_cell c.args.store.now.design c.args.cell.now ∷ map (need_sink c.args.store.now.design) c.args.sinks.now) ++ (free_inst c.args.store.now.design c.args.inst.now ∷ free_net c.args.store.now.design c.args.fresh.now ∷ unless (option_map_or is_buffer (cell_for c.args.store.now.design c.args.cell.now) true) (PinsDiffer c.args.inst.now) ∷ sink_faults c.args.store.now.design c.args.net.now [] c.args.sinks.now)) (need_net c.args.store.now.design c.args.net.now ∷ need_cell c.args.store.now.design c.args.cell.now ∷ (map (need_sink c.args.store.now.design) c.args.sinks.now ++ (free_inst c.args.store.now.design c.args.inst.now ∷ free_net c.args.store.now.design c.args.fresh.now ∷ unless (option_map_or is_buffer (cell_for c.args.store.now.design c.args.cell.now) true) (PinsDiffer c.args.inst.now) ∷ sink_faults c.args.store.now.design c.args.net.now [] c.args.sinks.now))) c.in_err-needed_net.field-0.0
    (past_insts (map (need_pin_inst c.args.store.now.design) c.args.sinks.now) (map (need_sink c.args.store.now.design) c.args.sinks.now) (free_inst c.args.store.now.design c.args.inst.now ∷ free_net c.args.store.now.design c.args.fresh.now ∷ unless (option_map_or is_buffer (cell_for c.args.store.now.design c.args.cell.now) true) (PinsDiffer c.args.inst.now) ∷ sink_faults c.args.store.now.design c.args.net.now [] c.args.sinks.now) (need_net c.args.store.now.design c.args.net.now) (need_cell c.args.store.now.design c.args.cell.now) c.in_ok-check_pin_insts.ensures.checked)
    (err_here (need_net c.args.store.now.design c.args.net.now) (need_cell c.args.store.now.design c.args.cell.now ∷ (map (need_sink c.args.store.now.design) c.args.sinks.now ++ (free_inst c.args.store.now.design c.args.inst.now ∷ free_net c.args.store.now.design c.args.fresh.now ∷ unless (option_map_or is_buffer (cell_for c.args.store.now.design c.args.cell.now) true) (PinsDiffer c.args.inst.now) ∷ sink_faults c.args.store.now.design c.args.net.now [] c.args.sinks.now))) c.in_err-needed_net.field-0.0 c.in_err-needed_net.ensures.checked))

pub returns-in_err-found : goal.returns-in_err-found
returns-in_err-found c =
    handed_on c.from_residual-in_err-found.result c.in_err-found.field-0.0 (first_fault ((map (need_pin_inst c.args.store.now.design) c.args.sinks.now ++ need_net c.args.store.now.design c.args.net.now ∷ need_cell c.args.store.now.design c.args.cell.now ∷ map (need_sink c.args.store.now.design) c.args.sinks.now) ++ (free_inst c.args.store.now.design c.args.inst.now ∷ free_net c.args.store.now.design c.args.fresh.now ∷ unless (option_map_or is_buffer (cell_for c.args.store.now.design c.args.cell.now) true) (PinsDiffer c.args.inst.now) ∷ sink_faults c.args.store.now.design c.args.net.now [] c.args.sinks.now))) c.from_residual-in_err-found.ensures
    (err_by ((map (need_pin_inst c.args.store.now.design) c.args.sinks.now ++ need_net c.args.store.now.design c.args.net.now ∷ need_cell c.args.store.now.design c.args.cell.now ∷ map (need_sink c.args.store.now.design) c.args.sinks.now) ++ (free_inst c.args.store.now.design c.args.inst.now ∷ free_net c.args.store.now.design c.args.fresh.now ∷ unless (option_map_or is_buffer (cell_for c.args.store.now.design c.args.cell.now) true) (PinsDiffer c.args.inst.now) ∷ sink_faults c.args.store.now.design c.args.net.now [] c.args.sinks.now)) (need_cell c.args.store.now.design c.args.cell.now ∷ (map (need_sink c.args.store.now.design) c.args.sinks.now ++ (free_inst c.args.store.now.design c.args.inst.now ∷ free_net c.args.store.now.design c.args.fresh.now ∷ unless (option_map_or is_buffer (cell_for c.args.store.now.design c.args.cell.now) true) (PinsDiffer c.args.inst.now) ∷ sink_faults c.args.store.now.design c.args.net.now [] c.args.sinks.now))) c.in_err-found.field-0.0
    (past_insts (map (need_pin_inst c.args.store.now.design) c.args.sinks.now) (map (need_sink c.args.store.now.design) c.args.sinks.now) (free_inst c.args.store.now.design c.args.inst.now ∷ free_net c.args.store.now.design c.args.fresh.now ∷ unless (option_map_or is_buffer (cell_for c.args.store.now.design c.args.cell.now) true) (PinsDiffer c.args.inst.now) ∷ sink_faults c.args.store.now.design c.args.net.now [] c.args.sinks.now) (need_net c.args.store.now.design c.args.net.now) (need_cell c.args.store.now.design c.args.cell.now) c.in_ok-check_pin_insts.ensures.checked ∙ first_after (need_net c.args.store.now.design c.args.net.now) (need_cell c.args.store.now.design c.args.cell.now ∷ (map (need_sink c.args.store.now.design) c.args.sinks.now ++ (free_inst c.args.store.now.design c.args.inst.now ∷ free_net c.args.store.now.design c.args.fresh.now ∷ unless (option_map_or is_buffer (cell_for c.args.store.now.design c.args.cell.now) true) (PinsDiffer c.args.inst.now) ∷ sink_faults c.args.store.now.design c.args.net.now [] c.args.sinks.now))) c.in_ok-needed_net.ensures.checked)
    (err_here (need_cell c.args.store.now.design c.args.cell.now) (map (need_sink c.args.store.now.design) c.args.sinks.now ++ (free_inst c.args.store.now.design c.args.inst.now ∷ free_net c.args.store.now.design c.args.fresh.now ∷ unless (option_map_or is_buffer (cell_for c.args.store.now.design c.args.cell.now) true) (PinsDiffer c.args.inst.now) ∷ sink_faults c.args.store.now.design c.args.net.now [] c.args.sinks.now)) c.in_err-found.field-0.0 c.in_err-found.ensures.checked))

pub returns : goal.returns
returns c =
    subst (λ (o : Option Fault). IsChecked c.check_buffer_sinks.result o)
    (sym (past_cell (map (need_pin_inst c.args.store.now.design) c.args.sinks.now) (map (need_sink c.args.store.now.design) c.args.sinks.now) (free_inst c.args.store.now.design c.args.inst.now ∷ free_net c.args.store.now.design c.args.fresh.now ∷ unless (option_map_or is_buffer (cell_for c.args.store.now.design c.args.cell.now) true) (PinsDiffer c.args.inst.now) ∷ sink_faults c.args.store.now.design c.args.net.now [] c.args.sinks.now) (need_net c.args.store.now.design c.args.net.now) (need_cell c.args.store.now.design c.args.cell.now) c.in_ok-check_pin_insts.ensures.checked c.in_ok-needed_net.ensures.checked c.in_ok-found.ensures.checked))
    (subst (λ (o : Option Cell). IsChecked c.check_buffer_sinks.result (first_fault (map (need_sink c.args.store.now.design) c.args.sinks.now ++ (free_inst c.args.store.now.design c.args.inst.now ∷ free_net c.args.store.now.design c.args.fresh.now ∷ unless (option_map_or is_buffer o true) (PinsDiffer c.args.inst.now) ∷ sink_faults c.args.store.now.design c.args.net.now [] c.args.sinks.now))))
    (sym c.in_ok-found.ensures.cell) c.check_buffer_sinks.ensures)
