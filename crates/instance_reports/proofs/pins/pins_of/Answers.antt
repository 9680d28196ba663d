use Rattle.std.proofs.Common.{List, map, ap, ◌∙◌}
use Rattle.timing_defs.specs.declared.library.CellPin.{CellPin}
use Rattle.timing_defs.specs.Netlist.{cell_pin}
use Rattle.timing_rules.specs.Connections.{pin_report}
use Rattle.instance_reports.proofs.PinLaws.{pins_told}
use Rattle.instance_reports.proofs.pins.pins_of.Goals as goal

pub returns : goal.returns
returns c =
    pins_told c.args.inst.now c.args.store.now.design c.args.cell.now c.in_ok-rows.rows c.in_order.result c.laws.ensures.linked c.requires
    (c.in_ok-rows.ensures ∙ ap (λ (ps : List CellPin). map (λ q. pin_report c.args.inst.now (cell_pin c.args.inst.now q)) ps) c.as_slice.ensures)
    c.in_order.ensures
