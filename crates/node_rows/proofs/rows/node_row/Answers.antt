use Rattle.timing_defs.specs.Netlist.{name_of}
use Rattle.node_rows.specs.Evaluation.{is_wide}
use Rattle.node_rows.proofs.AlongLaws.{pin_of_node}
use Rattle.store_pins.proofs.PinLaws.{pin_of_number}
use Rattle.node_rows.proofs.rows.node_row.Goals as goal

pub returns-in-Err-clause-err : goal.returns-in-Err-clause-err
returns-in-Err-clause-err c =
    λ row_of node is rows.
    c.fault_at.ensures (is_wide c.args.setting.now.store.now.design row_of node) (name_of node.pin)
    (pin_of_number c.args.setting.now.store.now c.laws.ensures.numbered c.laws.ensures.linked c.args.to.pin node.pin (pin_of_node c.args.setting.now.store.now c.args.to node is)).name
    (c.in-Err.ensures.err row_of node is rows)
