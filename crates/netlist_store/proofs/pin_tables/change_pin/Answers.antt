use Rattle.netlist_store.proofs.PinTables.{row_changed, changed_filled}
use Rattle.netlist_store.proofs.pin_tables.change_pin.Goals as goal

pub returns-clause-rows : goal.returns-clause-rows
returns-clause-rows c =
    row_changed c.args.rows.now c.put_row.new.rows c.args.number c.args.row c.in_ok-put_row.ensures.here c.in_ok-put_row.ensures.kept c.args.names.now c.laws.ensures
    c.requires.filled c.args.name.now c.requires.known

pub returns-clause-filled : goal.returns-clause-filled
returns-clause-filled c =
    changed_filled c.args.rows.now c.put_row.new.rows c.args.number c.args.row c.in_ok-put_row.ensures.here c.in_ok-put_row.ensures.kept c.args.names.now c.laws.ensures
    c.requires.filled c.args.name.now c.requires.known
