use Rattle.netlist_store.proofs.PinTables.{row_added, names_kept, added_filled, added_follows}
use Rattle.netlist_store.proofs.pin_tables.add_pin.Goals as goal

pub returns-clause-rows : goal.returns-clause-rows
returns-clause-rows c = row_added c.args.rows.now c.put_row.new.rows c.in_ok-made.made.1 c.args.row c.in_ok-put_row.ensures.here c.in_ok-put_row.ensures.kept c.args.names c.in_ok-made.made.0 c.laws.ensures c.laws-2.ensures c.requires.filled c.args.name c.in_ok-made.ensures.added c.in_ok-made.ensures.gap c.in_ok-made.ensures.within c.requires.new

pub returns-clause-kept : goal.returns-clause-kept
returns-clause-kept c = names_kept c.args.rows.now c.put_row.new.rows c.in_ok-made.made.1 c.args.row c.in_ok-put_row.ensures.here c.in_ok-put_row.ensures.kept c.args.names c.in_ok-made.made.0 c.laws.ensures c.laws-2.ensures c.requires.filled c.args.name c.in_ok-made.ensures.added c.in_ok-made.ensures.gap c.in_ok-made.ensures.within c.requires.new

pub returns-clause-follows : goal.returns-clause-follows
returns-clause-follows c = added_follows c.args.rows.now c.put_row.new.rows c.in_ok-made.made.1 c.args.row c.in_ok-put_row.ensures.here c.in_ok-put_row.ensures.kept c.args.names c.in_ok-made.made.0 c.laws.ensures c.laws-2.ensures c.requires.filled c.args.name c.in_ok-made.ensures.added c.in_ok-made.ensures.gap c.in_ok-made.ensures.within c.requires.new c.args.base.now c.requires.follows c.in_ok-made.ensures.kept

pub returns-clause-filled : goal.returns-clause-filled
returns-clause-filled c = added_filled c.args.rows.now c.put_row.new.rows c.in_ok-made.made.1 c.args.row c.in_ok-put_row.ensures.here c.in_ok-put_row.ensures.kept c.args.names c.in_ok-made.made.0 c.laws.ensures c.laws-2.ensures c.requires.filled c.args.name c.in_ok-made.ensures.added c.in_ok-made.ensures.gap c.in_ok-made.ensures.within c.requires.new
