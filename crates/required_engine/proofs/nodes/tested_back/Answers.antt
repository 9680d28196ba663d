use Rattle.std.specs.Prelude.{◌||◌}
use Rattle.timing_defs.specs.declared.kinds.Split.TheVariants.{Early, Late}
use Rattle.node_tests.specs.NodeTests.{name_numbered}
use Rattle.required_engine.specs.Worked.{is_wide_back}
use Rattle.required_engine.proofs.SplitLaws.{row_found, time_refused, name_there}
use Rattle.required_engine.proofs.nodes.tested_back.Goals as goal

pub returns-in-Ok-clause-row : goal.returns-in-Ok-clause-row
returns-in-Ok-clause-row c =
    row_found c.args.graph.now c.args.store.now c.requires.graph c.laws-2.ensures c.laws.ensures.numbered c.laws.ensures.linked c.args.rows.now c.args.node.now.number
    c.requires.node.below c.requires.ready c.requires.fine c.requires.setup_needs c.requires.hold_needs c.in-Ok.ensures.fine c.in-Ok.row c.in-Ok.ensures.row

pub returns-in-Err-clause-err : goal.returns-in-Err-clause-err
returns-in-Err-clause-err c =
    time_refused c.args.store.now c.laws.ensures.numbered c.laws.ensures.linked c.args.node.now.number c.fault_at.result
    (c.fault_at.ensures (is_wide_back c.args.store.now Early c.args.node.now.number || is_wide_back c.args.store.now Late c.args.node.now.number)
    (name_numbered c.args.store.now c.args.node.now.number)
    (name_there c.args.store.now c.laws.ensures.numbered c.laws.ensures.linked c.args.node.now.number c.args.pin c.requires.pin)
    c.in-Err.ensures.err)
