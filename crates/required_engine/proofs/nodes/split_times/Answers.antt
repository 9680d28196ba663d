use Rattle.std.proofs.Common.{refl}
use Rattle.timing_defs.specs.RowTimes.{times_in}
use Rattle.required_engine.specs.declared.arcs_out.ArcsOut.{ArcsOut}
use Rattle.required_engine.specs.Behinds.{over_behind}
use Rattle.required_engine.specs.declared.times.Behind.TheVariants.{Tests, Arcs}
use Rattle.required_engine.proofs.SplitLaws.{arcs_there, tests_found, arcs_found, times_given, near_given, unfit_given}
use Rattle.required_engine.proofs.nodes.split_times.Goals as goal

pub returns-then-node-clause-times : goal.returns-then-node-clause-times
returns-then-node-clause-times c =
    times_given c.args.split c.args.store.now c.args.node.now.number (over_behind c.args.store.now.design c.args.split (Tests c.args.tests))
    c.times_in-arrived.result.now (times_in c.args.split c.args.node.now.row.now) c.times_in-arrived.ensures
    (tests_found c.args.graph.now c.laws-2.ensures c.args.rows.now c.args.node.now c.requires.ready
    c.args.store.now c.requires.graph c.laws.ensures.numbered c.laws.ensures.linked c.requires.node c.requires.fine c.args.split c.requires.needs
    (over_behind c.args.store.now.design c.args.split (Tests c.args.tests)) c.args.tests.now c.requires.tests c.if-node.true (λ edge. refl))
    c.required_times.result c.required_times.ensures.times

pub returns-then-node-clause-fine : goal.returns-then-node-clause-fine
returns-then-node-clause-fine c =
    near_given c.args.split c.args.store.now c.args.node.now.number (over_behind c.args.store.now.design c.args.split (Tests c.args.tests))
    c.times_in-arrived.result.now (times_in c.args.split c.args.node.now.row.now) c.times_in-arrived.ensures
    (tests_found c.args.graph.now c.laws-2.ensures c.args.rows.now c.args.node.now c.requires.ready
    c.args.store.now c.requires.graph c.laws.ensures.numbered c.laws.ensures.linked c.requires.node c.requires.fine c.args.split c.requires.needs
    (over_behind c.args.store.now.design c.args.split (Tests c.args.tests)) c.args.tests.now c.requires.tests c.if-node.true (λ edge. refl))
    c.required_times.result c.required_times.ensures.fine

pub returns-then-node-clause-err : goal.returns-then-node-clause-err
returns-then-node-clause-err c =
    unfit_given c.args.split c.args.store.now c.args.node.now.number (over_behind c.args.store.now.design c.args.split (Tests c.args.tests))
    c.times_in-arrived.result.now (times_in c.args.split c.args.node.now.row.now) c.times_in-arrived.ensures
    (tests_found c.args.graph.now c.laws-2.ensures c.args.rows.now c.args.node.now c.requires.ready
    c.args.store.now c.requires.graph c.laws.ensures.numbered c.laws.ensures.linked c.requires.node c.requires.fine c.args.split c.requires.needs
    (over_behind c.args.store.now.design c.args.split (Tests c.args.tests)) c.args.tests.now c.requires.tests c.if-node.true (λ edge. refl))
    c.required_times.result c.required_times.ensures.err

pub required_times-requires-2 : goal.required_times-requires-2
required_times-requires-2 c =
    let out : ArcsOut = record { rows = c.args.rows; delays = c.args.delays; arcs = c.arcs_out.result } in
    arcs_there c.args.graph.now c.laws-2.ensures c.args.rows.now c.args.node.now c.requires.ready
    c.args.store.now c.requires.graph c.laws.ensures.numbered c.laws.ensures.linked c.requires.node out c.arcs_out.ensures refl c.requires.delays

pub returns-clause-times : goal.returns-clause-times
returns-clause-times c =
    let out : ArcsOut = record { rows = c.args.rows; delays = c.args.delays; arcs = c.arcs_out.result } in
    times_given c.args.split c.args.store.now c.args.node.now.number (over_behind c.args.store.now.design c.args.split (Arcs out))
    c.times_in-arrived.result.now (times_in c.args.split c.args.node.now.row.now) c.times_in-arrived.ensures
    (arcs_found c.args.graph.now c.laws-2.ensures c.args.rows.now c.args.node.now c.requires.ready
    c.args.store.now c.requires.graph c.laws.ensures.numbered c.laws.ensures.linked c.requires.node c.requires.fine c.args.split c.requires.needs
    (over_behind c.args.store.now.design c.args.split (Arcs out)) out c.arcs_out.ensures refl c.requires.delays c.if-node.false (λ edge. refl))
    c.required_times-2.result c.required_times-2.ensures.times

pub returns-clause-fine : goal.returns-clause-fine
returns-clause-fine c =
    let out : ArcsOut = record { rows = c.args.rows; delays = c.args.delays; arcs = c.arcs_out.result } in
    near_given c.args.split c.args.store.now c.args.node.now.number (over_behind c.args.store.now.design c.args.split (Arcs out))
    c.times_in-arrived.result.now (times_in c.args.split c.args.node.now.row.now) c.times_in-arrived.ensures
    (arcs_found c.args.graph.now c.laws-2.ensures c.args.rows.now c.args.node.now c.requires.ready
    c.args.store.now c.requires.graph c.laws.ensures.numbered c.laws.ensures.linked c.requires.node c.requires.fine c.args.split c.requires.needs
    (over_behind c.args.store.now.design c.args.split (Arcs out)) out c.arcs_out.ensures refl c.requires.delays c.if-node.false (λ edge. refl))
    c.required_times-2.result c.required_times-2.ensures.fine

pub returns-clause-err : goal.returns-clause-err
returns-clause-err c =
    let out : ArcsOut = record { rows = c.args.rows; delays = c.args.delays; arcs = c.arcs_out.result } in
    unfit_given c.args.split c.args.store.now c.args.node.now.number (over_behind c.args.store.now.design c.args.split (Arcs out))
    c.times_in-arrived.result.now (times_in c.args.split c.args.node.now.row.now) c.times_in-arrived.ensures
    (arcs_found c.args.graph.now c.laws-2.ensures c.args.rows.now c.args.node.now c.requires.ready
    c.args.store.now c.requires.graph c.laws.ensures.numbered c.laws.ensures.linked c.requires.node c.requires.fine c.args.split c.requires.needs
    (over_behind c.args.store.now.design c.args.split (Arcs out)) out c.arcs_out.ensures refl c.requires.delays c.if-node.false (λ edge. refl))
    c.required_times-2.result c.required_times-2.ensures.err
