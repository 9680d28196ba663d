use Rattle.path_search.proofs.NodeLaunches.{setup_within, hold_within, apart_within, apart_as, apart_fits}
use Rattle.path_search.proofs.lows.low_apart.Goals as goal

pub moved-requires-clause-sep : goal.moved-requires-clause-sep
moved-requires-clause-sep c =
    apart_within c.args.store.now.design c.laws.ensures.linked c.args.kind c.args.edge.clock c.args.test.now.test.capture_clock c.args.edge.tran c.args.test.now.test.capture_tran
    c.clock_at-from.result.now c.clock_at-to.result.now c.clock_at-from.ensures.there c.clock_at-to.ensures.there c.separation-apart.result.0 c.separation-apart.ensures

pub moved-requires-clause-setup_cycles : goal.moved-requires-clause-setup_cycles
moved-requires-clause-setup_cycles c =
    setup_within c.args.store.now.design c.laws.ensures.linked c.args.kind c.args.edge.clock c.args.test.now.test.capture_clock c.args.edge.tran c.args.test.now.test.capture_tran
    c.clock_at-from.result.now c.clock_at-to.result.now c.clock_at-from.ensures.there c.clock_at-to.ensures.there c.args.rule.setup_cycles c.requires.setup

pub moved-requires-clause-hold_cycles : goal.moved-requires-clause-hold_cycles
moved-requires-clause-hold_cycles c =
    hold_within c.args.store.now.design c.laws.ensures.linked c.args.kind c.args.edge.clock c.args.test.now.test.capture_clock c.args.edge.tran c.args.test.now.test.capture_tran
    c.clock_at-from.result.now c.clock_at-to.result.now c.clock_at-from.ensures.there c.clock_at-to.ensures.there c.args.rule.hold_cycles c.requires.hold

pub returns-clause-value : goal.returns-clause-value
returns-clause-value c =
    apart_as c.args.store.now.design c.laws.ensures.linked c.args.kind c.args.edge.clock c.args.test.now.test.capture_clock c.args.edge.tran c.args.test.now.test.capture_tran
    c.clock_at-from.result.now c.clock_at-to.result.now c.clock_at-from.ensures.there c.clock_at-to.ensures.there c.separation-apart.result.0 c.moved.result.0
    c.args.rule.setup_cycles c.args.rule.hold_cycles c.separation-apart.ensures c.requires.setup c.requires.hold c.moved.ensures

pub returns-clause-bound : goal.returns-clause-bound
returns-clause-bound c =
    apart_fits c.args.store.now.design c.laws.ensures.linked c.args.kind c.args.edge.clock c.args.test.now.test.capture_clock c.args.edge.tran c.args.test.now.test.capture_tran
    c.clock_at-from.result.now c.clock_at-to.result.now c.clock_at-from.ensures.there c.clock_at-to.ensures.there c.separation-apart.result.0 c.moved.result.0
    c.args.rule.setup_cycles c.args.rule.hold_cycles c.separation-apart.ensures c.requires.setup c.requires.hold c.moved.ensures
