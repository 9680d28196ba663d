use Rattle.path_search.proofs.SlackBounds.{setup_low, hold_low, apart_low, moved_within}
use Rattle.timed_paths.proofs.separations.moved_between.Goals as goal

pub moved-requires-clause-sep : goal.moved-requires-clause-sep
moved-requires-clause-sep c =
    apart_low c.args.store.now.design c.laws.ensures.linked c.args.kind c.args.launch.now c.args.capture.now c.args.launch.now.clock
    c.args.capture.now.clock c.args.from c.args.to c.clock_at-launching.result.now c.clock_at-capturing.result.now
    c.clock_at-launching.ensures.there c.clock_at-capturing.ensures.there c.args.rule c.requires.rule c.separation-apart.result.0 c.separation-apart.ensures

pub moved-requires-clause-setup_cycles : goal.moved-requires-clause-setup_cycles
moved-requires-clause-setup_cycles c =
    setup_low c.args.store.now.design c.laws.ensures.linked c.args.kind c.args.launch.now c.args.capture.now c.args.launch.now.clock
    c.args.capture.now.clock c.args.from c.args.to c.clock_at-launching.result.now c.clock_at-capturing.result.now
    c.clock_at-launching.ensures.there c.clock_at-capturing.ensures.there c.args.rule c.requires.rule

pub moved-requires-clause-hold_cycles : goal.moved-requires-clause-hold_cycles
moved-requires-clause-hold_cycles c =
    hold_low c.args.store.now.design c.laws.ensures.linked c.args.kind c.args.launch.now c.args.capture.now c.args.launch.now.clock
    c.args.capture.now.clock c.args.from c.args.to c.clock_at-launching.result.now c.clock_at-capturing.result.now
    c.clock_at-launching.ensures.there c.clock_at-capturing.ensures.there c.args.rule c.requires.rule

pub returns-clause-bound : goal.returns-clause-bound
returns-clause-bound c =
    moved_within c.args.store.now.design c.laws.ensures.linked c.args.kind c.args.launch.now c.args.capture.now c.args.launch.now.clock
    c.args.capture.now.clock c.args.from c.args.to c.clock_at-launching.result.now c.clock_at-capturing.result.now
    c.clock_at-launching.ensures.there c.clock_at-capturing.ensures.there c.args.rule c.requires.rule c.separation-apart.result.0 c.moved.result.0
    c.separation-apart.ensures c.moved.ensures
