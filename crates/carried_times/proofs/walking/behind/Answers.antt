use Rattle.pin_graph.specs.NodeArcs.{none_arc}
use Rattle.carried_times.proofs.Passing.{passed_next, passed_none}
use Rattle.carried_times.proofs.walking.behind.Goals as goal

pub loop-arc-init : goal.loop-arc-init
loop-arc-init g c = passed_none c.args.before.now c.args.after.now c.args.nodes.now.keys c.args.times.now c.no_times-found.result

pub loop-arc-preserved : goal.loop-arc-preserved
loop-arc-preserved g c =
    passed_next c.args.before.now c.args.after.now c.args.nodes.now.keys c.args.times.now c.loop-arc.found c.in_ok-found.found c.args.arcs.now c.loop-arc.arc-index none_arc
    c.loop-arc-test.true c.loop-arc.invariant c.in_ok-found.ensures
