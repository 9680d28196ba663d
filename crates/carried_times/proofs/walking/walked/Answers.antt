use Rattle.carried_times.proofs.Passing.{told_step}
use Rattle.carried_times.proofs.walking.walked.Goals as goal

pub loop-node-preserved : goal.loop-node-preserved
loop-node-preserved g c =
    told_step c.args.before.now c.args.after.now c.args.nodes.now.keys c.args.graph.now c.args.seeds.now.keys c.loop-node.times c.push.new.self c.as_slice.result.now
    c.as_slice-node-items.result.now c.loop-node.node-index _ c.in-Some.found c.as_slice-node-items.ensures.keys c.loop-node-test.true c.loop-node.invariant.0 c.loop-node.invariant.1
    c.as_slice.ensures c.in-Some.ensures c.in_ok-push-in-Some.ensures.ok
