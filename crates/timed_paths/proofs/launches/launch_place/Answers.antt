use Rattle.timed_paths.proofs.LaunchLaws.{place_more}
use Rattle.timed_paths.proofs.launches.launch_place.Goals as goal

pub loop-at-preserved : goal.loop-at-preserved
loop-at-preserved c =
    place_more c.args.store.now.design c.args.nodes.now c.loop-at.at c.index-nodes-at.result c.loop-at.launch c.next_launch-launch.result c.loop-at.auto.at c.loop-at-test.true
    c.index-nodes-at.is c.next_launch-launch.ensures c.loop-at.invariant
