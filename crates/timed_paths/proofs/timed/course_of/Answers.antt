use Rattle.std.proofs.Common.{◌≤◌, length, refl, arith}
use Rattle.timed_paths.proofs.CourseLaws.{held_some, course_is}
use Rattle.timed_paths.proofs.PathLaws.{nodes_some}
use Rattle.timed_paths.proofs.timed.course_of.Goals as goal

pub overflow_sub-at : goal.overflow_sub-at
overflow_sub-at g c =
    held_some c.args.sources.now.store.now c.args.sources.now.kind c.args.path.now c.requires.path c.as_slice-nodes.result.now c.as_slice-nodes.ensures

pub bounds-nodes-at : goal.bounds-nodes-at
bounds-nodes-at g c =
    let some = held_some c.args.sources.now.store.now c.args.sources.now.kind c.args.path.now c.requires.path c.as_slice-nodes.result.now c.as_slice-nodes.ensures in omega (arith, some)

pub launch_of-requires-clause-some : goal.launch_of-requires-clause-some
launch_of-requires-clause-some g c =
    nodes_some c.args.sources.now.store.now.design c.args.sources.now.kind c.args.path.now c.requires.path.test c.requires.path.holds

pub returns : goal.returns
returns g c =
    course_is c.args.sources.now.store.now c.args.sources.now.kind c.args.path.now c.requires.path c.as_slice-nodes.result.now c.as_slice-nodes.ensures
    c.index-nodes-at.result c.index-nodes-at.is c.args.sources.now.graph.now c.requires.sources.graph _ c.in_ok-launch.ensures c.in_ok-pin.ensures refl c.in_ok-numbers.ensures
