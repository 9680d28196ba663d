use Rattle.std.proofs.Common.{refl}
use Rattle.timed_paths.proofs.LaunchLaws.{launch_as}
use Rattle.timed_paths.proofs.launches.launch_of.Goals as goal

pub returns : goal.returns
returns c = λ n ms e.
    launch_as c.args.store.now.design c.args.path.now c.as_slice-nodes.result.now c.as_slice-nodes.ensures c.launch_place-place.result c.index-nodes-place.result
    c.launch_place-place.ensures.low c.index-nodes-place.is c.launch_place-place.ensures.place _ c.in_ok-pin.ensures c.in_ok-cell.ensures refl n ms e
