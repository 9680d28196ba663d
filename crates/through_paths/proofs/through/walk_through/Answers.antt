use Rattle.through_paths.proofs.ThroughPaths.{found_as}
use Rattle.through_paths.proofs.through.walk_through.Goals as goal

pub returns : goal.returns
returns c =
    found_as c.through_walk.result c.args.store.now c.args.graph.now c.args.search.now c.args.pins.now c.requires.graph c.as_slice.result.now c.as_slice.ensures
    c.in_ok-wanted.wanted c.as_slice-2.result.now c.in_ok-wanted.ensures c.as_slice-2.ensures
    c.in_ok-stops.stops c.as_slice-3.result.now c.in_ok-stops.ensures c.as_slice-3.ensures
    c.in_ok-begun.begun.items c.deref.result.now c.in_ok-begun.ensures c.deref.ensures.value c.through_walk.ensures
