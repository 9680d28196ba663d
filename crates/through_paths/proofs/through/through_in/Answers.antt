use Rattle.through_paths.proofs.ThroughPaths.{none_as, some_as}
use Rattle.through_paths.proofs.through.through_in.Goals as goal

pub returns-in-None : goal.returns-in-None
returns-in-None g c =
    none_as c.args.sources.now.store.now c.args.sources.now.graph.now c.requires.sources.graph c.laws.ensures.numbered c.args.sources.now.kind c.args.endpoint.now c.args.search.now
    c.walk_path_laws.ensures.paths c.walk_place_laws.ensures.places c.args.pins.now c.in_ok-walk_through.field-0 c.in_ok-walk_through.ensures c.in-None.is

pub returns-in_ok-path-in-Some : goal.returns-in_ok-path-in-Some
returns-in_ok-path-in-Some g c =
    some_as c.args.sources.now.store.now c.args.sources.now.graph.now c.requires.sources.graph c.laws.ensures.numbered c.args.sources.now.kind c.args.endpoint.now c.args.search.now
    c.walk_path_laws.ensures.paths c.walk_place_laws.ensures.places c.args.pins.now c.in_ok-walk_through.field-0 c.in_ok-walk_through.ensures c.in-Some.walk c.in-Some.is
    c.in_ok-path-in-Some.path c.in_ok-path-in-Some.ensures
