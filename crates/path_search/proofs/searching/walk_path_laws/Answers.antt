use Rattle.path_search.proofs.SearchForms.{search_as, walk_paths_as}
use Rattle.path_search.proofs.searching.walk_path_laws.Goals as goal

pub returns-clause-paths : goal.returns-clause-paths
returns-clause-paths c =
    walk_paths_as c.args.graph.now c.args.store.now c.requires.graph c.laws.ensures.numbered c.laws.ensures.linked c.laws-2.ensures c.args.kind c.args.endpoint.now c.args.search.now c.requires.search

pub returns-clause-search : goal.returns-clause-search
returns-clause-search c =
    search_as c.args.graph.now c.args.store.now c.requires.graph c.laws.ensures.numbered c.laws.ensures.linked c.laws-2.ensures c.args.kind c.args.endpoint.now c.args.search.now c.requires.search.part
