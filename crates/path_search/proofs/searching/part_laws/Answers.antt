use Rattle.path_search.proofs.SearchForms.{search_as}
use Rattle.path_search.proofs.searching.part_laws.Goals as goal

pub returns : goal.returns
returns c =
    search_as c.args.graph.now c.args.store.now c.requires.graph c.laws.ensures.numbered c.laws.ensures.linked c.laws-2.ensures c.args.kind c.args.endpoint.now c.args.search.now c.requires.search
