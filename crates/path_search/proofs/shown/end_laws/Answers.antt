use Rattle.path_search.proofs.SearchForms.{ends_as}
use Rattle.path_search.proofs.shown.end_laws.Goals as goal

pub returns : goal.returns
returns c =
    ends_as c.args.graph.now c.args.store.now c.requires.graph c.laws.ensures.numbered c.laws.ensures.linked c.laws-2.ensures c.args.kind c.args.endpoint.now c.args.search.now c.requires.search c.args.walk.now c.requires.walk c.args.ends c.requires.ends
