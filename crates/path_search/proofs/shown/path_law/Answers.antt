use Rattle.std.proofs.Common.{refl}
use Rattle.path_search.proofs.SearchForms.{path_as}
use Rattle.path_search.proofs.shown.path_law.Goals as goal

pub returns : goal.returns
returns c =
    path_as c.args.graph.now c.args.store.now c.requires.graph c.laws.ensures.numbered c.laws.ensures.linked c.laws-2.ensures c.args.kind c.args.endpoint.now c.args.search.now c.requires.search c.args.walk.now c.requires.walk c.args.ends c.requires.ends c.args.counted.now c.requires.counted
    c.args.first c.args.rest.now c.requires.whole c.args.path.now.nodes c.requires.nodes c.args.path.now refl c.requires.slack c.requires.credit c.requires.launch c.requires.capture
