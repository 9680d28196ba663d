use Rattle.std.proofs.Common.{subst}
use Rattle.worst_walks.specs.Walks.{IsWorst}
use Rattle.path_search.specs.Ranks.{place_rank, places_before}
use Rattle.path_search.proofs.NearForms.{near_none_as, near_shown_as}
use Rattle.path_search.proofs.searching.shown_in.Goals as goal

pub worst_in-requires-clause-search : goal.worst_in-requires-clause-search
worst_in-requires-clause-search g c = c.requires.search.part

pub unreachable-requires : goal.unreachable-requires
unreachable-requires g c =
    near_none_as c.args.sources.now.graph.now c.args.sources.now.store.now c.requires.sources.graph c.laws.ensures.numbered c.laws.ensures.linked c.laws-2.ensures
    c.args.sources.now.kind c.args.endpoint.now c.args.least c.args.search.now c.requires.search c.requires.slack
    (subst (IsWorst (place_rank c.args.sources.now.store.now c.args.search.now.nodes) (places_before c.args.sources.now.graph.now c.args.search.now.nodes) c.args.search.now.cone)
    c.in-None.is c.in_ok-worst.ensures)

pub path_in-requires-clause-search : goal.path_in-requires-clause-search
path_in-requires-clause-search g c = c.requires.search.part

pub returns : goal.returns
returns g c =
    near_shown_as c.args.sources.now.graph.now c.args.sources.now.store.now c.requires.sources.graph c.laws.ensures.numbered c.laws.ensures.linked c.laws-2.ensures
    c.args.sources.now.kind c.args.endpoint.now c.args.least c.args.search.now c.requires.search c.requires.slack c.in-Some.walk
    (subst (IsWorst (place_rank c.args.sources.now.store.now c.args.search.now.nodes) (places_before c.args.sources.now.graph.now c.args.search.now.nodes) c.args.search.now.cone)
    c.in-Some.is c.in_ok-worst.ensures) c.path_in.result c.path_in.ensures
