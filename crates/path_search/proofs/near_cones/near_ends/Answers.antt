use Rattle.path_search.proofs.NearForms.{near_found_as}
use Rattle.path_search.proofs.near_cones.near_ends.Goals as goal

pub least_near-requires-clause-one : goal.least_near-requires-clause-one
least_near-requires-clause-one g c = c.in_ok-rise.ensures.bounded

pub least_near-requires-clause-other : goal.least_near-requires-clause-other
least_near-requires-clause-other g c = c.in_ok-fall.ensures.bounded

pub returns : goal.returns
returns g c =
    near_found_as _ _ _ _ _ _ c.args.ends c.in_ok-rise.rise c.in_ok-fall.fall c.in_ok-rise.ensures.net c.in_ok-fall.ensures.net c.laws.ensures.numbered
    c.laws.ensures.linked c.laws-2.ensures c.least_near.result c.least_near.ensures
