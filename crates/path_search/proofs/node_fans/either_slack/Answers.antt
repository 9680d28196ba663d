use Rattle.path_search.proofs.NodeForms.{both_found}
use Rattle.path_search.proofs.node_fans.either_slack.Goals as goal

pub least_of_two-requires-clause-one : goal.least_of_two-requires-clause-one
least_of_two-requires-clause-one g c = c.in_ok-rise.ensures.bounded

pub least_of_two-requires-clause-other : goal.least_of_two-requires-clause-other
least_of_two-requires-clause-other g c = c.in_ok-fall.ensures.bounded

pub returns : goal.returns
returns g c =
    both_found _ _ _ _ _ _ c.args.ends.rise c.args.ends.fall c.in_ok-rise.rise c.in_ok-fall.fall c.in_ok-rise.ensures.net c.in_ok-fall.ensures.net c.laws.ensures.numbered
    c.laws.ensures.linked c.laws-2.ensures c.least_of_two.result c.least_of_two.ensures
