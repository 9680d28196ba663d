use Rattle.path_search.proofs.NodeForms.{pin_as}
use Rattle.path_search.proofs.searching.slack_law.Goals as goal

pub returns : goal.returns
returns c =
    pin_as c.args.graph.now c.args.store.now c.requires.graph c.laws.ensures.numbered c.laws.ensures.linked c.laws-2.ensures c.args.kind c.args.endpoint.now c.args.ends c.requires.ends
    c.args.slack c.requires.slack
