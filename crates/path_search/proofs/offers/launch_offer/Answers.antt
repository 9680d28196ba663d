use Rattle.timing_defs.specs.Kinds.{data_split}
use Rattle.path_search.proofs.OfferForms.{launch_ready, launch_placed, tests_ready, tests_placed, offer_as}
use Rattle.path_search.proofs.offers.launch_offer.Goals as goal

pub least_slack-requires-clause-launch : goal.least_slack-requires-clause-launch
least_slack-requires-clause-launch g c =
    launch_ready c.args.sources.now.graph.now c.args.sources.now.store.now c.requires.sources.graph c.laws.ensures.numbered c.laws.ensures.linked c.laws-2.ensures c.args.sources.now.tree.now
    c.requires.sources.clocks (data_split c.args.sources.now.kind) c.args.node c.args.launch.now c.requires.launch

pub least_slack-requires-clause-launch_place : goal.least_slack-requires-clause-launch_place
least_slack-requires-clause-launch_place g c =
    launch_placed c.args.sources.now.graph.now c.args.sources.now.store.now c.requires.sources.graph c.laws.ensures.numbered c.laws.ensures.linked c.laws-2.ensures c.args.sources.now.tree.now
    c.requires.sources.clocks (data_split c.args.sources.now.kind) c.args.node c.args.launch.now c.requires.launch

pub least_slack-requires-clause-tests : goal.least_slack-requires-clause-tests
least_slack-requires-clause-tests g c =
    tests_ready c.args.sources.now.graph.now c.args.sources.now.store.now c.requires.sources.graph c.laws.ensures.numbered c.laws.ensures.linked c.laws-2.ensures c.args.sources.now.tree.now
    c.requires.sources.clocks c.args.sources.now.kind c.args.end c.args.tests.now c.requires.tests c.requires.there

pub least_slack-requires-clause-places : goal.least_slack-requires-clause-places
least_slack-requires-clause-places g c =
    tests_placed c.args.sources.now.graph.now c.args.sources.now.store.now c.requires.sources.graph c.laws.ensures.numbered c.laws.ensures.linked c.laws-2.ensures c.args.sources.now.tree.now
    c.requires.sources.clocks c.args.sources.now.kind c.args.end c.args.tests.now c.requires.tests c.requires.there

pub returns : goal.returns
returns g c =
    offer_as c.args.sources.now.graph.now c.args.sources.now.store.now c.requires.sources.graph c.laws.ensures.numbered c.laws.ensures.linked c.laws-2.ensures c.args.sources.now.tree.now
    c.requires.sources.clocks c.args.sources.now.kind c.args.end c.args.tests.now c.requires.tests c.requires.there c.args.node c.args.launch.now c.requires.launch
    c.least_slack.result c.least_slack.ensures.value c.least_slack.ensures.bound
