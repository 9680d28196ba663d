use Rattle.std.proofs.Common.{Option, subst}
use Rattle.timing_defs.specs.Kinds.{data_split}
use Rattle.path_search.specs.declared.launches.LaunchNode.{LaunchNode}
use Rattle.path_search.specs.Slacks.{MayLaunch}
use Rattle.path_search.proofs.EndLaws.{rows_fine}
use Rattle.path_search.proofs.OfferForms.{none_as}
use Rattle.path_search.proofs.offers.node_offers.Goals as goal

pub launch_node-requires-clause-range : goal.launch_node-requires-clause-range
launch_node-requires-clause-range g c = rows_fine c.args.sources.now.store.now.design c.requires.sources.none

pub launch_offer-requires-clause-launch : goal.launch_offer-requires-clause-launch
launch_offer-requires-clause-launch g c =
    subst (λ (o : Option LaunchNode). MayLaunch c.args.sources.now.graph.now (data_split c.args.sources.now.kind) c.args.node o) c.in-Some.is c.in_ok-launch.ensures

pub launch_offer-requires-in-Some-clause-launch : goal.launch_offer-requires-in-Some-clause-launch
launch_offer-requires-in-Some-clause-launch g c =
    subst (λ (o : Option LaunchNode). MayLaunch c.args.sources.now.graph.now (data_split c.args.sources.now.kind) c.args.node o) c.in-Some.is c.in_ok-launch.ensures

pub returns-in-None-clause-rise : goal.returns-in-None-clause-rise
returns-in-None-clause-rise g c =
    none_as c.args.sources.now.graph.now c.args.sources.now.store.now c.requires.sources.graph c.laws.ensures.numbered c.laws.ensures.linked c.laws-2.ensures c.args.sources.now.tree.now
    c.requires.sources.clocks c.args.sources.now.kind c.args.rise c.args.tests.now.rise c.requires.rises c.requires.rise_there c.args.node
    (subst (λ (o : Option LaunchNode). MayLaunch c.args.sources.now.graph.now (data_split c.args.sources.now.kind) c.args.node o) c.in-None.is c.in_ok-launch.ensures)

pub returns-in-None-clause-fall : goal.returns-in-None-clause-fall
returns-in-None-clause-fall g c =
    none_as c.args.sources.now.graph.now c.args.sources.now.store.now c.requires.sources.graph c.laws.ensures.numbered c.laws.ensures.linked c.laws-2.ensures c.args.sources.now.tree.now
    c.requires.sources.clocks c.args.sources.now.kind c.args.fall c.args.tests.now.fall c.requires.falls c.requires.fall_there c.args.node
    (subst (λ (o : Option LaunchNode). MayLaunch c.args.sources.now.graph.now (data_split c.args.sources.now.kind) c.args.node o) c.in-None.is c.in_ok-launch.ensures)
