use Rattle.std.proofs.Common.{◌≡◌, ◌<◌, ◌==◌, true≢false, List, length, Option, sym, ap, subst, ◌∙◌}
use Rattle.std.specs.Prelude.{All, IfSome}
use Rattle.timing_defs.specs.Kinds.{data_split}
use Rattle.worst_walks.specs.declared.cones.WalkArc.{WalkArc}
use Rattle.path_search.specs.declared.ends.EndTest.{EndTest}
use Rattle.path_search.specs.declared.launches.LaunchNode.{LaunchNode}
use Rattle.path_search.specs.NodeNets.{arcs_there, offer_told, FanValue}
use Rattle.path_search.specs.Slacks.{IsReadyTest, MayLaunch, least_slack}
use Rattle.path_search.proofs.EndLaws.{rows_fine}
use Rattle.path_search.proofs.NodeForms.{offer_none, offer_passed, offer_some}
use Rattle.path_search.proofs.OfferForms.{launch_placed, tests_ready, tests_placed}
use Rattle.path_search.proofs.node_fans.NodeFanFan.offer.Goals as goal

pub returns-then-not-is_empty : goal.returns-then-not-is_empty
returns-then-not-is_empty g c =
    offer_passed _ _ _ _ _ _ _ _ _ c.self.invariant c.laws.ensures.numbered c.laws.ensures.linked c.laws-2.ensures c.args.node c.args.arcs.now
    (c.requires.arcs ∙ ap (λ (v : FanValue). arcs_there v.0 v.1 c.args.node) (sym c.self.view_is)) (λ none. true≢false (sym (ap (λ (xs : List WalkArc). length xs == 0) none) ∙ sym c.is_empty.ensures ∙ c.if-not-is_empty.true))
    ∙ ap (λ (v : FanValue). offer_told v.0 v.1 v.2 v.3 c.args.node) c.self.view_is

pub launch_node-requires-clause-range : goal.launch_node-requires-clause-range
launch_node-requires-clause-range g c = rows_fine c.self.inside.sources.now.store.now.design c.self.invariant.sources.none

pub least_slack-requires-clause-launch_place : goal.least_slack-requires-clause-launch_place
least_slack-requires-clause-launch_place g c =
    launch_placed c.self.inside.sources.now.graph.now c.self.inside.sources.now.store.now c.self.invariant.sources.graph c.laws.ensures.numbered c.laws.ensures.linked c.laws-2.ensures
    c.self.inside.sources.now.tree.now c.self.invariant.sources.clocks (data_split c.self.inside.sources.now.kind) c.args.node c.in-Some.launch
    (subst (λ (o : Option LaunchNode). MayLaunch c.self.inside.sources.now.graph.now (data_split c.self.inside.sources.now.kind) c.args.node o) c.in-Some.is c.in_ok-launch.ensures)

pub least_slack-requires-clause-tests : goal.least_slack-requires-clause-tests
least_slack-requires-clause-tests g c =
    subst (λ (xs : List EndTest). All (IsReadyTest c.self.inside.sources.now.store.now.design) xs) (sym c.as_slice.ensures)
    (tests_ready c.self.inside.sources.now.graph.now c.self.inside.sources.now.store.now c.self.invariant.sources.graph c.laws.ensures.numbered c.laws.ensures.linked c.laws-2.ensures
    c.self.inside.sources.now.tree.now c.self.invariant.sources.clocks c.self.inside.sources.now.kind c.self.inside.end c.self.inside.tests c.self.invariant.its_tests c.self.invariant.there)

pub least_slack-requires-clause-places : goal.least_slack-requires-clause-places
least_slack-requires-clause-places g c =
    subst (λ (xs : List EndTest). All (λ (t : EndTest). IfSome t.place (λ p. p < length c.self.inside.sources.now.tree.now)) xs) (sym c.as_slice.ensures)
    (tests_placed c.self.inside.sources.now.graph.now c.self.inside.sources.now.store.now c.self.invariant.sources.graph c.laws.ensures.numbered c.laws.ensures.linked c.laws-2.ensures
    c.self.inside.sources.now.tree.now c.self.invariant.sources.clocks c.self.inside.sources.now.kind c.self.inside.end c.self.inside.tests c.self.invariant.its_tests c.self.invariant.there)

pub returns-in-Some : goal.returns-in-Some
returns-in-Some g c =
    offer_some _ _ _ _ _ _ _ _ _ c.self.invariant c.laws.ensures.numbered c.laws.ensures.linked c.laws-2.ensures c.args.node c.in-Some.launch
    (subst (λ (o : Option LaunchNode). MayLaunch c.self.inside.sources.now.graph.now (data_split c.self.inside.sources.now.kind) c.args.node o) c.in-Some.is c.in_ok-launch.ensures)
    c.least_slack.result
    (c.least_slack.ensures.value
    ∙ ap (λ (xs : List EndTest). least_slack c.self.inside.sources.now.store.now.design c.self.inside.sources.now.kind c.self.inside.sources.now.tree.now c.in-Some.launch xs) c.as_slice.ensures)
    ∙ ap (λ (v : FanValue). offer_told v.0 v.1 v.2 v.3 c.args.node) c.self.view_is

pub returns-in-None : goal.returns-in-None
returns-in-None g c =
    offer_none _ _ _ _ _ _ _ _ _ c.self.invariant c.laws.ensures.numbered c.laws.ensures.linked c.laws-2.ensures c.args.node
    (subst (λ (o : Option LaunchNode). MayLaunch c.self.inside.sources.now.graph.now (data_split c.self.inside.sources.now.kind) c.args.node o) c.in-None.is c.in_ok-launch.ensures)
    ∙ ap (λ (v : FanValue). offer_told v.0 v.1 v.2 v.3 c.args.node) c.self.view_is
