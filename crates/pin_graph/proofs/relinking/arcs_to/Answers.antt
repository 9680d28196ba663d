use Rattle.std.proofs.Common.{List, subst}
use Rattle.std.specs.Prelude.{IfOk}
use Rattle.pin_graph.specs.declared.arcs.GraphArc.{GraphArc}
use Rattle.pin_graph.specs.NodeArcs.{AreJoined}
use Rattle.pin_graph.proofs.PulledLaws.{before_some, into_within, pulled_as}
use Rattle.pin_graph.proofs.relinking.arcs_to.Goals as goal

pub pulled-requires-clause-before : goal.pulled-requires-clause-before
pulled-requires-clause-before c =
    before_some c.args.store.now c.laws.ensures.numbered c.laws.ensures.linked c.args.network.now c.args.pin c.args.tran c.requires.pin c.driver_of.result _ c.driver_of.ensures c.requires.network

pub pulled-requires-clause-within : goal.pulled-requires-clause-within
pulled-requires-clause-within c =
    into_within c.args.store.now c.laws.ensures.numbered c.laws.ensures.linked c.args.network.now c.args.pin c.args.tran c.requires.pin c.args.network.now c.args.library.now
    c.requires.network c.requires.library

pub returns : goal.returns
returns c =
    subst (λ (xs : List GraphArc). IfOk c.joined_few.result (AreJoined xs))
    (pulled_as c.args.store.now c.laws.ensures.numbered c.laws.ensures.linked c.args.network.now c.args.pin c.args.tran c.requires.pin c.driver_of.result c.args.library.now
    c.in_ok-raw.raw c.as_slice.result.now c.driver_of.ensures c.requires.library c.in_ok-raw.ensures c.as_slice.ensures)
    c.joined_few.ensures
