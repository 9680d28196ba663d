use Rattle.std.proofs.Common.{sym, subst}
use Rattle.netlist_store.specs.Numbering.{Stored}
use Rattle.arc_delays.specs.Delays.{AreDelays}
use Rattle.path_cones.proofs.ConeParts.{ordered_low, cone_told, same_told}
use Rattle.path_cones.proofs.fans.cone_of.Goals as goal

pub list_arcs-requires-clause-delays : goal.list_arcs-requires-clause-delays
list_arcs-requires-clause-delays c = subst (λ (x : Stored). AreDelays x c.args.sources.now.delays.now) (sym c.requires.graph) c.requires.delays

pub list_arcs-requires-clause-few : goal.list_arcs-requires-clause-few
list_arcs-requires-clause-few c = c.in_ok-ordered.ensures.ordered.some.few

pub list_arcs-requires-clause-below : goal.list_arcs-requires-clause-below
list_arcs-requires-clause-below c = ordered_low c.args.sources.now.graph.now c.args.ends.now c.in_ok-ordered.ordered.keys c.in_ok-ordered.ensures.ordered

pub returns-clause-part : goal.returns-clause-part
returns-clause-part c =
    cone_told c.args.sources.now.graph.now c.args.store.now c.args.kind c.args.ends.now c.in_ok-ordered.ordered.keys c.in_ok-listed.listed.starts c.in_ok-listed.listed.arcs
    c.joined.result c.requires.graph c.laws.ensures.numbered c.laws.ensures.linked c.laws-2.ensures c.args.sources.now.delays.now c.requires.delays
    c.bounded.ensures c.in_ok-ordered.ensures.ordered c.in_ok-listed.ensures c.joined.ensures

pub returns-clause-same : goal.returns-clause-same
returns-clause-same c =
    same_told c.args.nodes.now.keys c.in_ok-ordered.ordered.keys c.in_ok-listed.listed.starts c.in_ok-listed.listed.arcs c.joined.result c.in_ok-ordered.ensures.same c.joined.ensures
