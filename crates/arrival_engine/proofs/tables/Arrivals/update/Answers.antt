use Rattle.std.proofs.Common.{List, sym, subst}
use Rattle.std.specs.Arc.{arc_value}
use Rattle.arc_delays.specs.declared.tables.ArcDelay.{ArcDelay}
use Rattle.arc_delays.specs.Delays.{AreDelays}
use Rattle.arrival_engine.proofs.UpdatedLaws.{delays_whole, fine_whole}
use Rattle.arrival_engine.proofs.tables.Arrivals.update.Goals as goal

pub returns-clause-delays : goal.returns-clause-delays
returns-clause-delays g c =
    subst (λ (t : List (List ArcDelay)). AreDelays c.args.store.now t) (sym c.in_ok-delays.ensures)
    (delays_whole c.args.graph.now c.args.store.now c.requires.graph c.laws.ensures.numbered c.laws.ensures.linked c.laws-2.ensures (arc_value c.in_ok-wires.wires)
    c.in_ok-wires.ensures.plan.wires c.in_ok-wires.ensures.plan.nets c.in_ok-found.found.rows c.in_ok-found.found.delays c.in_ok-found.ensures.found)

pub returns-clause-fine : goal.returns-clause-fine
returns-clause-fine g c =
    fine_whole c.args.graph.now c.args.store.now c.requires.graph c.laws.ensures.numbered c.laws.ensures.linked c.laws-2.ensures (arc_value c.in_ok-wires.wires)
    c.in_ok-wires.ensures.plan.wires c.in_ok-wires.ensures.plan.nets c.in_ok-found.found.rows c.in_ok-found.found.delays c.in_ok-found.ensures.found
