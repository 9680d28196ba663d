use Rattle.std.proofs.Common.{◌≡◌, ◌*◌, Ok, refl, ap}
use Rattle.std.proofs.lemmas.Result.{IfOk-at_ok}
use Rattle.levelizer.specs.Levels.{AreLevels}
use Rattle.pin_graph.specs.declared.fans.End.TheVariants.{From, To}
use Rattle.pin_graph.specs.Fans.{IsFanOf}
use Rattle.pin_graph.specs.Networks.{clock_ports}
use Rattle.pin_graph.specs.Placing.{ArePlaced, AreInOrder}
use Rattle.pin_graph.proofs.GraphOf.{found_as, ports_as}
use Rattle.pin_graph.proofs.LevelLaws.{no_cycle}
use Rattle.pin_graph.proofs.NetworkLaws.{ports_within}
use Rattle.pin_graph.proofs.graphs.node_graph.Goals as goal

pub node_levels-requires-clause-no_cycle : goal.node_levels-requires-clause-no_cycle
node_levels-requires-clause-no_cycle c =
    no_cycle c.args.store.now c.laws.ensures.numbered c.laws.ensures.linked c.args.pins.now.network c.requires.pins.marked
    c.args.pins.now.levels c.requires.pins.leveled c.args.arcs.now c.requires.arcs

pub places-placed-requires-clause-ports : goal.places-placed-requires-clause-ports
places-placed-requires-clause-ports c =
    ports_as c.args.store.now c.args.pins.now.network c.args.pins.now.network c.in_ok-levels.field-0.other c.as_slice.result.now
    (ports_within c.args.store.now c.laws.ensures.numbered c.laws.ensures.linked c.requires.fault) c.requires.pins.marked.count refl
    (IfOk-at_ok (λ ports. ports ≡ clock_ports c.args.store.now) c.in_ok-levels.ensures.other c.clock_ports.ensures) c.as_slice.ensures

pub returns-in-Ok : goal.returns-in-Ok
returns-in-Ok c =
    found_as c.args.store.now c.laws.ensures.numbered c.laws.ensures.linked c.args.pins.now.network c.requires.pins.marked c.args.arcs.now c.requires.arcs
    (record { ins = c.in-Ok.found.other.one; outs = c.in-Ok.found.other.other; levels = c.in_ok-levels.field-0.one; places = c.in-Ok.found.one.places; order = c.in-Ok.found.one.order })
    (2 * c.pin_bound-n.result) c.args.pins.now.network c.in_ok-levels.field-0.other c.as_slice.result.now c.as_slice-2.result.now
    (ap (λ n. 2 * n) c.pin_bound-n.ensures.bound) refl
    (IfOk-at_ok (λ ports. ports ≡ clock_ports c.args.store.now) c.in_ok-levels.ensures.other c.clock_ports.ensures) c.as_slice.ensures c.as_slice-2.ensures
    (IfOk-at_ok (λ fan. IsFanOf (2 * c.pin_bound-n.result) To c.args.arcs.now fan) (IfOk-at_ok (λ fans. c.of.result ≡ Ok fans.one) c.in-Ok.ensures.other c.both-fans.ensures.one) c.of.ensures)
    (IfOk-at_ok (λ fan. IsFanOf (2 * c.pin_bound-n.result) From c.args.arcs.now fan) (IfOk-at_ok (λ fans. c.of-2.result ≡ Ok fans.other) c.in-Ok.ensures.other c.both-fans.ensures.other) c.of-2.ensures)
    (IfOk-at_ok _ c.in_ok-levels.ensures.one c.node_levels.ensures)
    (IfOk-at_ok _ c.in-Ok.ensures.one c.places-placed.ensures.placed)
    (IfOk-at_ok _ c.in-Ok.ensures.one c.places-placed.ensures.ordered)
