use Rattle.pin_graph.proofs.PlaceLaws.{network_within, ports_within_as}
use Rattle.pin_graph.proofs.places.clocked.Goals as goal

pub reached-requires-clause-within : goal.reached-requires-clause-within
reached-requires-clause-within c =
    network_within c.args.n c.args.network.now c.args.arcs.now c.in_ok-links.links c.as_slice.result.now c.requires.arcs c.in_ok-links.ensures c.as_slice.ensures

pub reached-requires-clause-first : goal.reached-requires-clause-first
reached-requires-clause-first c =
    ports_within_as c.args.n c.args.network.now c.args.ports.now c.in_ok-first.first c.as_slice-2.result.now c.requires.long c.requires.ports c.in_ok-first.ensures c.as_slice-2.ensures
