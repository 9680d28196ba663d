use Rattle.std.proofs.Common.{◌≡◌, map, take}
use Rattle.pin_graph.specs.Networks.{turned}
use Rattle.pin_graph.proofs.networks.turned_links.Given as goal

abbrev pub invariant-loop-link : goal.invariant-loop-link
invariant-loop-link l = l.found ≡ map turned (take l.link-index l.links)
