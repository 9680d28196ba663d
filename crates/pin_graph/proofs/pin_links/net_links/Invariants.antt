use Rattle.std.proofs.Common.{◌≡◌}
use Rattle.std.specs.List.{filter_map, range_with_len}
use Rattle.pin_graph.specs.Joins.{link_into}
use Rattle.pin_graph.proofs.pin_links.net_links.Given as goal

abbrev pub invariant-loop-pin : goal.invariant-loop-pin
invariant-loop-pin l = l.links ≡ filter_map (link_into l.store) (range_with_len 0 l.pin)
