use Rattle.std.proofs.Common.{◌≡◌, ◌++◌}
use Rattle.std.specs.List.{filter_map, flat_map, range_with_len}
use Rattle.pin_graph.specs.Networks.{edge_from, tests_of}
use Rattle.pin_graph.proofs.networks.clock_pins.Given as goal

abbrev pub invariant-loop-inst : goal.invariant-loop-inst
invariant-loop-inst l = l.pins ≡ filter_map edge_from l.arcs ++ flat_map (tests_of l.store) (range_with_len 0 l.inst)
