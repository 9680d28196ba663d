use Rattle.std.proofs.Common.{◌≡◌, take}
use Rattle.std.specs.List.{filter_map}
use Rattle.pin_graph.specs.Networks.{clock_port}
use Rattle.pin_graph.proofs.networks.clock_ports.Given as goal

abbrev pub invariant-loop-clock : goal.invariant-loop-clock
invariant-loop-clock l = l.ports ≡ filter_map (clock_port l.store) (take l.clock-index l.clock-items)
