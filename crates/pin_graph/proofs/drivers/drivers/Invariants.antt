use Rattle.std.proofs.Common.{◌≡◌, map}
use Rattle.std.specs.List.{range_with_len}
use Rattle.store_pins.specs.Drivers.{driver_at}
use Rattle.pin_graph.proofs.drivers.drivers.Given as goal

abbrev pub invariant-loop-net : goal.invariant-loop-net
invariant-loop-net l = l.drivers ≡ map (driver_at l.store) (range_with_len 0 l.net)
