use Rattle.std.proofs.Common.{◌≡◌, ◌≤◌, filter, length, take}
use Rattle.store_pins.specs.Drivers.{drives_at}
use Rattle.design_link.proofs.net_pins.driver_count.Given as goal

abbrev pub invariant-loop-pin : goal.invariant-loop-pin
invariant-loop-pin l = record { is : l.count ≡ length (filter (drives_at l.store) (take l.pin-index l.pin-items)); low : l.count ≤ l.pin-index }
