use Rattle.std.proofs.Common.{◌≡◌, map, take}
use Rattle.node_rows.specs.NetPins.{pin_cap_at}
use Rattle.node_rows.proofs.net_trees.pin_caps.Given as goal

abbrev pub invariant-loop-pin : goal.invariant-loop-pin
invariant-loop-pin l = l.caps ≡ map (pin_cap_at l.store l.split) (take l.pin-index l.pins)
