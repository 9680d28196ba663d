use Rattle.std.proofs.Common.{take, pos, ◌≡◌, ◌≤◌, ◌*◌, ◌^◌}
use Rattle.timing_defs.specs.Wires.{sum_of}
use Rattle.node_rows.specs.NetPins.{cap_at}
use Rattle.node_rows.proofs.loads.pins_load.Given as goal

abbrev pub invariant-loop-pin : goal.invariant-loop-pin
invariant-loop-pin l = (pos l.total ≡ sum_of (cap_at l.store l.split l.drivers) (take l.pin-index l.pins)) × (l.total ≤ l.pin-index * 2 ^ 40)
