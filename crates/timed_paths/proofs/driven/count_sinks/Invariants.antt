use Rattle.std.proofs.Common.{take, pos, ◌≡◌, ◌≤◌}
use Rattle.timing_defs.specs.Wires.{sum_of}
use Rattle.timed_paths.specs.Numbers.{sink_at}
use Rattle.timed_paths.proofs.driven.count_sinks.Given as goal

abbrev pub invariant-loop-pin : goal.invariant-loop-pin
invariant-loop-pin l = (pos l.count ≡ sum_of (sink_at l.store) (take l.pin-index l.pins)) × (l.count ≤ l.pin-index)
