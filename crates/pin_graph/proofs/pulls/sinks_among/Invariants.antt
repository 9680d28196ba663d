use Rattle.std.proofs.Common.{◌≡◌, filter, take}
use Rattle.pin_graph.specs.Pulls.{is_sink}
use Rattle.pin_graph.proofs.pulls.sinks_among.Given as goal

abbrev pub invariant-loop-pin : goal.invariant-loop-pin
invariant-loop-pin l = l.sinks ≡ filter (is_sink l.store) (take l.pin-index l.pins)
