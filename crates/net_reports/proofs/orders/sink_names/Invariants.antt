use Rattle.std.proofs.Common.{◌≡◌, ◌++◌, map, drop}
use Rattle.net_reports.specs.Sinks.{sink_words}
use Rattle.net_reports.proofs.orders.sink_names.Given as goal

abbrev pub invariant-loop-pin : goal.invariant-loop-pin
invariant-loop-pin l = map (λ name. name.now) l.names.items ++ sink_words l.store (drop l.pin-index l.pins) ≡ sink_words l.store l.pins
