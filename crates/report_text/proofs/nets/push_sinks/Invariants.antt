use Rattle.std.proofs.Common.{◌≡◌, ◌++◌, drop}
use Rattle.std.specs.List.{flat_map}
use Rattle.timing_defs.specs.Output.{sink_text}
use Rattle.report_text.proofs.nets.push_sinks.Given as goal

abbrev pub invariant-loop-sink : goal.invariant-loop-sink
invariant-loop-sink l =
    l.out.items ++ flat_map sink_text (drop l.sink-index l.sinks) ≡ l.initial.out.items ++ flat_map sink_text l.sinks
