use Rattle.std.proofs.Common.{◌≡◌, ◌++◌, drop}
use Rattle.std.specs.List.{flat_map}
use Rattle.timing_defs.specs.Output.{edge_time_text}
use Rattle.report_text.proofs.reports.push_edge_times.Given as goal

abbrev pub invariant-loop-time : goal.invariant-loop-time
invariant-loop-time l =
    l.out.items ++ flat_map (edge_time_text l.clocks) (drop l.time-index l.times) ≡ l.initial.out.items ++ flat_map (edge_time_text l.clocks) l.times
