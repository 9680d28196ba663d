use Rattle.std.proofs.Common.{◌≡◌, ◌++◌, drop}
use Rattle.std.specs.List.{flat_map}
use Rattle.timing_defs.specs.Output.{ended_text}
use Rattle.report_text.proofs.timed.push_ended_paths.Given as goal

abbrev pub invariant-loop-path : goal.invariant-loop-path
invariant-loop-path l =
    l.out.items ++ flat_map (ended_text l.clocks l.kind) (drop l.path-index l.paths) ≡ l.initial.out.items ++ flat_map (ended_text l.clocks l.kind) l.paths
