use Rattle.std.proofs.Common.{◌≡◌, ◌++◌, drop}
use Rattle.std.specs.List.{flat_map}
use Rattle.timing_defs.specs.Output.{path_text}
use Rattle.report_text.proofs.reports.push_each_path.Given as goal

abbrev pub invariant-loop-path : goal.invariant-loop-path
invariant-loop-path l =
    l.out.items ++ flat_map (path_text l.clocks l.query) (drop l.path-index l.paths) ≡ l.initial.out.items ++ flat_map (path_text l.clocks l.query) l.paths
