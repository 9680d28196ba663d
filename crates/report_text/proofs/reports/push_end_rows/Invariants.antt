use Rattle.std.proofs.Common.{◌≡◌, ◌++◌, drop}
use Rattle.std.specs.List.{flat_map}
use Rattle.timing_defs.specs.Output.{end_text}
use Rattle.report_text.proofs.reports.push_end_rows.Given as goal

abbrev pub invariant-loop-row : goal.invariant-loop-row
invariant-loop-row l =
    l.out.items ++ flat_map end_text (drop l.row-index l.rows) ≡ l.initial.out.items ++ flat_map end_text l.rows
