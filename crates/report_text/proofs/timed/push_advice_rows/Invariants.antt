use Rattle.std.proofs.Common.{◌≡◌, ◌++◌, drop}
use Rattle.std.specs.List.{flat_map}
use Rattle.timing_defs.specs.Output.{size_advice_text}
use Rattle.report_text.proofs.timed.push_advice_rows.Given as goal

abbrev pub invariant-loop-row : goal.invariant-loop-row
invariant-loop-row l =
    l.out.items ++ flat_map size_advice_text (drop l.row-index l.rows) ≡ l.initial.out.items ++ flat_map size_advice_text l.rows
