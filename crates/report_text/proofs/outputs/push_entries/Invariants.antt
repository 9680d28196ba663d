use Rattle.std.proofs.Common.{◌≡◌, ◌+◌, ◌++◌, drop}
use Rattle.timing_defs.specs.Output.{entries_text}
use Rattle.report_text.proofs.outputs.push_entries.Given as goal

abbrev pub invariant-loop-entry : goal.invariant-loop-entry
invariant-loop-entry l =
    (l.out.items ++ entries_text (l.number + 1) (drop l.entry-index l.entries) ≡ l.initial.out.items ++ entries_text 1 l.entries)
    × (l.number ≡ l.entry-index)
