use Rattle.std.proofs.Common.{◌≡◌, ◌+◌, ◌++◌, drop}
use Rattle.std.specs.String.{string_bytes}
use Rattle.timing_defs.specs.Output.{entries_text}
use Rattle.eco_journal.proofs.texts.push_entries.Given as goal

abbrev pub invariant-loop-entry : goal.invariant-loop-entry
invariant-loop-entry l =
    (string_bytes l.out ++ entries_text (l.number + 1) (drop l.entry-index l.entries) ≡ string_bytes l.initial.out ++ entries_text (l.fn.first + 1) l.entries)
    × (l.number ≡ l.fn.first + l.entry-index)
