use Rattle.std.proofs.Common.{◌≡◌, ◌++◌, drop}
use Rattle.std.specs.List.{flat_map}
use Rattle.std.specs.String.{string_bytes}
use Rattle.timing_defs.specs.Output.{line, edit_text}
use Rattle.eco_journal.proofs.texts.push_edits.Given as goal

abbrev pub invariant-loop-edit : goal.invariant-loop-edit
invariant-loop-edit l =
    string_bytes l.out ++ flat_map (λ edit. line (edit_text edit)) (drop l.edit-index l.edits) ≡ string_bytes l.initial.out ++ flat_map (λ edit. line (edit_text edit)) l.edits
