use Rattle.std.proofs.Common.{◌≡◌, [], ◌∷◌, ◌++◌, drop}
use Rattle.std.specs.List.{flat_map}
use Rattle.journal_tests.proofs.notes.lines.Given as goal

abbrev pub invariant-loop-note : goal.invariant-loop-note
invariant-loop-note l =
    l.bytes.items ++ flat_map (λ note. note.seat ∷ 10 ∷ []) (drop l.note-index l.notes) ≡ flat_map (λ note. note.seat ∷ 10 ∷ []) l.notes
