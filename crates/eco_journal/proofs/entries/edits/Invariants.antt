use Rattle.std.proofs.Common.{◌≡◌, ◌≤◌, ℕ, [], List, length}
use Rattle.std.specs.Prelude.{Ok}
use Rattle.timing_defs.specs.declared.edits.Entry.{Entry}
use Rattle.eco_journal.specs.Journal.{Text, entries, edits_left}
use Rattle.eco_journal.proofs.entries.edits.Given as goal

-- the lines that are left say behind the edits read what all lines said
abbrev pub invariant-loop-due : goal.invariant-loop-due
invariant-loop-due l =
    ((t : Text) (left session : ℕ) (all : List Entry) → t.size ≡ l.size
    → entries t (Ok (edits_left t left session l.due l.edits all)) l.lines ≡ entries t (Ok (edits_left t left session l.fn.count [] all)) l.initial.lines)
    × (length l.lines ≤ length l.initial.lines)

abbrev pub decreases-loop-due : goal.decreases-loop-due
decreases-loop-due l = l.due
