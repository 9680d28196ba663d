use Rattle.std.proofs.Common.{◌≡◌, ◌≤◌, length}
use Rattle.std.specs.Prelude.{Ok}
use Rattle.eco_journal.specs.Journal.{Text, entries, entries_left}
use Rattle.eco_journal.proofs.entries.entries.Given as goal

-- the lines that are left say behind the entries read what all lines said
abbrev pub invariant-loop-left : goal.invariant-loop-left
invariant-loop-left l =
    ((t : Text) → t.size ≡ l.size → t.first ≡ 0
    → entries t (Ok (entries_left t l.left l.all)) l.lines ≡ entries t (Ok (entries_left t l.fn.count l.initial.all)) l.initial.lines)
    × (length l.lines ≤ length l.initial.lines)

abbrev pub decreases-loop-left : goal.decreases-loop-left
decreases-loop-left l = l.left
