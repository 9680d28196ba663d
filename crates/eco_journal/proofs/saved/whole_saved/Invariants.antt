use Rattle.std.proofs.Common.{◌≡◌, [], length}
use Rattle.std.specs.Prelude.{Ok}
use Rattle.eco_journal.specs.Journal.{entries, block, saved_journal}
use Rattle.eco_journal.proofs.saved.whole_saved.Given as goal

abbrev pub invariant-loop-line : goal.invariant-loop-line
invariant-loop-line l =
    entries (saved_journal l.bytes l.derates) (Ok (block l.all)) l.lines ≡ entries (saved_journal l.bytes l.derates) (Ok (block [])) l.initial.lines

abbrev pub decreases-loop-line : goal.decreases-loop-line
decreases-loop-line l = length l.lines
