use Rattle.std.proofs.Common.{◌≡◌, [], length}
use Rattle.std.specs.Prelude.{Ok}
use Rattle.eco_journal.specs.Journal.{eco_edits}
use Rattle.eco_journal.proofs.entries.whole_eco.Given as goal

abbrev pub invariant-loop-line : goal.invariant-loop-line
invariant-loop-line l = eco_edits (Ok l.edits) l.rest ≡ eco_edits (Ok []) l.initial.rest

abbrev pub decreases-loop-line : goal.decreases-loop-line
decreases-loop-line l = length l.rest
