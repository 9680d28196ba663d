use Rattle.std.proofs.Common.{arith}
use Rattle.eco_journal.proofs.JournalLemmas.{some_edit}
use Rattle.eco_journal.proofs.entries.edits.Goals as goal

pub loop-due-preserved : goal.loop-due-preserved
loop-due-preserved c = (
  λ t left session all same.
      grind (
        arith,
        c.loop-due.invariant.0 t left session all same,
        c.in_ok-next_edit.ensures.value t left session c.loop-due.due c.loop-due.edits all same,
        some_edit t left session c.loop-due.due c.loop-due.edits all,
      ),
  grind arith,
)
