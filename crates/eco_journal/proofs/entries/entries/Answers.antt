use Rattle.std.proofs.Common.{◌≡◌, ◌+◌, length, arith}
use Rattle.eco_journal.proofs.JournalLemmas.{some_entry}
use Rattle.eco_journal.proofs.entries.entries.Goals as goal

pub loop-left-preserved : goal.loop-left-preserved
loop-left-preserved c = (
  λ t same none.
      let next : t.first + length c.loop-left.all + 1 ≡ c.len.result + 1 = omega (arith, none, c.len.ensures) in
      grind (
        arith,
        c.loop-left.invariant.0 t same none,
        c.in_ok-entry.ensures.value t c.loop-left.left c.loop-left.all same next,
        some_entry t c.loop-left.left c.loop-left.all,
      ),
  grind arith,
)
