use Rattle.std.proofs.Common.{◌-◌, arith}
use Rattle.eco_journal.specs.Lines.{part_of}
use Rattle.eco_journal.specs.Journal.{head_of}
use Rattle.eco_journal.proofs.JournalLemmas.{head_step}
use Rattle.eco_journal.proofs.entries.entry.Goals as goal

pub returns-clause-value : goal.returns-clause-value
returns-clause-value c = λ t left all same next.
    grind (
      arith,
      c.in_ok-line.ensures.next,
      head_step t left c.args.next all (part_of c.in_ok-line.line) c.next_line.new.lines (head_of c.in_ok-head.head) next c.in_ok-head.ensures.value,
      c.in_ok-edits.ensures.value t (left - 1) c.in_ok-head.head.session all same,
    )
