use Rattle.std.proofs.Common.{◌∷◌, arith}
use Rattle.std.specs.Prelude.{Ok}
use Rattle.eco_journal.specs.Lines.{part_of}
use Rattle.eco_journal.specs.Journal.{entries, heading}
use Rattle.eco_journal.proofs.JournalLemmas.{hands_on, fails_same, heading_step, heading_fails}
use Rattle.eco_journal.proofs.entries.counted.Goals as goal

pub returns : goal.returns
returns c = λ t size.
    let line = part_of c.in_ok-line.line in
    hands_on c.plain_head.result _ _ _ _
    (λ count read. grind (arith, c.in_ok-line.ensures.next, heading_step t line c.next_line.new.lines count read))
    (λ fault fails.
    fails_same fault (entries t (Ok heading) (line ∷ c.next_line.new.lines)) _ (grind (arith, c.in_ok-line.ensures.next))
    (heading_fails t line c.next_line.new.lines fault fails))
    c.plain_head.ensures
