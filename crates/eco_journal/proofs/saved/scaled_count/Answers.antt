use Rattle.std.proofs.Common.{◌≡◌, arith}
use Rattle.std.specs.Prelude.{Ok}
use Rattle.eco_journal.specs.Lines.{part_of, words_of}
use Rattle.eco_journal.specs.Journal.{entries, factors, factors_read, at_line, derates_of}
use Rattle.eco_journal.proofs.JournalLemmas.{hands_on, fails_same, line_fails, factors_step}
use Rattle.eco_journal.proofs.saved.scaled_count.Goals as goal

pub returns-in-Some-clause-value : goal.returns-in-Some-clause-value
returns-in-Some-clause-value c = λ t all size same.
    let line = part_of c.in-Some.line in
    let read = at_line line (derates_of (words_of line)) in
    let step : entries t (Ok (factors c.args.at c.args.flaw c.args.count all)) c.args.lines.now
    ≡ entries t (factors_read t c.args.at c.args.flaw c.args.count all read) c.next.new.self =
    grind (arith, c.in-Some.ensures.next, factors_step t c.args.at c.args.flaw c.args.count all line c.next.new.self) in
    hands_on c.with_factors.result _ _ _ _
    (λ n told. grind (arith, step, told))
    (λ fault fails. fails_same fault _ _ step (line_fails t fault (factors_read t c.args.at c.args.flaw c.args.count all read) c.next.new.self fails))
    (c.with_factors.ensures t all read same c.factors.ensures)
