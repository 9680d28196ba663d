use Rattle.std.proofs.Common.{◌≡◌, length, arith}
use Rattle.std.specs.Prelude.{Ok}
use Rattle.std.specs.Prelude.{◌∷◌}
use Rattle.eco_journal.specs.Lines.{part_of}
use Rattle.eco_journal.specs.Journal.{entries, entries_left, block}
use Rattle.eco_journal.proofs.JournalLemmas.{hands_on, fails_same, block_step, saved_left}
use Rattle.eco_journal.proofs.saved.read_block.Goals as goal

pub returns-clause-value : goal.returns-clause-value
returns-clause-value c = λ t size none saved same.
    let all = c.args.all.now in
    let line = part_of c.args.line.now in
    let before : length all ≡ c.len.result = grind (arith, c.len.ensures) in
    let step : entries t (Ok (block all)) (line ∷ c.args.lines.now) ≡ entries t (Ok (entries_left t c.in_ok-count.count all)) c.block_count.new.lines =
    grind (
      arith,
      block_step t all line c.args.lines.now,
      c.in_ok-head.ensures t all same before,
      c.in_ok-count.ensures.value t all size same,
    ) in
    hands_on c.entries.result _ _ _ _
    (λ u read. grind (arith, step, read, saved_left t c.entries.new.all saved))
    (λ fault fails. fails_same fault _ _ step fails)
    (c.entries.ensures.value t size none)
