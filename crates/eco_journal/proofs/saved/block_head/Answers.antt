use Rattle.std.proofs.Common.{◌≡◌, map, ap, refl, arith}
use Rattle.eco_journal.specs.Lines.{part_of, words_of}
use Rattle.eco_journal.specs.Journal.{block_form, block_head}
use Rattle.eco_journal.specs.Saved.{behind_head}
use Rattle.eco_journal.proofs.JournalLemmas.{stands_same}
use Rattle.eco_journal.proofs.saved.block_head.Goals as goal

pub returns : goal.returns
returns c = λ t all derates before.
    let line = part_of c.args.line.now in
    let same : words_of line ≡ map part_of c.as_slice.result.now = grind arith in
    stands_same c.block_form.result (behind_head t c.args.line.now.at all) (block_form t all line (map part_of c.as_slice.result.now)) (block_head t all line)
    (ap (block_form t all line) same)
    (c.block_form.ensures t all line derates before refl)
