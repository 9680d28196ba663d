use Rattle.std.proofs.Common.{◌≡◌, map, ap, refl, arith}
use Rattle.eco_journal.specs.Lines.{part_of, words_of}
use Rattle.eco_journal.specs.Journal.{plain_form, plain_head}
use Rattle.eco_journal.proofs.JournalLemmas.{tells_same}
use Rattle.eco_journal.proofs.entries.plain_head.Goals as goal

pub returns : goal.returns
returns c =
    let line = part_of c.args.line.now in
    let same : words_of line ≡ map part_of c.as_slice.result.now = grind arith in
    tells_same c.plain_count.result (plain_form line (map part_of c.as_slice.result.now)) (plain_head line) (ap (plain_form line) same)
    (c.plain_count.ensures line refl)
