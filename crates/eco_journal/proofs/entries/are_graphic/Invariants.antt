use Rattle.std.proofs.Common.{◌≡◌, drop, map}
use Rattle.std.specs.List.{list_all}
use Rattle.eco_journal.specs.Lines.{part_of}
use Rattle.eco_journal.specs.Words.{is_word}
use Rattle.eco_journal.proofs.entries.are_graphic.Given as goal

abbrev pub invariant-loop-word : goal.invariant-loop-word
invariant-loop-word l =
    list_all is_word (map part_of (drop l.word-index l.words)) ≡ list_all is_word (map part_of l.words)
