use Rattle.std.proofs.Common.{◌≡◌, ◌++◌, drop, map}
use Rattle.std.specs.List.{list_all}
use Rattle.eco_journal.specs.Lines.{part_of}
use Rattle.eco_journal.specs.Words.{is_word}
use Rattle.eco_journal.specs.EditLines.{texts_of}
use Rattle.script_reader.proofs.commands.names_of.Given as goal

-- the words passed are names, and these and those behind them are the words' texts
abbrev pub invariant-loop-word : goal.invariant-loop-word
invariant-loop-word l =
    (list_all is_word (map part_of l.words) ≡ list_all is_word (map part_of (drop l.word-index l.words)))
    × (l.names ++ texts_of (map part_of (drop l.word-index l.words)) ≡ texts_of (map part_of l.words))
