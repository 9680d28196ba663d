use Rattle.std.proofs.Common.{◌≡◌, ◌++◌, map, length}
use Rattle.eco_journal.specs.Lines.{part_of}
use Rattle.eco_journal.proofs.lines.words_of.Given as goal

-- the words found and those that are left are those of the line
abbrev pub invariant-loop-word : goal.invariant-loop-word
invariant-loop-word l = map part_of l.found ++ l.words ≡ l.initial.words

abbrev pub decreases-loop-word : goal.decreases-loop-word
decreases-loop-word l = length l.words
