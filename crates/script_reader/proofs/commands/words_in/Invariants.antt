use Rattle.std.proofs.Common.{◌≡◌, ◌++◌, map, length}
use Rattle.eco_journal.specs.Lines.{part_of}
use Rattle.script_reader.specs.Commands.{word_of}
use Rattle.script_reader.proofs.commands.words_in.Given as goal

-- the words found and those that are left are those of the line
abbrev pub invariant-loop-token : goal.invariant-loop-token
invariant-loop-token l = map part_of l.words ++ map word_of l.cursor ≡ map word_of l.initial.cursor

abbrev pub decreases-loop-token : goal.decreases-loop-token
decreases-loop-token l = length l.cursor
