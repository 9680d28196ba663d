use Rattle.std.proofs.Common.{◌≡◌, ◌++◌, map, length}
use Rattle.eco_journal.specs.Lines.{part_of}
use Rattle.script_reader.specs.Words.{are_pairs, candidates_of}
use Rattle.script_reader.proofs.commands.candidates_of.Given as goal

-- the words that are left stand in pairs where all do, and the candidates passed and those that they name are those of the words
abbrev pub invariant-loop-left : goal.invariant-loop-left
invariant-loop-left l =
    (are_pairs (map part_of l.left) ≡ are_pairs (map part_of l.words))
    × (l.candidates ++ candidates_of (map part_of l.left) ≡ candidates_of (map part_of l.words))

abbrev pub decreases-loop-left : goal.decreases-loop-left
decreases-loop-left l = length l.left
