use Rattle.std.proofs.Common.{◌≡◌, ◌++◌, false, length}
use Rattle.spef_reader.specs.Words.{spelled}
use Rattle.spef_reader.proofs.words.add_pieces.Given as goal

abbrev pub invariant-pieces : goal.invariant-pieces
invariant-pieces l = l.name.items ++ spelled l.bus l.escaped l.rest ≡ l.initial.name.items ++ spelled l.bus false l.word

abbrev pub decreases-pieces : goal.decreases-pieces
decreases-pieces l = length l.rest
