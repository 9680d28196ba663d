-- The parts of the last words of a line.
use Rattle.std.proofs.Common.{◌≡◌, ℕ, zero, suc, List, [], ◌∷◌, drop, map, refl}
use Rattle.eco_journal.specs.declared.lines.Span.{Span}
use Rattle.eco_journal.specs.Lines.{part_of}

pub map_drop : (n : ℕ) (words : List Span) → drop n (map part_of words) ≡ map part_of (drop n words)
map_drop zero words = refl
map_drop (suc n) [] = refl
map_drop (suc n) (w ∷ ws) = map_drop n ws
