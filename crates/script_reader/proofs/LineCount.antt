-- A text has no more lines than bytes.
use Rattle.std.proofs.Common.{◌≡◌, ℕ, ◌+◌, ◌≤◌, List, [], ◌∷◌, length, arith}
use Rattle.eco_journal.specs.Lines.{onto, cut_lines, placed, lines_of}

onto_one : (b : ℕ) (lines : List (List ℕ)) → length (onto b lines) ≤ 1 + length lines
onto_one b [] = grind arith
onto_one b (line ∷ lines) = grind arith

cut_few : (bs : List ℕ) → length (cut_lines bs) ≤ length bs
unfolding cut_lines
cut_few [] = grind arith
cut_few (b ∷ bs) = grind (arith, cut_few bs, onto_one b (cut_lines bs))

placed_same : (at : ℕ) (texts : List (List ℕ)) → length (placed at texts) ≡ length texts
unfolding placed
placed_same at [] = grind arith
placed_same at (text ∷ texts) = grind (arith, placed_same (at + length text + 1) texts)

pub few_lines : (bs : List ℕ) → length (lines_of bs) ≤ length bs
few_lines bs = grind (arith, placed_same 0 (cut_lines bs), cut_few bs)
