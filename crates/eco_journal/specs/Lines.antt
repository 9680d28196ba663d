-- Lines of a text and the words of a line, each with the place of its first byte (own).
use Rattle.std.specs.Prelude.{ℕ, ◌+◌, List, [], ◌∷◌, Bool, ◌==◌, length, if◌then◌else◌}
use Rattle.std.specs.List.{slice_split}
use Rattle.eco_journal.specs.declared.lines.Span.{Span}

-- a part of a text and the place of its first byte
pub record Part : Type 0 where
  pub text : List ℕ
  pub at : ℕ

abbrev pub part_of : Span → Part
part_of span = record { text = span.text.now; at = span.at }

-- a byte before the first line
abbrev pub onto : ℕ → List (List ℕ) → List (List ℕ)
onto b [] = (b ∷ []) ∷ []
onto b (line ∷ lines) = (b ∷ line) ∷ lines

-- the lines of a text, each ended by a line feed (10), which the last may lack
unfoldable pub cut_lines : List ℕ → List (List ℕ)
cut_lines [] = []
cut_lines (b ∷ bs) = (if b == 10 then [] ∷ cut_lines bs else onto b (cut_lines bs))

-- parts from a place on, with one byte between two of them
unfoldable pub placed : ℕ → List (List ℕ) → List Part
placed at [] = []
placed at (text ∷ texts) = record { text = text; at = at } ∷ placed (at + length text + 1) texts

abbrev pub lines_of : List ℕ → List Part
lines_of bytes = placed 0 (cut_lines bytes)

abbrev pub is_space : ℕ → Bool
is_space b = b == 32

-- the words of a line, which single blanks join
abbrev pub words_of : Part → List Part
words_of line = placed line.at (slice_split is_space line.text)
