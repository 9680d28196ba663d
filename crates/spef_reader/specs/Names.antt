-- The name map of a text (IEEE 1481, "Name map definition"): what each index stands for.
use Rattle.std.specs.Prelude.{ℕ, List, [], ◌∷◌, map, Option, Some, None, if◌then◌else◌}
use denote.Ref.{Bor}
use Rattle.std.specs.Str.{bytes_eq}
use Rattle.spef_reader.specs.declared.context.Bus.{Bus}

-- an index stands for a word from now on, in place of the word before
unfoldable pub with_row : List (List ℕ × List ℕ) → List ℕ → List ℕ → List (List ℕ × List ℕ)
with_row [] index word = (index, word) ∷ []
with_row (row ∷ rows) index word =
    (if bytes_eq index row.0 then (row.0, word) ∷ rows else row ∷ with_row rows index word)

-- the word that an index stands for
unfoldable pub told : List (List ℕ × List ℕ) → List ℕ → Option (List ℕ)
told [] index = None
told (row ∷ rows) index = (if bytes_eq index row.0 then Some row.1 else told rows index)

-- the rows of words that are kept with the marks of buses of their spellings
abbrev pub rows_at : List (Bor (List ℕ) × (Bus × List ℕ)) → List (List ℕ × List ℕ)
rows_at found = map (λ (e : Bor (List ℕ) × (Bus × List ℕ)). (e.0.now, e.1.1)) found
