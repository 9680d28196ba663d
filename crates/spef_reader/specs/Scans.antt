-- The first token of a text, wherever the text stands.
use Rattle.std.specs.Prelude.{◌≡◌, ℕ, ◌+◌, ◌≤◌, List, ◌∷◌, Bool, ◌==◌, ◌&&◌, not, length, drop}
use Rattle.timing_defs.specs.Names.{is_graphic}
use Rattle.timing_defs.specs.declared.texts.Style.TheVariants.{Spef}
use Rattle.sta_text.specs.declared.pieces.Context.TheVariants.{Fresh}
use Rattle.sta_text.specs.Tokens.{Tok, tokens}

-- a byte of a word that begins no comment
abbrev pub is_common : ℕ → Bool
is_common b = is_graphic b && not (b == 47)

-- the tokens of the rest of a text, which begins at a place
abbrev pub tokens_at : ℕ → List ℕ → List Tok
tokens_at at bs = tokens Spef 0 Fresh at bs

-- a token so many bytes behind its place
abbrev pub moved : ℕ → Tok → Tok
moved by t = record { text = t.text; start = by + t.start; end = by + t.end; sort = t.sort }

-- a token is the first of this text, and so wherever the text stands
abbrev pub IsFirst : List ℕ → Tok → Type 0
IsFirst bs t =
    (t.start ≤ t.end) × (t.end ≤ length bs)
    × ((at : ℕ) → tokens_at at bs ≡ moved at t ∷ tokens_at (at + t.end) (drop t.end bs))
