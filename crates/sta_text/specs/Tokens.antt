-- The tokens of a text, in order, each with its place.
use Rattle.std.specs.Prelude.{◌≡◌, ℕ, zero, suc, ◌+◌, ◌-◌, ◌<◌, ◌≤◌, List, [], ◌∷◌, Bool, true, false, ◌&&◌, ◌||◌, nat_lt, length, take, drop, Option, Some, None}
use Rattle.timing_defs.specs.declared.texts.Sort.{Sort}
use Rattle.timing_defs.specs.declared.texts.Sort.TheVariants.{Bad}
use Rattle.timing_defs.specs.declared.texts.Style.{Style}
use Rattle.sta_text.specs.declared.pieces.Context.{Context}
use Rattle.sta_text.specs.declared.pieces.Context.TheVariants.{Fresh}
use Rattle.sta_text.specs.declared.token.Token.{Token}
use Rattle.sta_text.specs.Bytes.{begins}
use Rattle.sta_text.specs.Pieces.{piece}

-- a token: its bytes, the places where it begins and ends, its sort
pub record Tok : Type 0 where
  pub text : List ℕ
  pub start : ℕ
  pub end : ℕ
  pub sort : Sort

-- a token without its reference
abbrev pub tok_of : Token → Tok
tok_of t = record { text = t.text.now; start = t.start; end = t.end; sort = t.sort }

-- the text of a token at this place
abbrev pub tok : List ℕ → ℕ → Sort → Tok
tok text at sort = record { text = text; start = at; end = at + length text; sort = sort }

abbrev pub told : Option Sort → List ℕ → ℕ → List Tok → List Tok
told None text at ts = ts
told (Some sort) text at ts = tok text at sort ∷ ts

-- the tokens of a text whose first `skip` bytes belong to a piece before; it begins at place `at`
unfoldable pub tokens : Style → ℕ → Context → ℕ → List ℕ → List Tok
tokens style skip context at [] = []
tokens style (suc n) context at (b ∷ bs) = tokens style n context (at + 1) bs
tokens style zero context at (b ∷ bs) =
    told (piece style context b bs).sort (take ((piece style context b bs).more + 1) (b ∷ bs)) at
    (tokens style (piece style context b bs).more (piece style context b bs).context (at + 1) bs)

-- the tokens of a whole text
abbrev pub tokens_of : Style → List ℕ → List Tok
tokens_of style bytes = tokens style 0 Fresh 0 bytes

abbrev pub is_bad : Sort → Bool
is_bad Bad = true
is_bad sort = false

-- a string or a comment that the text does not close; any other Bad token is one byte
abbrev pub is_unclosed : Tok → Bool
is_unclosed t = is_bad t.sort && (nat_lt 1 (length t.text) || begins 34 t.text)

-- each token is its slice of the source, is not empty, and begins where the one before ends or behind
unfoldable pub Follow : ℕ → List ℕ → List Tok → Type 0
Follow at source [] = Unit {0}
Follow at source (t ∷ ts) =
    (at ≤ t.start) × (t.start < t.end) × (t.end ≤ length source)
    × (t.text ≡ take (t.end - t.start) (drop t.start source)) × Follow t.end source ts
