-- The tokens that are left, of which the first was taken from the text already.
use Rattle.std.specs.Prelude.{List, [], ◌∷◌, Bool, false, Option, Some, None}
use Rattle.sta_text.specs.declared.token.Token.{Token}
use Rattle.sta_text.specs.Tokens.{Tok, tok_of}

abbrev pub ahead : Option Token → List Tok → List Tok
ahead None ts = []
ahead (Some t) ts = tok_of t ∷ ts

-- a token stands first, and passes
abbrev pub first_fits : (Tok → Bool) → List Tok → Bool
first_fits test [] = false
first_fits test (t ∷ ts) = test t
