use Rattle.std.proofs.Common.{◌≡◌, ℕ, zero, suc, ◌+◌, List, [], ◌∷◌, drop, refl, ap, arith, ◌∙◌, add-zero}
use Rattle.timing_defs.specs.declared.texts.Style.{Style}
use Rattle.sta_text.specs.declared.pieces.Context.{Context}
use Rattle.sta_text.specs.Tokens.{tokens}

-- bytes of a piece before may be left out at once
pub skipped : (style : Style) (n : ℕ) (context : Context) (at : ℕ) (bytes : List ℕ) → tokens style n context at bytes ≡ tokens style 0 context (at + n) (drop n bytes)
unfolding tokens
skipped style zero context at bytes = rw (add-zero at) refl
skipped style (suc n) context at [] = refl
skipped style (suc n) context at (b ∷ bytes) =
    let e : at + 1 + n ≡ at + suc n = omega arith in
    skipped style n context (at + 1) bytes ∙ ap (λ k. tokens style 0 context k (drop n bytes)) e
