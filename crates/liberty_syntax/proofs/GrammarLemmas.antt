use Rattle.std.proofs.Common.{◌≡◌, ℕ, zero, suc, ◌-◌, ◌<◌, List, [], ◌∷◌, ◌++◌, true, false, cond, refl, ap, sym, subst, ◌∙◌, arith, append_assoc}
use Rattle.sta_text.specs.Bytes.{continues, line_end_len}
use Rattle.liberty_syntax.specs.Grammar.{joined}

-- a byte of a continuation is left out
pub join_skip : (n b : ℕ) (bs : List ℕ) → 0 < n → joined n (b ∷ bs) ≡ joined (n - 1) bs
unfolding joined
join_skip zero b bs h = absurd (omega (arith, h))
join_skip (suc n) b bs h = let e : n ≡ suc n - 1 = omega arith in ap (λ k. joined k bs) e

-- any other byte that begins no continuation is kept
pub join_keep : (text : List ℕ) (n b : ℕ) (bs : List ℕ) → n ≡ 0 → continues b bs ≡ false → (text ++ b ∷ []) ++ joined 0 bs ≡ text ++ joined n (b ∷ bs)
unfolding joined
join_keep text n b bs none h =
    append_assoc text (b ∷ []) (joined 0 bs)
    ∙ ap (λ ys. text ++ ys)
    (subst (λ v. (b ∷ joined 0 bs) ≡ cond v (joined (line_end_len bs) bs) (b ∷ joined 0 bs)) (sym h) refl
    ∙ ap (λ k. joined k (b ∷ bs)) (sym none))

-- a byte that begins a continuation is left out
pub join_over : (n b : ℕ) (bs : List ℕ) → n ≡ 0 → continues b bs ≡ true → joined (line_end_len bs) bs ≡ joined n (b ∷ bs)
unfolding joined
join_over n b bs none h =
    subst (λ v. joined (line_end_len bs) bs ≡ cond v (joined (line_end_len bs) bs) (b ∷ joined 0 bs)) (sym h) refl
    ∙ ap (λ k. joined k (b ∷ bs)) (sym none)
