-- The last byte of a text.
use Rattle.std.proofs.Common.{◌≡◌, ℕ, suc, ◌-◌, true, List, [], ◌∷◌, length, refl, ap, ◌∙◌, arith}
use Rattle.std.specs.Prelude.{Some, None, ◌==◌, slice_get}
use Rattle.std.specs.Option.{option_map_or}
use Rattle.live_journal.specs.Ends.{ends_whole}

whole_last : (bs : List ℕ) → option_map_or (λ b. b == 10) (slice_get bs (length bs - 1)) true ≡ ends_whole bs
whole_last [] = refl
whole_last (b ∷ []) = refl
whole_last (b ∷ c ∷ bs) =
    let one : length (b ∷ c ∷ bs) - 1 ≡ suc (length (c ∷ bs) - 1) = omega arith in
    ap (λ k. option_map_or (λ b. b == 10) (slice_get (b ∷ c ∷ bs) k) true) one ∙ whole_last (c ∷ bs)

pub last_whole : (bs : List ℕ) (b : ℕ) → Some b ≡ slice_get bs (length bs - 1) → (b == 10) ≡ ends_whole bs
last_whole bs b found = ap (λ last. option_map_or (λ b. b == 10) last true) found ∙ whole_last bs

pub none_whole : (bs : List ℕ) → None ≡ slice_get bs (length bs - 1) → true ≡ ends_whole bs
none_whole bs found = ap (λ last. option_map_or (λ b. b == 10) last true) found ∙ whole_last bs
