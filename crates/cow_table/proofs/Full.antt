-- Pieces that are all full of one item.
use Rattle.std.proofs.Common.{◌≡◌, ℕ, ◌+◌, ◌*◌, ◌<◌, List, [], ◌∷◌, ◌++◌, length, replicate, All, refl, ap, ◌∙◌, arith}
use Rattle.std.specs.List.{flat_map}
use Rattle.std.proofs.lemmas.List.{length-replicate, replicate-append-replicate}
use Rattle.std.proofs.lemmas.List.Elements.{All-head, All-tail}
use Rattle.cow_table.specs.Pieces.{IsCut}

module _ (size : ℕ) (some : 0 < size) {X A : Type 0} (f : X → List A) (v : A) where
  abbrev IsFull : X → Type 0
  IsFull x = f x ≡ replicate size v

  long : (x : X) → IsFull x → length (f x) ≡ size
  long x h = ap length h ∙ length-replicate size v

  pub full_cut : (xs : List X) → All IsFull xs → IsCut size f xs
  full_cut [] h = tt
  full_cut (x ∷ []) h =
      let whole = long x (All-head IsFull x [] h) in
      (omega (arith, whole), omega (arith, whole))
  full_cut (x ∷ y ∷ ys) h = (long x (All-head IsFull x (y ∷ ys) h), full_cut (y ∷ ys) (All-tail IsFull x (y ∷ ys) h))

  pub full_items : (xs : List X) (n : ℕ) → All IsFull xs → length xs ≡ n → flat_map f xs ≡ replicate (n * size) v
  full_items [] n h e =
      let none : 0 ≡ n * size = omega (arith, ap (λ k. k * size) e) in
      ap (λ k. replicate k v) none
  full_items (x ∷ xs) n h e =
      let more : size + length xs * size ≡ n * size = omega (arith, ap (λ k. k * size) e) in
      ap (λ l. l ++ flat_map f xs) (All-head IsFull x xs h)
      ∙ ap (λ l. replicate size v ++ l) (full_items xs (length xs) (All-tail IsFull x xs h) refl)
      ∙ replicate-append-replicate size (length xs * size) v
      ∙ ap (λ k. replicate k v) more
