-- What a seat has in hand.
use Rattle.std.proofs.Common.{◌≡◌, ℕ, List, [], ◌∷◌, sym, ap, ◌∙◌, Option, Some}
use Rattle.atomic_table.specs.Table.{rest}

module _ {S : Type 0} where
  slot_or : S → List (ℕ × S) → S
  slot_or d [] = d
  slot_or d (x ∷ xs) = x.1

  -- the slot that was taken last comes first
  pub in_hand : (cs more : List (ℕ × S)) (k : ℕ) (y : S) → cs ≡ (k, y) ∷ more → cs ≡ (k, y) ∷ rest cs
  in_hand cs more k y h = h ∙ ap (λ ds. (k, y) ∷ rest ds) (sym h)

  -- it is read as what it holds
  pub reads : (cs more : List (ℕ × S)) (k : ℕ) (x y : S) → cs ≡ (k, y) ∷ more → cs ≡ (k, x) ∷ rest cs → x ≡ y
  unfolding slot_or
  reads cs more k x y h e = ap (slot_or y) (sym e ∙ h)

-- one slot in hand holds one value
pub holds_one : {A : Type 0} (cs : List (ℕ × Option A)) (a b : A) → cs ≡ (0, Some a) ∷ [] → cs ≡ (0, Some b) ∷ [] → a ≡ b
unfolding slot_or
holds_one cs a b h k = let e : Some a ≡ Some b = ap (slot_or (Some a)) (sym h ∙ k) in cc
