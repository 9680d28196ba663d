-- A list that is kept in pieces.
use Rattle.std.specs.Prelude.{◌≡◌, ◌<◌, ◌≤◌, ℕ, List, [], ◌∷◌, length}

module _ {X A : Type 0} (n : ℕ) (f : X → List A) where
  -- every piece but the last has n items, and the last has 1 to n
  abbrev pub IsCut : List X → Type 0
  IsCut [] = Unit {0}
  IsCut (x ∷ []) = (0 < length (f x)) × (length (f x) ≤ n)
  IsCut (x ∷ y ∷ ys) = (length (f x) ≡ n) × IsCut (y ∷ ys)
