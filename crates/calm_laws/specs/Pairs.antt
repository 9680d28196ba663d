-- Two lists whose items stand in a relation, place by place.

use Rattle.std.specs.Prelude.{List, [], ◌∷◌}

abbrev pub ArePairs : {X Y : Type 0} → (X → Y → Type 0) → List X → List Y → Type 0
ArePairs r [] [] = Unit {0}
ArePairs r [] (y ∷ ys) = ⊥
ArePairs r (x ∷ xs) [] = ⊥
ArePairs r (x ∷ xs) (y ∷ ys) = r x y × ArePairs r xs ys
