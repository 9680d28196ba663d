-- Rows in the order of their names.

use Rattle.std.specs.Prelude.{ℕ, Bool, List}
use Rattle.std.specs.List.Sorted.{IsPermutation, IsSortedBy}
use Rattle.timing_defs.specs.NetChecks.{is_before}

-- whether a row comes before another by their names
abbrev pub by_name : {X : Type 0} → (X → List ℕ) → X → X → Bool
by_name name a b = is_before (name a) (name b)

-- the same rows, in the order of their names
pub record AreInOrder {X : Type 0} (name : X → List ℕ) (rows sorted : List X) : Type 0 where
  pub same : IsPermutation rows sorted
  pub up : IsSortedBy (by_name name) sorted
