-- Rising lists of numbers from a number on, and endpoints put in their order.

use Rattle.std.specs.Prelude.{ℕ, ◌≡◌, nat_eq, nat_lt, Bool, false, if◌then◌else◌, List, [], ◌∷◌, Option, Some, None}
use Rattle.std.specs.List.Sorted.{IsPermutation, IsNonDecreasingBy, IsStrictlyIncreasing}
use Rattle.edit_reach.specs.Reach.{is_in}
use Rattle.affected_cone.specs.declared.ends.EndSlacks.{EndSlacks}
use Rattle.affected_cone.specs.Renewed.{pin_of}

-- a list from the first number on that is not below another
abbrev pub from_number : ℕ → List ℕ → List ℕ
from_number n [] = []
from_number n (x ∷ xs) = (if nat_lt x n then from_number n xs else x ∷ xs)

abbrev pub begins_with : ℕ → List ℕ → Bool
begins_with n [] = false
begins_with n (x ∷ xs) = nat_eq x n

-- an endpoint that keeps its slacks, by the rising numbers of those that do not, from its own on
abbrev pub cut_end : List ℕ → EndSlacks → Option EndSlacks
cut_end rest end = (if begins_with end.pin rest then None else Some end)

-- the same numbers, rising
pub record IsRisingOf (numbers sorted : List ℕ) : Type 0 where
  pub rising : IsStrictlyIncreasing sorted
  pub same : (n : ℕ) → is_in sorted n ≡ is_in numbers n

-- the same endpoints, in the order of their numbers
pub record IsInOrder (ends sorted : List EndSlacks) : Type 0 where
  pub same : IsPermutation ends sorted
  pub rising : IsNonDecreasingBy pin_of sorted
