-- Lists of the segments at each node.

use Rattle.std.specs.Prelude.{ℕ, ◌≡◌, ◌<◌, List, [], ◌∷◌, ◌++◌, length, get_or, set, replicate, Option, Some, None}
use Rattle.std.specs.List.{AllByRecursion}
use Rattle.rc_tree.specs.declared.segments.Segment.{Segment}
use Rattle.rc_tree.specs.Growth.{segment_at, Touches}
use Rattle.rc_tree.specs.Loops.{IsAmong, AreIndexes}

abbrev pub listed : List (List ℕ) → ℕ → ℕ → List (List ℕ)
listed links u k = set links u (get_or links u [] ++ k ∷ [])

abbrev pub listed_at_both : List (List ℕ) → Segment → ℕ → List (List ℕ)
listed_at_both links s k = listed (listed links s.a k) s.b k

-- the first `i` segments are listed at their ends
pub record AreListed (segments : List Segment) (count i : ℕ) (links : List (List ℕ)) : Type 0 where
  pub size : length links ≡ count
  pub inside : AllByRecursion (AreIndexes segments) links
  pub all : (k u : ℕ) → k < i → Touches (segment_at segments k) u → IsAmong k (get_or links u [])

-- the numbers below a count
abbrev pub AreAllBelow : ℕ → List ℕ → Type 0
AreAllBelow count ks = AllByRecursion (λ k. k < count) ks × ((k : ℕ) → k < count → IsAmong k ks)

-- one list for each of the nodes, or a list for each
abbrev pub links_of : Option (List ℕ) → ℕ → List (List ℕ) → List (List ℕ)
links_of (Some all) count own = replicate count all
links_of None count own = own
