-- What a sweep in the order of Kahn's queue leaves for each node.

use Rattle.std.specs.Prelude.{◌≡◌, ℕ, ◌+◌, ◌<◌, ◌==◌, ◌&&◌, if◌then◌else◌, nat_lt, max, List, [], ◌∷◌, Bool, length, count_by, slice_index}
use Rattle.levelizer.specs.declared.links.Link.{Link}

-- one where a count went to 0, else none
abbrev pub freed : ℕ → ℕ → ℕ
freed before after = (if nat_lt 0 before && (after == 0) then 1 else 0)

-- one more than the greatest level of those predecessors of a node that pass a test; 0 of none
abbrev pub level_over : (ℕ → Bool) → List ℕ → List Link → ℕ → ℕ
level_over passes levels [] node = 0
level_over passes levels (arc ∷ arcs) node =
    (if (arc.to == node) && passes arc.from then max (slice_index levels arc.from + 1) (level_over passes levels arcs node)
    else level_over passes levels arcs node)

-- a node waits while an arc leads to it from a node that waits
abbrev pub waits : List ℕ → ℕ → Bool
waits waiting node = nat_lt 0 (slice_index waiting node)

-- each count is that of the arcs from nodes that wait, each level is over the predecessors that do not
pub record IsSwept (n : ℕ) (arcs : List Link) (levels waiting : List ℕ) : Type 0 where
  pub levels_count : length levels ≡ n
  pub waiting_count : length waiting ≡ n
  pub count : (m : ℕ) → m < n → slice_index waiting m ≡ count_by (λ arc. (arc.to == m) && waits waiting arc.from) arcs
  pub level : (m : ℕ) → m < n → slice_index levels m ≡ level_over (λ x. slice_index waiting x == 0) levels arcs m
