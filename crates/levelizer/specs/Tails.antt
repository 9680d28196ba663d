-- Going against the arcs among the nodes that a sweep leaves waiting.

use Rattle.std.specs.Prelude.{ℕ, ◌<◌, ◌==◌, ◌&&◌, List, Bool, false, count_by, slice_index, slice_index_or}
use Rattle.levelizer.specs.declared.links.Link.{Link}
use Rattle.levelizer.specs.Levels.{IsJoined}
use Rattle.levelizer.specs.Sweep.{waits}

-- how many arcs lead to a node from nodes that wait
abbrev pub waiting_arcs : List ℕ → List Link → ℕ → ℕ
waiting_arcs waiting arcs node = count_by (λ arc. (arc.to == node) && waits waiting arc.from) arcs

-- an arc leads to the node from its tail, which waits
pub record IsTail (arcs : List Link) (waiting : List ℕ) (tail node : ℕ) : Type 0 where
  pub joined : IsJoined arcs tail node
  pub still : 0 < slice_index waiting tail

-- each node to which some of the first arcs leads from a node that waits has a tail
abbrev pub AreTails : List Link → List ℕ → List Link → List ℕ → Type 0
AreTails arcs waiting first tails = (m : ℕ) → 0 < waiting_arcs waiting first m → IsTail arcs waiting (slice_index tails m) m

-- a node is marked
abbrev pub is_marked : List Bool → ℕ → Bool
is_marked marks node = slice_index_or marks node false
