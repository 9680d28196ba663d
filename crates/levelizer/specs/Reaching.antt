-- The nodes to which arcs lead from some first nodes.

use Rattle.std.specs.Prelude.{◌≡◌, ℕ, ◌<◌, ◌≤◌, nat_eq, Bool, false, ◌&&◌, ◌||◌, List, take, length, count_by, slice_index_or}
use Rattle.std.specs.List.{list_any}
use Rattle.levelizer.specs.declared.links.Link.{Link}

-- a node is marked
abbrev pub has_mark : List Bool → ℕ → Bool
has_mark marks node = slice_index_or marks node false

-- an arc leads to a node from one that is marked
abbrev pub is_led_to : List Link → List Bool → ℕ → Bool
is_led_to arcs marks node = list_any (λ arc. nat_eq arc.to node && has_mark marks arc.from) arcs

-- the nodes below `n` that are marked are the first ones and those to which an arc leads from a marked one
pub record AreReached (n : ℕ) (arcs : List Link) (first : List ℕ) (marks : List Bool) : Type 0 where
  pub count : length marks ≡ n
  pub each : (node : ℕ) → node < n → has_mark marks node ≡ (list_any (nat_eq node) first || is_led_to arcs marks node)

-- the marked nodes are those of the queue, each once
pub record AreQueued (marks : List Bool) (queue : List ℕ) : Type 0 where
  pub agree : (node : ℕ) → list_any (nat_eq node) queue ≡ has_mark marks node
  pub count : length queue ≡ count_by (λ mark. mark) marks

-- some nodes more are marked, and stand at the end of the queue
pub record AreMarked (nodes : List ℕ) (before after : List Bool) (queue queue2 : List ℕ) : Type 0 where
  pub marks : (node : ℕ) → has_mark after node ≡ (has_mark before node || list_any (nat_eq node) nodes)
  pub queued : AreQueued after queue2
  pub kept : take (length queue) queue2 ≡ queue
  pub grown : length queue ≤ length queue2
