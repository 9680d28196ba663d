-- Nodes that wait by their levels, as a list of keys: a key is a level times 2^32, and a node.

use Rattle.std.specs.Prelude.{◌≡◌, ℕ, ◌+◌, ◌-◌, ◌*◌, ◌/◌, ◌%◌, ◌<◌, ◌==◌, ◌&&◌, Bool, false, not, max, List, [], ◌∷◌, length, map, All}
use Rattle.std.specs.List.{list_any, flat_map}
use Rattle.std.specs.Map.{values_of}
use Rattle.std.specs.List.Sorted.{IsStrictlyIncreasing}

abbrev pub key_level : ℕ → ℕ
key_level key = key / 4294967296

abbrev pub key_node : ℕ → ℕ
key_node key = key % 4294967296

-- the key of a node at a level
abbrev pub key_of : ℕ → ℕ → ℕ
key_of level node = level * 4294967296 + node

-- a node waits at a level
unfoldable pub waits : List ℕ → ℕ → ℕ → Bool
waits keys level node = list_any (λ key. (key_level key == level) && (key_node key == node)) keys

-- the keys of nodes that are listed by their levels
abbrev pub listed_keys : List (ℕ × List ℕ) → List ℕ
listed_keys lists = flat_map (λ e. map (key_of e.0) e.1) lists

-- each level's list has a node, and its nodes are below the span of a level
abbrev pub AreLists : List (ℕ × List ℕ) → Type 0
AreLists lists = All (λ nodes. (0 < length nodes) × All (λ node. node < 4294967296) nodes) (values_of lists)

-- the same numbers, each once and rising
pub record IsRisingOf (numbers sorted : List ℕ) : Type 0 where
  pub rising : IsStrictlyIncreasing sorted
  pub same : (n : ℕ) → list_any (λ node. node == n) sorted ≡ list_any (λ node. node == n) numbers

-- no node waits
abbrev pub IsIdle : List ℕ → Type 0
IsIdle keys = (level node : ℕ) → waits keys level node ≡ false

-- what waits, waits above this level
abbrev pub ArePast : ℕ → List ℕ → Type 0
ArePast level keys = All (λ key. level < key_level key) keys

-- how far the levels at which nodes wait are at most from the end of all levels: a turn takes from it
abbrev pub room : List ℕ → ℕ
room [] = 0
room (key ∷ keys) = max (4294967296 - key_level key) (room keys)

-- a turn takes out all nodes that wait at the least level, each once
pub record IsTurn (old new : List ℕ) (level : ℕ) (nodes : List ℕ) : Type 0 where
  pub low : level < 4294967296
  pub some : 0 < length nodes
  pub rising : IsStrictlyIncreasing nodes
  pub each : (n : ℕ) → list_any (λ node. node == n) nodes ≡ waits old level n
  pub least : (l n : ℕ) → l < level → waits old l n ≡ false
  pub rest : (l n : ℕ) → waits new l n ≡ (not (l == level) && waits old l n)
