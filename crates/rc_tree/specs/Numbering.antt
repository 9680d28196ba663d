-- Nodes of a net by their numbers: pins first, then inner nodes, each in the order in which they came.

use Rattle.std.specs.Prelude.{ℕ, ◌≡◌, ◌<◌, ◌||◌, false, List, ◌++◌, map, length, get_or, Option, MatchOption}
use Rattle.timing_defs.specs.declared.parasitics.RcNode.{RcNode}
use Rattle.timing_defs.specs.declared.parasitics.RcNode.TheVariants.{Pin as rc_pin, Inner as rc_inner}
use Rattle.timing_defs.specs.NetChecks.{different}
use Rattle.rc_tree.specs.Trees.{is_node}
use Rattle.rc_tree.specs.declared.nodes.Nodes.{Nodes}

abbrev pub numbered : Nodes → List RcNode
numbered n = map rc_pin n.pins ++ map rc_inner n.inners

abbrev pub node_at : List RcNode → ℕ → RcNode
node_at nodes i = get_or nodes i (rc_inner 0)

-- no node stands twice
abbrev pub AreApart : List RcNode → Type 0
AreApart nodes = (i j : ℕ) → i < length nodes → j < length nodes → node_at nodes i ≡ node_at nodes j → i ≡ j

-- the number of a node, none exactly where the node is not there
abbrev pub IsNumberOf : List RcNode → RcNode → Option ℕ → Type 0
IsNumberOf nodes node found =
    MatchOption found (is_node nodes node ≡ false) (λ n. (n < length nodes) × (node_at nodes n ≡ node))

-- the nodes `items` are joined to `old`: who is there, how many differ from each other, and a pin that is first stays first
pub record IsJoined (old items new : List RcNode) : Type 0 where
  pub members : (q : RcNode) → is_node new q ≡ (is_node old q || is_node items q)
  pub counted : (rest : List RcNode) → different new rest ≡ different old (items ++ rest)
  pub kept : (name : List ℕ) → node_at old 0 ≡ rc_pin name → node_at new 0 ≡ rc_pin name
