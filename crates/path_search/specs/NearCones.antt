-- The part of a pin's fan-in that has the nodes of near walks: those with at most a slack.

use Rattle.std.specs.Prelude.{ℕ, ◌≡◌, ◌<◌, ℤ, ◌≤ℤ◌, true, List, ◌∷◌, ◌++◌, All, Option, Some, option_map}
use Rattle.timing_defs.specs.declared.kinds.Kind.{Kind}
use Rattle.timing_defs.specs.Netlist.{Node}
use Rattle.timing_rules.specs.Paths.{named}
use Rattle.netlist_store.specs.Numbering.{Stored}
use Rattle.pin_graph.specs.Nodes.{node_at, node_bound}
use Rattle.pin_graph.specs.Graphs.{Graphed}
use Rattle.path_cones.specs.Delays.{followed_delay}
use Rattle.path_cones.specs.Reaching.{is_among}
use Rattle.bounded_slack.specs.Nets.{Net, IsLeastOfTwo}
use Rattle.bounded_slack.specs.Nears.{AreNear}
use Rattle.path_search.specs.declared.cones.EndNodes.{EndNodes}
use Rattle.path_search.specs.declared.cones.PinCone.{PinCone}
use Rattle.path_search.specs.declared.near_cones.NearEnds.{NearEnds}
use Rattle.path_search.specs.NodeSlacks.{IsEitherSlack, IsNumberSlack}
use Rattle.path_search.specs.PinCones.{AreEndNodes, IsPinPart}
use Rattle.path_search.specs.Slacks.{IsNodeOffer}

-- nodes, those of all walks by numbers to an end node with at most a slack among them
pub record AreNearTo (g : Graphed) (kind : Kind) (end : ℕ) (most : ℤ) (nodes : List ℕ) : Type 0 where
  pub offer : ℕ → Option ℤ
  pub offers : (node : Node) → node_at g.stored end ≡ Some node → (n : ℕ) → IsNodeOffer g.stored kind n (named node) (offer n)
  pub covers : (s : ℤ) (w : IsNumberSlack (λ a b. followed_delay g kind a b) offer end s) → s ≤ℤ most → All (λ n. is_among nodes n ≡ true) (w.first ∷ w.more)

-- the same of two end nodes
pub record AreNearEnds (g : Graphed) (kind : Kind) (ends : EndNodes) (most : ℤ) (nodes : List ℕ) : Type 0 where
  pub rise : AreNearTo g kind ends.rise most nodes
  pub fall : AreNearTo g kind ends.fall most nodes

-- the near nodes of two searches
pub record AreNearTwo (one other : Net) (most : ℤ) (nodes : List ℕ) : Type 0 where
  pub first : List ℕ
  pub second : List ℕ
  pub all : nodes ≡ first ++ second
  pub near_first : AreNear one most first
  pub near_second : AreNear other most second

-- the least slack of two searches, and the nodes of the walks that have it
pub record IsNearTwo (one other : Net) (found : Option NearEnds) : Type 0 where
  pub slack : IsLeastOfTwo one other (option_map (λ n. n.least) found)
  pub nodes : (n : NearEnds) → found ≡ Some n → AreNearTwo one other n.least n.nodes

-- nodes of the graph with those of the walks to two end nodes that have a slack
pub record AreNearNodes (g : Graphed) (kind : Kind) (ends : EndNodes) (n : NearEnds) : Type 0 where
  pub below : All (λ k. k < node_bound g.stored) n.nodes
  pub near : AreNearEnds g kind ends n.least n.nodes

-- the least slack of two end nodes, and the nodes of the walks that have it
pub record IsNearFound (s : Stored) (g : Graphed) (kind : Kind) (ends : EndNodes) (found : Option NearEnds) : Type 0 where
  pub slack : (rise fall : Node) → node_at s ends.rise ≡ Some rise → node_at s ends.fall ≡ Some fall
      → IsEitherSlack s.design kind (named rise) (named fall) (option_map (λ n. n.least) found)
  pub nodes : (n : NearEnds) → found ≡ Some n → AreNearNodes g kind ends n

-- the cone of a part of a pin's fan-in that has the nodes of near walks
pub record IsNearCone (g : Graphed) (kind : Kind) (pin : List ℕ) (most : ℤ) (c : PinCone) : Type 0 where
  pub part : IsPinPart g kind pin c
  pub ends : EndNodes
  pub are : AreEndNodes g.stored pin ends
  pub near : AreNearEnds g kind ends most c.nodes
