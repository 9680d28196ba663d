-- The places of a walk of a pin's cone, and how they compare with the names of its nodes.

use Rattle.std.specs.Prelude.{ℕ, ◌≡◌, ◌<◌, true, List, [], ◌∷◌, ◌++◌, map, length, All, Some}
use Rattle.std.specs.Ordering.{nat_cmp}
use Rattle.std.specs.Cmp.Lexicographic.{slice_cmp}
use Rattle.timing_rules.specs.Paths.{nodes_cmp}
use Rattle.netlist_store.specs.Numbering.{name_at}
use Rattle.pin_graph.specs.Nodes.{pin_under}
use Rattle.pin_graph.specs.Graphs.{Graphed}
use Rattle.path_cones.specs.Reaching.{AreOnce}
use Rattle.worst_walks.specs.declared.cones.Walk.{Walk}
use Rattle.worst_walks.specs.Walks.{count_of, is_first, ranks_along, IsWalk}
use Rattle.path_search.specs.declared.cones.PinCone.{PinCone}
use Rattle.path_search.specs.PinCones.{place_name}
use Rattle.path_search.specs.Ranks.{node_of, place_rank, places_before}
use Rattle.path_search.specs.WalkPaths.{walk_names_of}

-- the places of a walk: of its launch and of the nodes after it; the names of its nodes are those of the places before its
-- launch and of its own, and each of these has the name of its pin's number
pub record ArePlaces (g : Graphed) (c : PinCone) (walk : Walk) : Type 0 where
  pub first : ℕ
  pub more : List ℕ
  pub nodes : walk.nodes ≡ first ∷ more
  pub launched : is_first c.cone first ≡ true
  pub low : All (λ n. n < length c.nodes) more
  pub names : walk_names_of g c (first ∷ more) ≡ map (place_name g.stored c.nodes) (places_before g c.nodes first ++ first ∷ more)
  pub there : All (λ n. name_at g.stored.pins (pin_under (node_of c.nodes n)) ≡ Some (place_name g.stored c.nodes n).0) (places_before g c.nodes first ++ first ∷ more)

pub record AreWalkPlaces (g : Graphed) (c : PinCone) : Type 0 where
  pub count : count_of c.cone ≡ length c.nodes
  -- the nodes of a cone stand in it once
  pub once : AreOnce c.nodes
  pub places : (walk : Walk) → IsWalk c.cone walk → ArePlaces g c walk
  -- names of walks are in the order of their ranks
  pub compared : (a b : Walk) → IsWalk c.cone a → IsWalk c.cone b
      → nodes_cmp (walk_names_of g c a.nodes) (walk_names_of g c b.nodes)
      ≡ slice_cmp nat_cmp (ranks_along (place_rank g.stored c.nodes) (places_before g c.nodes) a) (ranks_along (place_rank g.stored c.nodes) (places_before g c.nodes) b)
