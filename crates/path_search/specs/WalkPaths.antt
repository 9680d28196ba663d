-- The walks of a pin's cone are the tested paths to the pin, each once and in one order.

use Rattle.std.specs.Prelude.{ℕ, ◌≡◌, ℤ, ◌≤ℤ◌, true, List, [], ◌∷◌, ◌++◌, map, Contains}
use Rattle.timing_defs.specs.declared.kinds.Kind.{Kind}
use Rattle.timing_rules.specs.Tests.{Test}
use Rattle.timing_rules.specs.Paths.{Named, ends_at, path_slacks}
use Rattle.timing_rules.specs.Ranking.{Ranked, comes_before as path_before, IsPathSlack, IsRanked}
use Rattle.pin_graph.specs.Graphs.{Graphed}
use Rattle.worst_walks.specs.declared.cones.Walk.{Walk}
use Rattle.worst_walks.specs.Walks.{comes_before as walk_before, IsWalk}
use Rattle.path_search.specs.declared.cones.PinCone.{PinCone}
use Rattle.path_search.specs.Launches.{begin_names}
use Rattle.path_search.specs.PinCones.{place_name}
use Rattle.path_search.specs.Ranks.{place_rank, places_before}

-- the names of a walk's nodes, those of the clock network before its launch included
abbrev pub walk_names_of : Graphed → PinCone → List ℕ → List Named
walk_names_of g c [] = []
walk_names_of g c (n ∷ ns) = begin_names g.stored.design (place_name g.stored c.nodes n) ++ map (place_name g.stored c.nodes) ns

-- a walk as paths are ranked: by its slack and its names
abbrev pub ranked_walk : Graphed → PinCone → Walk → Ranked
ranked_walk g c walk = (walk.slack, walk_names_of g c walk.nodes)

pub record AreWalkPaths (g : Graphed) (kind : Kind) (pin : List ℕ) (c : PinCone) : Type 0 where
  -- each walk is a tested path to the pin, with the least slack over the path's tests
  pub sound : (walk : Walk) → IsWalk c.cone walk → IsRanked g.stored.design kind pin (ranked_walk g c walk)
  -- each tested path to the pin is a walk
  pub whole : (r : Ranked) → IsRanked g.stored.design kind pin r → (walk : Walk) × IsWalk c.cone walk × (ranked_walk g c walk ≡ r)
  -- a path with some test's slack has a least slack
  pub least : (path : List Named) (test : Test) (s : ℤ) → ends_at pin path ≡ true → Contains (path_slacks g.stored.design kind path) (test, s)
      → (t : ℤ) × IsPathSlack g.stored.design kind path t × (t ≤ℤ s)
  -- walks are ordered as their paths
  pub order : (a b : Walk) → IsWalk c.cone a → IsWalk c.cone b
      → path_before (ranked_walk g c a) (ranked_walk g c b) ≡ walk_before (place_rank g.stored c.nodes) (places_before g c.nodes) a b
  -- different walks are different paths
  pub apart : (a b : Walk) → IsWalk c.cone a → IsWalk c.cone b → ranked_walk g c a ≡ ranked_walk g c b → a ≡ b
