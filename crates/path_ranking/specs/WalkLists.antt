-- The paths that are read off walks of a pin's cone, one by one.

use Rattle.std.specs.Prelude.{ℕ, List, [], ◌∷◌}
use Rattle.timing_defs.specs.declared.kinds.Kind.{Kind}
use Rattle.timing_defs.specs.declared.rows.Path.{Path}
use Rattle.pin_graph.specs.Graphs.{Graphed}
use Rattle.worst_walks.specs.declared.cones.Walk.{Walk}
use Rattle.path_search.specs.declared.cones.PinCone.{PinCone}
use Rattle.path_search.specs.PinCones.{IsWalkPath}

abbrev pub ArePathsOf : Graphed → Kind → List ℕ → PinCone → List Walk → List Path → Type 0
ArePathsOf g kind pin c [] [] = Unit {0}
ArePathsOf g kind pin c [] (path ∷ paths) = ⊥
ArePathsOf g kind pin c (walk ∷ walks) [] = ⊥
ArePathsOf g kind pin c (walk ∷ walks) (path ∷ paths) = IsWalkPath g kind pin c walk path × ArePathsOf g kind pin c walks paths
