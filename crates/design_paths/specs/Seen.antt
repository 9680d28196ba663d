-- The worst paths of some endpoints.

use Rattle.std.specs.Prelude.{ℕ, ◌≡◌, List, map}
use Rattle.std.specs.List.{Contains}
use Rattle.timing_defs.specs.declared.kinds.Kind.{Kind}
use Rattle.timing_defs.specs.declared.rows.Path.{Path}
use Rattle.timing_defs.specs.declared.design.Design.{Design}
use Rattle.timing_defs.specs.Firsts.{AreFirst}
use Rattle.timing_rules.specs.Paths.{Holds}
use Rattle.timing_rules.specs.Ranking.{Ranked, ranked, comes_before, IsRanked, AreWorstPaths}
use Rattle.timing_rules.specs.Tests.{Test}
use Rattle.design_paths.specs.Kept.{kept_all}

-- a path is one of so many worst of one of these endpoints
abbrev pub IsOf : Design → Kind → ℕ → List (List ℕ) → Ranked → Type 0
IsOf d kind each pins r =
    (pin : List ℕ) × (ends : List Ranked)
    × Contains pins pin × AreFirst comes_before each (IsRanked d kind pin) ends × Contains ends r

-- the worst paths of these endpoints, at most so many of all and so many of one
abbrev pub AreOf : Design → Kind → ℕ → ℕ → List (List ℕ) → List Path → Type 0
AreOf d kind count each pins paths =
    ((p : Path) → Contains paths p → (test : Test) × Holds d kind p test)
    × AreFirst comes_before count (IsOf d kind each pins) (map ranked paths)

-- the worst paths of an endpoint were put among others
abbrev pub AreAdded : Design → Kind → ℕ → ℕ → List ℕ → List Path → List Path → Type 0
AreAdded d kind count each pin before after =
    (paths : List Path) × AreWorstPaths d kind pin each paths × (after ≡ kept_all count before paths)
