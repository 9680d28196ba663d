-- The worst paths of an endpoint in order (as `report_timing` of OpenTimer gives them). Nothing is free.

use Rattle.std.specs.Prelude.{ℕ, ◌≡◌, ℤ, ◌≤ℤ◌, Bool, true, List, map}
use Rattle.std.specs.List.{Contains}
use Rattle.std.specs.Ordering.{int_cmp, ordering_then, is_lt}
use Rattle.timing_defs.specs.declared.kinds.Kind.{Kind}
use Rattle.timing_defs.specs.declared.rows.Path.{Path}
use Rattle.timing_defs.specs.declared.design.Design.{Design}
use Rattle.timing_defs.specs.Firsts.{AreFirst}
use Rattle.timing_rules.specs.Paths.{Named, nodes_cmp, path_slacks, ends_at, path_named, Holds}
use Rattle.timing_rules.specs.Tests.{Test}

-- the slack of a tested path: the least over its tests
abbrev pub IsPathSlack : Design → Kind → List Named → ℤ → Type 0
IsPathSlack d kind path slack =
    ((test : Test) × Contains (path_slacks d kind path) (test, slack))
    × ((test : Test) (t : ℤ) → Contains (path_slacks d kind path) (test, t) → slack ≤ℤ t)

-- a path by its slack and its nodes; paths are ordered by slack, then by their nodes
abbrev pub Ranked : Type 0
Ranked = ℤ × List Named

abbrev pub comes_before : Ranked → Ranked → Bool
comes_before a b = is_lt (ordering_then (int_cmp a.0 b.0) (nodes_cmp a.1 b.1))

abbrev pub ranked : Path → Ranked
ranked p = (p.slack.0, path_named p)

-- a tested path to an endpoint
abbrev pub IsRanked : Design → Kind → List ℕ → Ranked → Type 0
IsRanked d kind pin r = (ends_at pin r.1 ≡ true) × IsPathSlack d kind r.1 r.0

-- the worst paths of an endpoint, at most so many
abbrev pub AreWorstPaths : Design → Kind → List ℕ → ℕ → List Path → Type 0
AreWorstPaths d kind pin count paths =
    ((p : Path) → Contains paths p → (test : Test) × Holds d kind p test)
    × AreFirst comes_before count (IsRanked d kind pin) (map ranked paths)
