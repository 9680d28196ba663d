-- The path of a walk, and what it holds.

use Rattle.std.proofs.Common.{◌≡◌, ℕ, ℤ, ◌+ℤ◌, ◌-ℤ◌, ◌≤ℤ◌, true, List, [], ◌++◌, map, Some, sym, ap, subst, ◌∙◌, arith}
use Rattle.std.specs.Prelude.{Contains, filter}
use Rattle.std.specs.Option.{option_map_or}
use Rattle.std.proofs.lemmas.Int.{ints}
use Rattle.timing_defs.specs.declared.kinds.Kind.{Kind}
use Rattle.timing_defs.specs.declared.kinds.Tran.{Tran}
use Rattle.timing_defs.specs.declared.rows.Path.{Path}
use Rattle.timing_defs.specs.declared.design.Design.{Design}
use Rattle.timing_rules.specs.Tests.{Test, tests_at}
use Rattle.timing_defs.specs.Kinds.{data_split}
use Rattle.timing_rules.specs.Paths.{Named, node_named, clock_not_after, credit, ends_at, path_edge, path_named, path_slacks, path_times, times_along, Counts, Holds}
use Rattle.timing_defs.proofs.Members.{in_map_back, kept_in}
use Rattle.worst_walks.specs.declared.cones.Cone.{Cone}
use Rattle.worst_walks.specs.declared.cones.Walk.{Walk}
use Rattle.path_search.specs.Runs.{IsTimed}
use Rattle.path_search.specs.Launches.{IsLaunched, begin_names, begin_times, is_launch_tested, launch_slack, launch_slacks, signed, walk_names}
use Rattle.path_search.proofs.Slacks.{tests_told}
use Rattle.path_search.proofs.Launching.{parts_of, path_of, slacks_of_launch}
use Rattle.path_search.proofs.Endings.{edge_told, ends_told}
use Rattle.path_search.proofs.PathTimes.{times_of_launch}
use Rattle.path_search.proofs.ConeCourses.{IsWalkCourse, shifted, unshifted}

pub low_slack : (offer first rest s t : ℤ) → offer -ℤ rest ≡ s → first -ℤ rest ≡ t → offer ≤ℤ first → s ≤ℤ t
low_slack offer first rest s t a b low = omega (arith, ints)

tied_slack : (offer first rest s t : ℤ) → offer -ℤ rest ≡ s → first -ℤ rest ≡ t → t ≡ s → first ≡ offer
tied_slack offer first rest s t a b e = omega (arith, ints)

module _ (d : Design) (t : IsTimed d) (kind : Kind) (pin : List ℕ) (cone : Cone) (Near : ℕ → Type 0) (name : ℕ → Named) (walk : Walk)
    (v : IsWalkCourse d kind pin cone Near name walk) (edge : ℕ × Tran) (time : ℤ) (l : IsLaunched d (data_split kind) edge (name v.launch.node) time) where
  abbrev path_in : List Named
  path_in = begin_names d (name v.launch.node) ++ map name v.more

  pub slacks_are : path_slacks d kind path_in ≡ launch_slacks d kind (name v.launch.node) edge (time +ℤ v.rest) (name v.end.node)
  slacks_are =
      slacks_of_launch d t kind edge (name v.launch.node) time l (map name v.more) v.rest v.course.tail
      ∙ ap (launch_slacks d kind (name v.launch.node) edge (time +ℤ v.rest)) v.last

  pub ends_in : ends_at pin path_in ≡ true
  ends_in = ends_told d t kind edge (name v.launch.node) time l (map name v.more) v.rest v.course.tail pin ∙ v.course.ends

  times_in_path : path_times d (data_split kind) path_in ≡ begin_times d (data_split kind) edge (name v.launch.node) ++ times_along d (data_split kind) time (name v.launch.node) (map name v.more)
  times_in_path = times_of_launch d t (data_split kind) edge (name v.launch.node) time l (map name v.more) v.rest v.course.tail

  edge_in : path_edge d (data_split kind) path_in ≡ Some edge
  edge_in =
      edge_told d (data_split kind) edge path_in (name v.launch.node) (time +ℤ v.rest)
      (path_of d t (data_split kind) edge (name v.launch.node) time l (map name v.more) v.rest v.course.tail)

  module _ (test : Test) (within : Contains (launch_slacks d kind (name v.launch.node) edge time (name v.end.node)) (test, v.launch.offer)) where
    counts : ((other : Test) (u : ℤ) → Contains (launch_slacks d kind (name v.launch.node) edge time (name v.end.node)) (other, u)
        → (v.launch.offer ≤ℤ u) × (u ≡ v.launch.offer → clock_not_after test.clock other.clock ≡ true)) → Counts d kind path_in test walk.slack
    counts first = (
      subst (λ (xs : List (Test × ℤ)). Contains xs (test, walk.slack)) (sym slacks_are)
          (subst (λ (x : ℤ). Contains (launch_slacks d kind (name v.launch.node) edge (time +ℤ v.rest) (name v.end.node)) (test, x)) v.slack
          (shifted d kind (name v.launch.node) edge time v.rest (name v.end.node) test v.launch.offer within)),
      λ other u c.
          (let w = unshifted d kind (name v.launch.node) edge time v.rest (name v.end.node) other u (subst (λ (xs : List (Test × ℤ)). Contains xs (other, u)) slacks_are c) in
          let f = first other w.first w.within in
          let slack = v.slack in
          let is = w.is in (
            low_slack v.launch.offer w.first (signed kind v.rest) walk.slack u slack is f.0,
            λ e. f.1 (tied_slack v.launch.offer w.first (signed kind v.rest) walk.slack u slack is e),
          )),
    )

    credit_in : credit d path_in edge test ≡ credit d (walk_names d (name v.launch.node)) edge test
    credit_in =
        let m = in_map_back (λ x. (x, launch_slack d kind (name v.launch.node) edge time (name v.end.node) x))
        (filter (is_launch_tested d kind (name v.launch.node) edge (name v.end.node)) (option_map_or (tests_at d kind) (node_named d (name v.end.node)) []))
        (test, v.launch.offer) within in
        let same : m.item ≡ test = ap (λ (x : Test × ℤ). x.0) m.same in
        let inside = kept_in (is_launch_tested d kind (name v.launch.node) edge (name v.end.node)) (option_map_or (tests_at d kind) (node_named d (name v.end.node)) []) m.item m.within in
        tests_told d t kind edge path_in (name v.launch.node) (time +ℤ v.rest)
        (path_of d t (data_split kind) edge (name v.launch.node) time l (map name v.more) v.rest v.course.tail)
        (parts_of d t (data_split kind) edge (name v.launch.node) time l (map name v.more) v.rest v.course.tail)
        (name v.end.node) test (subst (λ (x : Test). Contains (option_map_or (tests_at d kind) (node_named d (name v.end.node)) []) x) same inside)

    -- a path with these nodes, times, edges, slack and credit
    pub holds_in : ((other : Test) (u : ℤ) → Contains (launch_slacks d kind (name v.launch.node) edge time (name v.end.node)) (other, u)
        → (v.launch.offer ≤ℤ u) × (u ≡ v.launch.offer → clock_not_after test.clock other.clock ≡ true))
        → (p : Path) → path_named p ≡ path_in
        → map (λ node. node.time.0) p.nodes ≡ begin_times d (data_split kind) edge (name v.launch.node) ++ times_along d (data_split kind) time (name v.launch.node) (map name v.more)
        → edge ≡ (p.launch_clock, p.launch_tran) → (p.capture_clock, p.capture_tran) ≡ test.capture → p.credit.0 ≡ credit d (walk_names d (name v.launch.node)) edge test
        → p.slack.0 ≡ walk.slack → Holds d kind p test
    holds_in first p names times edges capture credits slack =
        let back = sym names in (
          subst (λ (x : ℤ). Counts d kind (path_named p) test x) (sym slack) (subst (λ (xs : List Named). Counts d kind xs test walk.slack) back (counts first)),
          times ∙ sym times_in_path ∙ ap (path_times d (data_split kind)) back,
          ap (path_edge d (data_split kind)) names ∙ edge_in ∙ ap Some edges,
          capture,
          credits ∙ sym credit_in ∙ (λ k. credit d (back k) (edges k) test),
        )
