-- The slacks of a path by its launch node, launch edge, length and end.

use Rattle.std.proofs.Common.{◌≡◌, ℕ, ℤ, ◌+ℤ◌, List, [], ◌∷◌, ◌++◌, map, filter, Option, None, Some, refl, sym, ap, ◌∙◌}
use Rattle.std.specs.Prelude.{Contains}
use Rattle.std.specs.Option.{option_map_or}
use Rattle.timing_defs.specs.declared.kinds.Tran.{Tran}
use Rattle.timing_defs.specs.declared.kinds.Kind.{Kind}
use Rattle.timing_defs.specs.declared.design.Design.{Design}
use Rattle.timing_defs.specs.Netlist.{Node}
use Rattle.timing_rules.specs.Tests.{Test, tests_at, uncertainty_on}
use Rattle.timing_defs.specs.Kinds.{data_split}
use Rattle.timing_rules.specs.Paths.{Named, node_named, last_of, walk_delay, start_of, launch_node, launch_of, capture_of, credit, moved, slack_by, slacks_from, path_slacks}
use Rattle.timing_rules.specs.Rules.{is_tested}
use Rattle.timing_rules.proofs.RowLaws.{first_in, later_in}
use Rattle.timing_defs.proofs.Members.{none_in, kept_in}
use Rattle.path_search.specs.Runs.{IsTimed}
use Rattle.path_search.specs.Launches.{IsWhole, IsParted, IsPath, walk_names, launched_at, launch_slack, is_launch_tested, launch_slacks}
use Rattle.path_search.proofs.NodeNames.{name_told}
use Rattle.path_search.proofs.PathParts.{parts}
use Rattle.path_search.proofs.Credits.{test_inside, credit_told}

map_agree : {X Y : Type 0} (f g : X → Y) (xs : List X) → ((x : X) → Contains xs x → f x ≡ g x) → map f xs ≡ map g xs
map_agree f g [] same = refl
map_agree f g (x ∷ xs) same = λ k. same x (first_in x xs) k ∷ map_agree f g xs (λ y c. same y (later_in x xs y c)) k

-- the end of a path in parts
last_append : (n : Named) (xs : List Named) (l : Named) (ys : List Named) → last_of n (xs ++ l ∷ ys) ≡ last_of l ys
last_append n [] l ys = refl
last_append n (x ∷ xs) l ys = last_append x xs l ys

abbrev final : Named → List Named → Named
final z [] = z
final z (n ∷ ms) = last_of n ms

final_append : (z : Named) (pre : List Named) (l : Named) (post : List Named) → final z (pre ++ l ∷ post) ≡ last_of l post
final_append z [] l post = refl
final_append z (x ∷ xs) l post = last_append x xs l post

module _ (d : Design) (t : IsTimed d) (kind : Kind) (edge : ℕ × Tran) (path : List Named) (launch : Named) (length : ℤ)
    (w : IsWhole d (data_split kind) edge path launch length) (p : IsParted d (data_split kind) edge path launch length) where
  pub end_told : last_of w.first w.more ≡ last_of launch p.post
  end_told = ap (final launch) (sym w.nodes ∙ p.nodes) ∙ final_append launch p.pre launch p.post

  pub launch_told : launch_of d w.first w.more edge ≡ launched_at d launch edge
  launch_told = ap (λ (n : Named). launched_at d n edge) w.last

  pub tests_told : (end : Named) (test : Test) → Contains (option_map_or (tests_at d kind) (node_named d end) []) test → credit d path edge test ≡ credit d (walk_names d launch) edge test
  tests_told end test c = by (node_named d end) refl c
    where
      by : (o : Option Node) → node_named d end ≡ o → Contains (option_map_or (tests_at d kind) o []) test → credit d path edge test ≡ credit d (walk_names d launch) edge test
      by None e h = absurd (none_in test h)
      by (Some n) e h = credit_told d t (data_split kind) edge path launch length p test (test_inside d t kind n (name_told d t end n e).0 test h)

  -- the tests of the end that are not removed, with the slack of the path by each
  from_told : slacks_from d kind w.first w.more edge length ≡ launch_slacks d kind launch edge length (last_of w.first w.more)
  from_told =
      (λ k. map (λ test. (
        test,
        slack_by kind test (moved d kind (launch_told k) (capture_of d (last_of w.first w.more) test) edge test.capture) (uncertainty_on d kind test.capture.0)
            (credit d (w.first ∷ w.more) edge test) length,
      ))
      (filter (λ test. is_tested d.constraints kind (launch_told k) (capture_of d (last_of w.first w.more) test)) (option_map_or (tests_at d kind) (node_named d (last_of w.first w.more)) [])))
      ∙ map_agree (λ test. (
        test,
        slack_by kind test (moved d kind (launched_at d launch edge) (capture_of d (last_of w.first w.more) test) edge test.capture) (uncertainty_on d kind test.capture.0)
            (credit d (w.first ∷ w.more) edge test) length,
      ))
      (λ test. (test, launch_slack d kind launch edge length (last_of w.first w.more) test))
      (filter (is_launch_tested d kind launch edge (last_of w.first w.more)) (option_map_or (tests_at d kind) (node_named d (last_of w.first w.more)) []))
      (λ test c. let same = ap (λ (xs : List Named). credit d xs edge test) (sym w.nodes)
      ∙ tests_told (last_of w.first w.more) test (kept_in (is_launch_tested d kind launch edge (last_of w.first w.more)) (option_map_or (tests_at d kind) (node_named d (last_of w.first w.more)) []) test c) in
      ap (λ v. (test, slack_by kind test (moved d kind (launched_at d launch edge) (capture_of d (last_of w.first w.more) test) edge test.capture) (uncertainty_on d kind test.capture.0) v length)) same)

  whole_told : path_slacks d kind path ≡ slacks_from d kind w.first w.more edge length
  whole_told =
      ap (path_slacks d kind) w.nodes
      ∙ ap (λ o. option_map_or (λ (g, time). option_map_or (λ sum. slacks_from d kind w.first w.more g (time +ℤ sum)) (walk_delay d (data_split kind) w.first w.more) []) o []) w.starts
      ∙ ap (λ o. option_map_or (λ sum. slacks_from d kind w.first w.more edge (w.time +ℤ sum)) o []) w.walks
      ∙ ap (slacks_from d kind w.first w.more edge) w.total

  pub slacks_in_parts : path_slacks d kind path ≡ launch_slacks d kind launch edge length (last_of launch p.post)
  slacks_in_parts = whole_told ∙ from_told ∙ ap (launch_slacks d kind launch edge length) end_told

-- the slacks of a path
pub slacks_told : (d : Design) (t : IsTimed d) (kind : Kind) (edge : ℕ × Tran) (path : List Named) (launch : Named) (length : ℤ) (w : IsWhole d (data_split kind) edge path launch length)
    → path_slacks d kind path ≡ launch_slacks d kind launch edge length (last_of w.first w.more)
slacks_told d t kind edge path launch length w =
    whole_told d t kind edge path launch length w (parts d t (data_split kind) edge path launch length w)
    ∙ from_told d t kind edge path launch length w (parts d t (data_split kind) edge path launch length w)

-- what has a slack is a path
pub whole_of : (d : Design) (kind : Kind) (path : List Named) (slack : Test × ℤ) → Contains (path_slacks d kind path) slack → IsPath d (data_split kind) path
whole_of d kind [] slack c = absurd (none_in slack c)
whole_of d kind (n ∷ ms) slack c = by (start_of d (data_split kind) n) refl c
  where
    sums : (edge : ℕ × Tran) (time : ℤ) → start_of d (data_split kind) n ≡ Some (edge, time) → (o : Option ℤ) → walk_delay d (data_split kind) n ms ≡ o
        → Contains (option_map_or (λ sum. slacks_from d kind n ms edge (time +ℤ sum)) o []) slack → IsPath d (data_split kind) (n ∷ ms)
    sums edge time e None f h = absurd (none_in slack h)
    sums edge time e (Some sum) f h = record {
      edge = edge;
      launch = launch_node d n ms;
      length = time +ℤ sum;
      whole = record { first = n; more = ms; nodes = refl; time = time; starts = e; sum = sum; walks = f; total = refl; last = refl };
    }

    by : (o : Option ((ℕ × Tran) × ℤ)) → start_of d (data_split kind) n ≡ o
        → Contains (option_map_or (λ (edge, time). option_map_or (λ sum. slacks_from d kind n ms edge (time +ℤ sum)) (walk_delay d (data_split kind) n ms) []) o []) slack
        → IsPath d (data_split kind) (n ∷ ms)
    by None e h = absurd (none_in slack h)
    by (Some (edge, time)) e h = sums edge time e (walk_delay d (data_split kind) n ms) refl h
