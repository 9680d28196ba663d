-- The slacks of a launch node and nodes after it are those of the launch node's arrival alone, less the delays after it.

use Rattle.std.proofs.Common.{◌≡◌, ℕ, ℤ, ◌+ℤ◌, ◌-ℤ◌, neg_ℤ, List, [], ◌∷◌, map, filter, Option, None, Some, refl, ap, arith}
use Rattle.std.specs.Prelude.{option_map}
use Rattle.std.specs.Option.{option_map_or}
use Rattle.std.proofs.lemmas.Int.{ints}
use Rattle.timing_defs.specs.declared.kinds.Split.{Split}
use Rattle.timing_defs.specs.declared.kinds.Tran.{Tran}
use Rattle.timing_defs.specs.declared.kinds.Kind.{Kind}
use Rattle.timing_defs.specs.declared.kinds.Kind.TheVariants.{Setup, Hold}
use Rattle.timing_defs.specs.declared.design.Design.{Design}
use Rattle.timing_defs.specs.RowTimes.{plus_some}
use Rattle.timing_rules.specs.Tests.{Test, tests_at, uncertainty_on}
use Rattle.timing_rules.specs.Paths.{Named, node_named, delay_between, walk_delay, capture_of, moved, slack_by, credit}
use Rattle.path_search.specs.Launches.{walk_names, launched_at, launch_slack, is_launch_tested, launch_slacks, signed}

pub slack_shifts : (kind : Kind) (test : Test) (sep unc c time rest : ℤ) → slack_by kind test sep unc c (time +ℤ rest) ≡ slack_by kind test sep unc c time -ℤ signed kind rest
slack_shifts Setup test sep unc c time rest =
    let early = test.early in
    let need = test.need in
    let e : (early +ℤ sep -ℤ need -ℤ unc +ℤ c -ℤ (time +ℤ rest)) ≡ ((early +ℤ sep -ℤ need -ℤ unc +ℤ c -ℤ time) -ℤ rest) = omega (arith, ints) in e
slack_shifts Hold test sep unc c time rest =
    let late = test.late in
    let need = test.need in
    let e : ((time +ℤ rest) -ℤ late -ℤ sep -ℤ need -ℤ unc +ℤ c) ≡ ((time -ℤ late -ℤ sep -ℤ need -ℤ unc +ℤ c) -ℤ neg_ℤ rest) = omega (arith, ints) in e

map_both : {X Y Z : Type 0} (f : Y → Z) (g : X → Y) (h : X → Z) (xs : List X) → ((x : X) → h x ≡ f (g x)) → map h xs ≡ map f (map g xs)
map_both f g h [] same = refl
map_both f g h (x ∷ xs) same = λ k. same x k ∷ map_both f g h xs same k

abbrev pub less : Kind → ℤ → Test × ℤ → Test × ℤ
less kind rest slack = (slack.0, slack.1 -ℤ signed kind rest)

pub slacks_shift : (d : Design) (kind : Kind) (launch : Named) (edge : ℕ × Tran) (time rest : ℤ) (end : Named)
    → launch_slacks d kind launch edge (time +ℤ rest) end ≡ map (less kind rest) (launch_slacks d kind launch edge time end)
slacks_shift d kind launch edge time rest end =
    map_both (less kind rest) (λ test. (test, launch_slack d kind launch edge time end test)) (λ test. (test, launch_slack d kind launch edge (time +ℤ rest) end test))
    (filter (is_launch_tested d kind launch edge end) (option_map_or (tests_at d kind) (node_named d end) []))
    (λ test k. (
      test,
      slack_shifts kind test (moved d kind (launched_at d launch edge) (capture_of d end test) edge test.capture) (uncertainty_on d kind test.capture.0) (credit d (walk_names d launch) edge test) time rest k,
    ))

-- sums of delays as the search takes them
signed_sum : (kind : Kind) (a b : Option ℤ) → option_map (signed kind) (plus_some a b) ≡ plus_some (option_map (signed kind) a) (option_map (signed kind) b)
signed_sum kind None b = refl
signed_sum kind (Some x) None = refl
signed_sum Setup (Some x) (Some y) = refl
signed_sum Hold (Some x) (Some y) = ap Some (let e : neg_ℤ (x +ℤ y) ≡ neg_ℤ x +ℤ neg_ℤ y = omega (arith, ints) in e)

pub signed_walk : (d : Design) (split : Split) (kind : Kind) (n m : Named) (ms : List Named)
    → option_map (signed kind) (walk_delay d split n (m ∷ ms)) ≡ plus_some (option_map (signed kind) (delay_between d split n m)) (option_map (signed kind) (walk_delay d split m ms))
signed_walk d split kind n m ms = signed_sum kind (delay_between d split n m) (walk_delay d split m ms)
