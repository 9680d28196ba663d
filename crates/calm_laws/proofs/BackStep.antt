-- A node with the same launch edges, tests and arcs out has the same required times over the same ones after it.

use Rattle.std.proofs.Common.{◌≡◌, ℕ, true, false, filter, Some, sym, ap, ◌∙◌, inl, inr}
use Rattle.std.specs.Prelude.{Contains, pos, ◌+ℤ◌, ◌-ℤ◌, slice_get, is_some, option_map}
use Rattle.std.specs.List.{filter_map}
use Rattle.std.specs.Option.{option_map_or}
use Rattle.std.proofs.lemmas.Bool.{cases_Bool}
use Rattle.timing_defs.specs.declared.kinds.Split.{Split}
use Rattle.timing_defs.specs.declared.kinds.Split.TheVariants.{Early, Late}
use Rattle.timing_defs.specs.declared.kinds.Tran.{Tran}
use Rattle.timing_defs.specs.declared.kinds.Kind.{Kind}
use Rattle.timing_defs.specs.declared.kinds.Kind.TheVariants.{Setup, Hold}
use Rattle.timing_defs.specs.declared.design.Design.{Design}
use Rattle.timing_defs.specs.declared.rows.BackRow.{BackRow}
use Rattle.timing_defs.specs.Netlist.{Node}
use Rattle.timing_defs.specs.RowTimes.{time_on}
use Rattle.timing_rules.specs.Rows.{edge_time, delay, arrival}
use Rattle.timing_rules.specs.Tests.{Test, tests_at, is_endpoint, separation, separation_on, uncertainty_on}
use Rattle.timing_defs.specs.Kinds.{uncertainty}
use Rattle.timing_defs.specs.Kinds.{kind_of, other_split}
use Rattle.timing_rules.specs.Required.{arcs_out, limit_by, limit_of, less_some, required_of, required_times, back_step}
use Rattle.timing_defs.specs.RowTimes.{back_times}
use Rattle.node_rows.proofs.MergeLaws.{AreMatched, outermost_same}
use Rattle.netlist_store.proofs.Untouched.{IsFramed}
use Rattle.calm_laws.proofs.Calm.{AreAlike}
use Rattle.calm_laws.proofs.AlikeLaws.{edges_same}

-- two tests with the same values
pub record AreSameTests (test test2 : Test) : Type 0 where
  pub need : test.need ≡ test2.need
  pub capture : test.capture ≡ test2.capture
  pub early : test.early ≡ test2.early
  pub late : test.late ≡ test2.late

-- an arc out of each: to alike nodes, with the same delays
pub record IsOutPair (d d2 : Design) (n n2 : Node) (to to2 : Node) : Type 0 where
  pub before : Contains (arcs_out d n) to
  pub after : Contains (arcs_out d2 n2) to2
  pub alike : AreAlike to to2
  pub delays : (split : Split) → delay d split n to ≡ delay d2 split n2 to2

-- what required times are computed from, the required times after the node apart
pub record IsBackCalm (d d2 : Design) (n n2 : Node) : Type 0 where
  pub framed : IsFramed d d2
  pub ends : is_endpoint d n.pin ≡ is_endpoint d2 n2.pin
  pub arrive : (split : Split) (edge : ℕ × Tran) → is_some (arrival d split n edge) ≡ is_some (arrival d2 split n2 edge)
  pub tests : is_endpoint d n.pin ≡ true → (split : Split) → AreMatched (tests_at d (kind_of split) n) (tests_at d2 (kind_of split) n2) AreSameTests
  pub outs : is_endpoint d n.pin ≡ false → AreMatched (arcs_out d n) (arcs_out d2 n2) (IsOutPair d d2 n n2)

module _ (d d2 : Design) (framed : IsFramed d d2) where
  pub limit_kept : (kind : Kind) (edge : ℕ × Tran) (test test2 : Test) → AreSameTests test test2 → limit_of d kind edge test ≡ limit_of d2 kind edge test2
  limit_kept kind edge test test2 same =
      by kind
      ∙ (λ k. limit_by kind test2 (separation_on d kind edge (same.capture k)) (uncertainty_on d kind (same.capture k).0))
      ∙ (λ k. limit_by kind test2
      (option_map_or (λ l. option_map_or (λ c. separation kind l edge.1 c test2.capture.1) (slice_get (sym framed.constraints k).clocks test2.capture.0) (pos 0))
      (slice_get (sym framed.constraints k).clocks edge.0) (pos 0))
      (option_map_or (uncertainty kind) (slice_get (sym framed.constraints k).clocks test2.capture.0) (pos 0)))
    where
      by : (k : Kind) → limit_by k test (separation_on d kind edge test.capture) (uncertainty_on d kind test.capture.0)
          ≡ limit_by k test2 (separation_on d kind edge test.capture) (uncertainty_on d kind test.capture.0)
      by Setup = λ j. same.early j +ℤ separation_on d kind edge test.capture -ℤ same.need j -ℤ uncertainty_on d kind test.capture.0
      by Hold = λ j. same.late j +ℤ separation_on d kind edge test.capture +ℤ same.need j +ℤ uncertainty_on d kind test.capture.0

module _ (d d2 : Design) (n n2 : Node) (calm : IsBackCalm d d2 n n2) (f g : Node → BackRow)
    (same : (to to2 : Node) → IsOutPair d d2 n n2 to to2 → f to ≡ g to2) where
  pub required_kept : (split : Split) (edge : ℕ × Tran) → required_of d split f n edge ≡ required_of d2 split g n2 edge
  required_kept split edge = elim (cases_Bool (is_endpoint d n.pin)) [
    | inl e ↦
        let e2 : is_endpoint d2 n2.pin ≡ true = sym calm.ends ∙ e in
        rw e (rw e2 (outermost_same (tests_at d (kind_of split) n) (tests_at d2 (kind_of split) n2) AreSameTests (calm.tests e split) (other_split split)
        (λ test. Some (limit_of d (kind_of split) edge test)) (λ test. Some (limit_of d2 (kind_of split) edge test))
        (λ x y c s. ap Some (limit_kept d d2 calm.framed (kind_of split) edge x y s))))
    | inr e ↦
        let e2 : is_endpoint d2 n2.pin ≡ false = sym calm.ends ∙ e in
        rw e (rw e2 (outermost_same (arcs_out d n) (arcs_out d2 n2) (IsOutPair d d2 n n2) (calm.outs e) (other_split split)
        (λ to. less_some (time_on (back_times split (f to)) edge) (delay d split n to))
        (λ to. less_some (time_on (back_times split (g to)) edge) (delay d2 split n2 to))
        (λ x y c p k. less_some (time_on (back_times split (same x y p k)) edge) (p.delays split k))))
  ]

  times_kept : (split : Split) → required_times d split f n ≡ required_times d2 split g n2
  times_kept split = λ k.
      filter_map (λ edge. option_map (edge_time edge) (required_kept split edge k))
      (filter (λ edge. calm.arrive split edge k) (edges_same d d2 calm.framed k))

  -- the required times
  pub back_step_kept : back_step d f n ≡ back_step d2 g n2
  back_step_kept = λ k. record { early = times_kept Early k; late = times_kept Late k }
