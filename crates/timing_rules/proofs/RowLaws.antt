-- Rows by recursion over the arcs in: where places rise along arcs, a row is the step over the rows before it.

use Rattle.std.proofs.Common.{◌≡◌, ℕ, zero, suc, ◌+◌, ◌<◌, ◌≤◌, ℤ, Bool, true, false, List, [], ◌∷◌, map, filter, length, Option, None, Some, refl, sym, ap, ◌∙◌, arith}
use Rattle.std.specs.Prelude.{Contains, is_some, option_and_then, option_map, if◌then◌else◌}
use Rattle.std.specs.List.{filter_map}
use Rattle.std.specs.Option.{option_map_or}
use Rattle.timing_defs.specs.declared.kinds.Split.{Split}
use Rattle.timing_defs.specs.declared.kinds.Split.TheVariants.{Early, Late}
use Rattle.timing_defs.specs.declared.kinds.Tran.{Tran}
use Rattle.timing_defs.specs.declared.edge_times.EdgeTime.{EdgeTime}
use Rattle.timing_defs.specs.declared.rows.NodeRow.{NodeRow}
use Rattle.timing_defs.specs.declared.rows.BackRow.{BackRow}
use Rattle.timing_defs.specs.declared.design.Design.{Design}
use Rattle.timing_defs.specs.Netlist.{Node, nodes}
use Rattle.timing_rules.specs.Tests.{tests_at, is_endpoint}
use Rattle.timing_rules.specs.Required.{arcs_out, limit_of, less_some, required_of, required_times, back_step, back_within, back_row}
use Rattle.timing_defs.specs.Kinds.{kind_of, other_split}
use Rattle.timing_defs.specs.RowTimes.{back_times}
use Rattle.timing_rules.specs.Rows.{arcs_in, outermost, delay, arrival, outer_some, slew_along, slew_of, is_input_port, port_slew, start_at, delay_from, arrival_of, arrivals_of, launch_edges, edge_time, step, row_within, row, as_fs, empty_row}
use Rattle.timing_defs.specs.RowTimes.{slew_in, plus_some, time_on, times_in}

pub first_in : {X : Type 0} (x : X) (xs : List X) → Contains (x ∷ xs) x
first_in x xs = (0, omega arith, refl)

pub later_in : {X : Type 0} (x : X) (xs : List X) (y : X) → Contains xs y → Contains (x ∷ xs) y
later_in x xs y (i, low, is) = (suc i, omega (arith, low), is)

-- any recursion with a step that looks at what stands before an item alone
module _ {N T : Type 0} (next : (N → T) → N → T) (before : N → List N) (Stands : N → Type 0) (place : N → ℕ)
    (agree : (f g : N → T) (to : N) → ((from : N) → Contains (before to) from → f from ≡ g from) → next f to ≡ next g to)
    (closed : (to : N) → Stands to → (from : N) → Contains (before to) from → Stands from)
    (rising : (to : N) → Stands to → (from : N) → Contains (before to) from → place from < place to)
    (within : ℕ → N → T) (is_next : (k : ℕ) (n : N) → within (suc k) n ≡ next (within k) n) where
  pub stable : (k : ℕ) (n : N) → Stands n → place n < k → within k n ≡ within (suc k) n
  stable zero n s low = absurd (omega (arith, low))
  stable (suc k) n s low =
      is_next k n
      ∙ agree (within k) (within (suc k)) n
      (λ from c. stable k from (closed n s from c) (let up = rising n s from c in omega (arith, low, up)))
      ∙ sym (is_next (suc k) n)

-- the outermost value of a list looks at its items alone
outermost_agree : {X : Type 0} (split : Split) (f g : X → Option ℤ) (best : Option ℤ) (xs : List X) → ((x : X) → Contains xs x → f x ≡ g x)
    → outermost split f best xs ≡ outermost split g best xs
outermost_agree split f g best [] same = refl
outermost_agree split f g best (x ∷ xs) same =
    ap (λ v. outermost split f (outer_some split best v) xs) (same x (first_in x xs))
    ∙ outermost_agree split f g (outer_some split best (g x)) xs (λ y c. same y (later_in x xs y c))

module _ (d : Design) (f g : Node → NodeRow) (to : Node) (same : (from : Node) → Contains (arcs_in d to) from → f from ≡ g from) where
  slew_agree : (split : Split) → slew_of d split f to ≡ slew_of d split g to
  slew_agree split =
      ap (λ v. if is_input_port to.pin then Some (port_slew d.constraints.slews split to.pin to.tran) else v)
      (outermost_agree split (λ from. option_and_then (slew_along d split from to) (slew_in split (f from)))
      (λ from. option_and_then (slew_along d split from to) (slew_in split (g from))) None (arcs_in d to)
      (λ from c. ap (λ r. option_and_then (slew_along d split from to) (slew_in split r)) (same from c)))

  arrival_agree : (split : Split) (edge : ℕ × Tran) → arrival_of d split f to edge ≡ arrival_of d split g to edge
  arrival_agree split edge =
      ap (option_map_or Some (start_at d split to edge))
      (outermost_agree split (λ from. plus_some (time_on (times_in split (f from)) edge) (delay_from d split from to (f from)))
      (λ from. plus_some (time_on (times_in split (g from)) edge) (delay_from d split from to (g from))) None (arcs_in d to)
      (λ from c. ap (λ r. plus_some (time_on (times_in split r) edge) (delay_from d split from to r)) (same from c)))

  arrivals_agree : (split : Split) → arrivals_of d split f to ≡ arrivals_of d split g to
  arrivals_agree split = λ k. filter_map (λ edge. option_map (edge_time edge) (arrival_agree split edge k)) (launch_edges d)

  pub step_agree : step d f to ≡ step d g to
  step_agree = λ k. record {
    early_slew = as_fs (slew_agree Early k);
    late_slew = as_fs (slew_agree Late k);
    early = arrivals_agree Early k;
    late = arrivals_agree Late k;
  }

-- places that rise along arcs, and are no more than the nodes of the design
pub record ArePlacedNodes (d : Design) (Stands : Node → Type 0) (place : Node → ℕ) : Type 0 where
  pub closed : (to : Node) → Stands to → (from : Node) → Contains (arcs_in d to) from → Stands from
  pub rising : (to : Node) → Stands to → (from : Node) → Contains (arcs_in d to) from → place from < place to
  pub low : (n : Node) → Stands n → place n ≤ length (nodes d)

module _ (d : Design) (Stands : Node → Type 0) (place : Node → ℕ) (placed : ArePlacedNodes d Stands place) where
  pub row_is : (n : Node) → Stands n → row d n ≡ step d (row d) n
  unfolding row
  row_is n s =
      let low = placed.low n s in
      stable (step d) (arcs_in d) Stands place (λ f g to same. step_agree d f g to same) placed.closed placed.rising (row_within d) (λ k m. refl)
      (suc (length (nodes d))) n s (omega (arith, low))

-- required times, over the arcs out
module _ (d : Design) (f g : Node → BackRow) (node : Node) (same : (to : Node) → Contains (arcs_out d node) to → f to ≡ g to) where
  required_agree : (split : Split) (edge : ℕ × Tran) → required_of d split f node edge ≡ required_of d split g node edge
  required_agree split edge =
      ap (λ v. if is_endpoint d node.pin
      then outermost (other_split split) (λ test. Some (limit_of d (kind_of split) edge test)) None (tests_at d (kind_of split) node) else v)
      (outermost_agree (other_split split) (λ to. less_some (time_on (back_times split (f to)) edge) (delay d split node to))
      (λ to. less_some (time_on (back_times split (g to)) edge) (delay d split node to)) None (arcs_out d node)
      (λ to c. ap (λ r. less_some (time_on (back_times split r) edge) (delay d split node to)) (same to c)))

  times_agree : (split : Split) → required_times d split f node ≡ required_times d split g node
  times_agree split = λ k.
      filter_map (λ edge. option_map (edge_time edge) (required_agree split edge k))
      (filter (λ edge. is_some (arrival d split node edge)) (launch_edges d))

  pub back_agree : back_step d f node ≡ back_step d g node
  back_agree = λ k. record { early = times_agree Early k; late = times_agree Late k }

-- heights that rise against arcs, and are no more than the nodes of the design
pub record AreHighNodes (d : Design) (Stands : Node → Type 0) (height : Node → ℕ) : Type 0 where
  pub closed : (n : Node) → Stands n → (to : Node) → Contains (arcs_out d n) to → Stands to
  pub rising : (n : Node) → Stands n → (to : Node) → Contains (arcs_out d n) to → height to < height n
  pub low : (n : Node) → Stands n → height n ≤ length (nodes d)

module _ (d : Design) (Stands : Node → Type 0) (height : Node → ℕ) (high : AreHighNodes d Stands height) where
  pub back_is : (n : Node) → Stands n → back_row d n ≡ back_step d (back_row d) n
  unfolding back_row
  back_is n s =
      let low = high.low n s in
      stable (back_step d) (arcs_out d) Stands height (λ f g to same. back_agree d f g to same) high.closed high.rising (back_within d) (λ k m. refl)
      (suc (length (nodes d))) n s (omega (arith, low))
