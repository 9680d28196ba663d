-- A fine node's row is within the limits; a node over fine ones is fine, or an origin of an overflow.

use Rattle.std.proofs.Common.{◌≡◌, ℕ, ℤ, Bool, true, false, List, [], ◌∷◌, Option, None, Some, refl, sym, ap, ◌∙◌, inl, inr}
use Rattle.std.specs.Prelude.{Contains, option_map, ◌&&◌, ◌||◌}
use Rattle.std.specs.List.{filter_map, list_all}
use Rattle.std.specs.Str.{bytes_eq}
use Rattle.std.proofs.lemmas.Bool.{or_parts, or_cases, and_parts, and_from}
use Rattle.sta_units.specs.Numbers.{is_within}
use Rattle.timing_defs.specs.declared.kinds.Split.{Split}
use Rattle.timing_defs.specs.declared.kinds.Split.TheVariants.{Early, Late}
use Rattle.timing_defs.specs.declared.kinds.Tran.{Tran}
use Rattle.timing_defs.specs.declared.edge_times.EdgeTime.{EdgeTime}
use Rattle.timing_defs.specs.declared.rows.NodeRow.{NodeRow}
use Rattle.timing_defs.specs.declared.faults.Place.TheVariants.{Pin as at_pin}
use Rattle.timing_defs.specs.declared.design.Design.{Design}
use Rattle.timing_defs.specs.Netlist.{Node, nodes, name_of}
use Rattle.timing_rules.specs.Rows.{arcs_in, slew, arrival, arrival_of, launch_edges, edge_time, row}
use Rattle.timing_defs.specs.RowTimes.{time_on, times_in}
use Rattle.timing_rules.specs.Range.{within_some, slew_inputs, fine_slew, arrival_inputs, fine_arrival, is_forward_origin, is_back_origin, is_node_origin, is_origin}
use Rattle.timing_rules.proofs.RowLaws.{ArePlacedNodes, row_is, first_in, later_in}
use Rattle.node_rows.specs.Evaluation.{is_wide_in, is_wide, is_row_within}
use Rattle.node_rows.proofs.FineLaws.{time_told, fine_slew_is, fine_arrival_is, IsFine, IsCarried, fine_more, wide_is_origin, no_origin}
use Rattle.timing_defs.proofs.Members.{any_in}
use Rattle.timing_defs.proofs.SameNames.{same_self}
use Rattle.arrival_engine.specs.Analysed.{IsFineNode}

times_within : (a : ℕ × Tran → Option ℤ) (edges : List (ℕ × Tran)) → ((edge : ℕ × Tran) → Contains edges edge → within_some (a edge) ≡ true)
    → list_all (λ (t : EdgeTime). is_within t.time.0) (filter_map (λ edge. option_map (edge_time edge) (a edge)) edges) ≡ true
times_within a [] each = refl
times_within a (e ∷ es) each = by (a e) refl (times_within a es (λ edge c. each edge (later_in e es edge c)))
  where
    by : (o : Option ℤ) → a e ≡ o → list_all (λ (t : EdgeTime). is_within t.time.0) (filter_map (λ edge. option_map (edge_time edge) (a edge)) es) ≡ true
        → list_all (λ (t : EdgeTime). is_within t.time.0) (filter_map (λ edge. option_map (edge_time edge) (a edge)) (e ∷ es)) ≡ true
    by None f rest = rw f rest
    by (Some t) f rest =
        let here : is_within t ≡ true = sym (ap within_some f) ∙ each e (first_in e es) in
        rw f (rw here rest)

module _ (d : Design) (Stands : Node → Type 0) (place : Node → ℕ) (placed : ArePlacedNodes d Stands place) (n : Node) (stands : Stands n) where
  -- the row of a fine node
  module _ (fine : IsFineNode d n) where
    slew_within : (split : Split) → within_some (slew d split n) ≡ true
    slew_within split =
        (and_parts (slew_inputs d split (fine_slew d split) n) (within_some (slew d split n)) (sym (fine_slew_is d split Stands place placed n stands) ∙ fine.slew split)).1

    arrival_within : (split : Split) (edge : ℕ × Tran) → Contains (launch_edges d) edge → within_some (arrival d split n edge) ≡ true
    arrival_within split edge c =
        (and_parts (arrival_inputs d split edge (fine_arrival d split edge) n) (within_some (arrival d split n edge))
        (sym (fine_arrival_is d split Stands place placed edge n stands) ∙ fine.arrivals split edge c)).1

    early_within : (edge : ℕ × Tran) → Contains (launch_edges d) edge → within_some (arrival_of d Early (row d) n edge) ≡ true
    early_within edge c =
        sym (ap within_some (ap (λ r. time_on (times_in Early r) edge) (row_is d Stands place placed n stands)
        ∙ time_told (arrival_of d Early (row d) n) edge (launch_edges d) c)) ∙ arrival_within Early edge c

    late_within : (edge : ℕ × Tran) → Contains (launch_edges d) edge → within_some (arrival_of d Late (row d) n edge) ≡ true
    late_within edge c =
        sym (ap within_some (ap (λ r. time_on (times_in Late r) edge) (row_is d Stands place placed n stands)
        ∙ time_told (arrival_of d Late (row d) n) edge (launch_edges d) c)) ∙ arrival_within Late edge c

    all_early : list_all (λ (t : EdgeTime). is_within t.time.0) (row d n).early ≡ true
    all_early =
        ap (λ (r : NodeRow). list_all (λ (t : EdgeTime). is_within t.time.0) r.early) (row_is d Stands place placed n stands)
        ∙ times_within (arrival_of d Early (row d) n) (launch_edges d) early_within

    all_late : list_all (λ (t : EdgeTime). is_within t.time.0) (row d n).late ≡ true
    all_late =
        ap (λ (r : NodeRow). list_all (λ (t : EdgeTime). is_within t.time.0) r.late) (row_is d Stands place placed n stands)
        ∙ times_within (arrival_of d Late (row d) n) (launch_edges d) late_within

    pub row_within_limits : is_row_within (row d n) ≡ true
    row_within_limits =
        four (within_some (slew d Early n)) (within_some (slew d Late n)) (list_all (λ (t : EdgeTime). is_within t.time.0) (row d n).early)
        (list_all (λ (t : EdgeTime). is_within t.time.0) (row d n).late) (slew_within Early) (slew_within Late) all_early all_late
      where
        four : (a b c e : Bool) → a ≡ true → b ≡ true → c ≡ true → e ≡ true → (a && b && c && e) ≡ true
        four a b c e f g h k = rw (f, g, h, k) refl

  -- a node over fine ones
  module _ (before : (from : Node) → Contains (arcs_in d n) from → IsFineNode d from) (carried : (split : Split) → IsCarried d split n) where
    fines : (split : Split) (from : Node) → Contains (arcs_in d n) from → IsFine d split from
    fines split from c = let f = before from c in record { slew = f.slew split; arrivals = λ edge m. f.arrivals split edge m }

    pub is_fine : is_wide d (row d) n ≡ false → IsFineNode d n
    is_fine near = record {
      slew = λ split. (fine_more d split Stands place placed n stands (fines split) (carried split) (near_in split)).slew;
      arrivals = λ split edge m. (fine_more d split Stands place placed n stands (fines split) (carried split) (near_in split)).arrivals edge m;
      origins = λ split. no_origin d split Stands place placed n stands (near_in split);
    }
      where
        near_in : (split : Split) → is_wide_in d split (row d) n ≡ false
        near_in Early = (or_parts (is_wide_in d Early (row d) n) (is_wide_in d Late (row d) n) near).0
        near_in Late = (or_parts (is_wide_in d Early (row d) n) (is_wide_in d Late (row d) n) near).1

    either_first : (a b e f : Bool) → a ≡ true → ((a || b) || (e || f)) ≡ true
    either_first a b e f h = rw h refl

    either_later : (a b e f : Bool) → e ≡ true → ((a || b) || (e || f)) ≡ true
    either_later true b e f h = refl
    either_later false true e f h = refl
    either_later false false e f h = rw h refl

    node_origin : is_wide d (row d) n ≡ true → is_node_origin d n ≡ true
    node_origin wide = elim (or_cases (is_wide_in d Early (row d) n) (is_wide_in d Late (row d) n) wide) [
      | inl h ↦ either_first (is_forward_origin d Early n) (is_back_origin d Early n) (is_forward_origin d Late n) (is_back_origin d Late n)
          (wide_is_origin d Early Stands place placed n stands (fines Early) (carried Early) h)
      | inr h ↦ either_later (is_forward_origin d Early n) (is_back_origin d Early n) (is_forward_origin d Late n) (is_back_origin d Late n)
          (wide_is_origin d Late Stands place placed n stands (fines Late) (carried Late) h)
    ]

    pub is_origin_there : is_wide d (row d) n ≡ true → Contains (nodes d) n → is_origin d (at_pin (name_of n.pin)) ≡ true
    is_origin_there wide listed =
        any_in (λ (m : Node). bytes_eq (name_of m.pin) (name_of n.pin) && is_node_origin d m) (nodes d) n listed
        (and_from (bytes_eq (name_of n.pin) (name_of n.pin)) (is_node_origin d n) (same_self (name_of n.pin)) (node_origin wide))
