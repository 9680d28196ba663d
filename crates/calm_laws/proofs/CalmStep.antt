-- A calm node's row is the same function of the rows before it in both designs.

use Rattle.std.proofs.Common.{◌≡◌, ℕ, ℤ, true, false, List, [], map, filter, Option, None, Some, refl, sym, ap, subst, ◌∙◌, inl, inr}
use Rattle.std.specs.Prelude.{Contains, ◌^◌, pos, ◌*ℤ◌, option_map, option_and_then, if◌then◌else◌}
use Rattle.std.specs.List.{filter_map}
use Rattle.std.specs.Option.{option_map_or, unwrap_or}
use Rattle.std.proofs.lemmas.Bool.{cases_Bool}
use Rattle.sta_units.specs.Numbers.{rounded}
use Rattle.timing_defs.specs.declared.kinds.Split.{Split}
use Rattle.timing_defs.specs.declared.kinds.Split.TheVariants.{Early, Late}
use Rattle.timing_defs.specs.declared.kinds.Tran.{Tran}
use Rattle.timing_defs.specs.declared.design.Design.{Design}
use Rattle.timing_defs.specs.declared.rows.NodeRow.{NodeRow}
use Rattle.timing_defs.specs.Lookup.{look}
use Rattle.timing_defs.specs.Netlist.{Pin, Node, net_of, is_driver}
use Rattle.timing_rules.specs.Clocking.{driver_on}
use Rattle.timing_defs.specs.Wires.{load_of, wire_delay, wire_slew}
use Rattle.timing_rules.specs.Rows.{arcs_in, outermost, load_at, net_name, slew_along, raw_delay, factor_of, scaled, delay_along, slew_of, delay_from, arrival_of, arrivals_of, edge_time, as_fs, step}
use Rattle.timing_defs.specs.RowTimes.{slew_in, times_in, time_on, plus_some}
use Rattle.timing_defs.proofs.Members.{none_in}
use Rattle.calm_laws.proofs.Calm.{IsArcPair, IsCalm}
use Rattle.calm_laws.proofs.PairLaws.{pairs_so, outermost_pairs}
use Rattle.calm_laws.proofs.AlikeLaws.{name_same, drives_same, input_same, edges_same, port_slew_same, start_same}
use Rattle.calm_laws.proofs.CellNodes.{enters, into_sink}
use Rattle.calm_laws.proofs.ArcsKept.{arcs_kept}
use Rattle.calm_laws.proofs.LibraryArcs.{library_arcs_kept}

module _ (d d2 : Design) (n n2 : Node) (calm : IsCalm d d2 n n2) where
  pub drives_kept : is_driver n.pin ≡ is_driver n2.pin
  drives_kept = drives_same n n2 calm.kept.alike

  -- the load of an output pin
  pub load_kept : (split : Split) → load_at d split n.pin ≡ load_at d2 split n2.pin
  load_kept split = by (net_of n.pin) refl
    where
      by : (o : Option (List ℕ)) → net_of n.pin ≡ o → load_at d split n.pin ≡ load_at d2 split n2.pin
      by None e = ap (load_of d split) e ∙ sym (ap (load_of d2 split) (calm.kept.net ∙ e))
      by (Some net) e = ap (load_of d split) e ∙ sym ((calm.nets net e).load split) ∙ sym (ap (load_of d2 split) (calm.kept.net ∙ e))

  -- an arc into an input pin or an output port is that of its net
  pub net_there : is_driver n.pin ≡ false → (from : Node) → Contains (arcs_in d n) from → (net : List ℕ) × (net_of n.pin ≡ Some net)
  net_there sinks from c = by (net_of n.pin) refl
    where
      by : (o : Option (List ℕ)) → net_of n.pin ≡ o → (net : List ℕ) × (net_of n.pin ≡ Some net)
      by None e =
          absurd (none_in from (subst (λ xs. Contains xs from)
          (into_sink d n sinks ∙ ap (λ o. filter (enters d n) (map (λ (pin : Pin). record { pin = pin; tran = n.tran }) (driver_on d o))) e) c))
      by (Some net) e = (net, e)

  -- along an arc
  module _ (from from2 : Node) (pair : IsArcPair d d2 n n2 from from2) where
    pub wire_delay_kept : is_driver n.pin ≡ false → (split : Split)
        → wire_delay d split (net_name n.pin) from.pin n.pin ≡ wire_delay d2 split (net_name n2.pin) from2.pin n2.pin
    wire_delay_kept sinks split =
        let t = net_there sinks from pair.before in
        ap (λ o. wire_delay d split (unwrap_or o []) from.pin n.pin) t.1
        ∙ sym ((calm.nets t.0 t.1).delay split from.pin n.pin from2.pin n2.pin (sym (name_same from from2 pair.alike)) (sym (name_same n n2 calm.kept.alike)))
        ∙ sym (ap (λ o. wire_delay d2 split (unwrap_or o []) from2.pin n2.pin) (calm.kept.net ∙ t.1))

    pub wire_slew_kept : is_driver n.pin ≡ false → (split : Split) (x : ℤ)
        → wire_slew d split (net_name n.pin) from.pin n.pin x ≡ wire_slew d2 split (net_name n2.pin) from2.pin n2.pin x
    wire_slew_kept sinks split x =
        let t = net_there sinks from pair.before in
        ap (λ o. wire_slew d split (unwrap_or o []) from.pin n.pin x) t.1
        ∙ sym ((calm.nets t.0 t.1).slew split from.pin n.pin from2.pin n2.pin (sym (name_same from from2 pair.alike)) (sym (name_same n n2 calm.kept.alike)) x)
        ∙ sym (ap (λ o. wire_slew d2 split (unwrap_or o []) from2.pin n2.pin x) (calm.kept.net ∙ t.1))

    pub slew_along_kept : (split : Split) (x : ℤ) → slew_along d split from n x ≡ slew_along d2 split from2 n2 x
    slew_along_kept split x = elim (cases_Bool (is_driver n.pin)) [
      | inl e ↦
          let e2 : is_driver n2.pin ≡ true = sym drives_kept ∙ e in
          rw e (rw e2 (λ k. outermost split (λ arc. Some (look arc.slew x (load_kept split k))) None (library_arcs_kept d d2 n n2 calm from from2 pair e e2 split k)))
      | inr e ↦
          let e2 : is_driver n2.pin ≡ false = sym drives_kept ∙ e in
          rw e (rw e2 (ap Some (wire_slew_kept e split x)))
    ]

    pub raw_delay_kept : (split : Split) (x : ℤ) → raw_delay d split from n x ≡ raw_delay d2 split from2 n2 x
    raw_delay_kept split x = elim (cases_Bool (is_driver n.pin)) [
      | inl e ↦
          let e2 : is_driver n2.pin ≡ true = sym drives_kept ∙ e in
          rw e (rw e2 (λ k. outermost split (λ arc. Some (look arc.delay x (load_kept split k))) None (library_arcs_kept d d2 n n2 calm from from2 pair e e2 split k)))
      | inr e ↦
          let e2 : is_driver n2.pin ≡ false = sym drives_kept ∙ e in
          rw e (rw e2 (ap Some (wire_delay_kept e split)))
    ]

  pub scaled_kept : (split : Split) (x : ℤ) → scaled d split n x ≡ scaled d2 split n2 x
  scaled_kept split x = λ k. rounded (x *ℤ pos (factor_of (sym calm.framed.constraints k).derates split (drives_kept k))) (pos (10 ^ 6))

  module _ (from from2 : Node) (pair : IsArcPair d d2 n n2 from from2) where
    pub delay_along_kept : (split : Split) (x : ℤ) → delay_along d split from n x ≡ delay_along d2 split from2 n2 x
    delay_along_kept split x = λ k. option_map (λ y. scaled_kept split y k) (raw_delay_kept from from2 pair split x k)

    -- what an arc brings, of rows with the same slew
    module _ (split : Split) (r r2 : NodeRow) (slews : slew_in split r ≡ slew_in split r2) where
      pub slew_brought : option_and_then (slew_along d split from n) (slew_in split r) ≡ option_and_then (slew_along d2 split from2 n2) (slew_in split r2)
      slew_brought = λ k. option_and_then (λ x. slew_along_kept from from2 pair split x k) (slews k)

      pub delay_kept : delay_from d split from n r ≡ delay_from d2 split from2 n2 r2
      delay_kept = λ k. option_and_then (λ x. delay_along_kept split x k) (slews k)

  -- over two look-ups of rows
  module _ (f g : Node → NodeRow) where
    -- that agree in the slews of a split
    module _ (split : Split) (slews : (from from2 : Node) → IsArcPair d d2 n n2 from from2 → slew_in split (f from) ≡ slew_in split (g from2)) where
      pub slew_kept : slew_of d split f n ≡ slew_of d2 split g n2
      slew_kept = λ k.
          (if input_same n n2 calm.kept.alike k then Some (port_slew_same d d2 calm.framed n n2 calm.kept.alike split k) else merged k)
        where
          merged : outermost split (λ from. option_and_then (slew_along d split from n) (slew_in split (f from))) None (arcs_in d n)
              ≡ outermost split (λ from. option_and_then (slew_along d2 split from n2) (slew_in split (g from))) None (arcs_in d2 n2)
          merged =
              outermost_pairs split (λ from. option_and_then (slew_along d split from n) (slew_in split (f from)))
              (λ from. option_and_then (slew_along d2 split from n2) (slew_in split (g from))) None (arcs_in d n) (arcs_in d2 n2)
              (pairs_so (IsArcPair d d2 n n2) (λ x y. option_and_then (slew_along d split x n) (slew_in split (f x)) ≡ option_and_then (slew_along d2 split y n2) (slew_in split (g y)))
              (λ x y p. slew_brought x y p split (f x) (g y) (slews x y p)) (arcs_in d n) (arcs_in d2 n2) (arcs_kept d d2 n n2 calm))

    -- that agree
    module _ (same : (from from2 : Node) → IsArcPair d d2 n n2 from from2 → f from ≡ g from2) where
      pub arrival_kept : (split : Split) (edge : ℕ × Tran) → arrival_of d split f n edge ≡ arrival_of d2 split g n2 edge
      arrival_kept split edge = λ k. option_map_or Some (start_same d d2 calm.framed n n2 calm.kept.alike split edge k) (merged k)
        where
          merged : outermost split (λ from. plus_some (time_on (times_in split (f from)) edge) (delay_from d split from n (f from))) None (arcs_in d n)
              ≡ outermost split (λ from. plus_some (time_on (times_in split (g from)) edge) (delay_from d2 split from n2 (g from))) None (arcs_in d2 n2)
          merged =
              outermost_pairs split (λ from. plus_some (time_on (times_in split (f from)) edge) (delay_from d split from n (f from)))
              (λ from. plus_some (time_on (times_in split (g from)) edge) (delay_from d2 split from n2 (g from))) None (arcs_in d n) (arcs_in d2 n2)
              (pairs_so (IsArcPair d d2 n n2)
              (λ x y. plus_some (time_on (times_in split (f x)) edge) (delay_from d split x n (f x)) ≡ plus_some (time_on (times_in split (g y)) edge) (delay_from d2 split y n2 (g y)))
              (λ x y p k. plus_some (time_on (times_in split (same x y p k)) edge) (delay_kept x y p split (f x) (g y) (ap (slew_in split) (same x y p)) k))
              (arcs_in d n) (arcs_in d2 n2) (arcs_kept d d2 n n2 calm))

      pub arrivals_kept : (split : Split) → arrivals_of d split f n ≡ arrivals_of d2 split g n2
      arrivals_kept split = λ k. filter_map (λ edge. option_map (edge_time edge) (arrival_kept split edge k)) (edges_same d d2 calm.framed k)

      -- the row
      pub calm_step : step d f n ≡ step d2 g n2
      calm_step = λ k. record {
        early_slew = as_fs (slew_kept Early (λ x y p. ap (slew_in Early) (same x y p)) k);
        late_slew = as_fs (slew_kept Late (λ x y p. ap (slew_in Late) (same x y p)) k);
        early = arrivals_kept Early k;
        late = arrivals_kept Late k;
      }
