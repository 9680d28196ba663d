-- A calm node over fine ones, with the rows that it has before it in the base, is fine in the edited design.

use Rattle.std.proofs.Common.{◌≡◌, ℕ, ℤ, true, false, List, Option, None, Some, refl, sym, ap, ◌∙◌, inl, inr}
use Rattle.std.specs.Prelude.{Contains, not, ◌||◌, option_map, option_and_then, if◌then◌else◌}
use Rattle.std.specs.List.{list_any, list_all}
use Rattle.std.specs.Option.{option_map_or}
use Rattle.std.proofs.lemmas.Bool.{cases_Bool, true≢false}
use Rattle.sta_units.specs.Numbers.{is_within}
use Rattle.timing_defs.specs.declared.kinds.Split.{Split}
use Rattle.timing_defs.specs.declared.kinds.Tran.{Tran}
use Rattle.timing_defs.specs.declared.library.CellArc.{CellArc}
use Rattle.timing_defs.specs.declared.library.Table.{Table}
use Rattle.timing_defs.specs.declared.design.Design.{Design}
use Rattle.timing_defs.specs.declared.rows.NodeRow.{NodeRow}
use Rattle.timing_defs.specs.Lookup.{look}
use Rattle.timing_defs.specs.Netlist.{Node, net_of, is_driver}
use Rattle.timing_defs.specs.Wires.{wire_delay}
use Rattle.timing_rules.specs.Rows.{arcs_in, net_name, scaled, raw_delay, slew_of, arrival_of, row}
use Rattle.timing_defs.specs.RowTimes.{slew_in}
use Rattle.timing_rules.specs.Range.{within_some, looked_within, net_wires_within, is_forward_origin}
use Rattle.timing_rules.proofs.RowLaws.{ArePlacedNodes}
use Rattle.node_rows.specs.Evaluation.{is_wide_looked, is_wide_scaled, scaled_over, is_wide_in}
use Rattle.node_rows.proofs.FineLaws.{IsFine, IsCarried, fine_more, wide_is_origin, no_origin}
use Rattle.calm_laws.proofs.Calm.{IsArcPair, IsCalm}
use Rattle.calm_laws.proofs.PairLaws.{pairs_so, pair_of, any_pairs}
use Rattle.calm_laws.proofs.AlikeLaws.{edges_same}
use Rattle.calm_laws.proofs.ArcsKept.{arcs_kept}
use Rattle.calm_laws.proofs.LibraryArcs.{library_arcs_kept}
use Rattle.calm_laws.proofs.CalmStep.{drives_kept, load_kept, wire_delay_kept, scaled_kept, raw_delay_kept, slew_kept, arrival_kept}

module _ (d d2 : Design) (n n2 : Node) (calm : IsCalm d d2 n n2) (split : Split) where
  -- along an arc, of rows with the same slew
  module _ (from from2 : Node) (pair : IsArcPair d d2 n n2 from from2) where
    pub looked_kept : is_driver n.pin ≡ true → (table : CellArc → Table) (x : ℤ) → looked_within d split from n table x ≡ looked_within d2 split from2 n2 table x
    looked_kept drives table x = λ k.
        list_all (λ arc. is_within (look (table arc) x (load_kept d d2 n n2 calm split k)))
        (library_arcs_kept d d2 n n2 calm from from2 pair drives (sym (drives_kept d d2 n n2 calm) ∙ drives) split k)

    module _ (r r2 : NodeRow) (slews : slew_in split r ≡ slew_in split r2) where
      pub wide_looked_kept : is_wide_looked d split n from r ≡ is_wide_looked d2 split n2 from2 r2
      wide_looked_kept = elim (cases_Bool (is_driver n.pin)) [
        | inl e ↦
            let e2 : is_driver n2.pin ≡ true = sym (drives_kept d d2 n n2 calm) ∙ e in
            rw e (rw e2 (λ k. option_map_or
            (λ x. not (looked_kept e (λ arc. arc.slew) x k) || not (looked_kept e (λ arc. arc.delay) x k)) (slews k) false))
        | inr e ↦ let e2 : is_driver n2.pin ≡ false = sym (drives_kept d d2 n n2 calm) ∙ e in rw e (rw e2 refl)
      ]

      scaled_over_kept : scaled_over d split n from r ≡ scaled_over d2 split n2 from2 r2
      scaled_over_kept = elim (cases_Bool (is_driver n.pin)) [
        | inl e ↦
            let e2 : is_driver n2.pin ≡ true = sym (drives_kept d d2 n n2 calm) ∙ e in
            ap (λ b. if b then option_map (scaled d split n) (option_and_then (raw_delay d split from n) (slew_in split r))
            else Some (scaled d split n (wire_delay d split (net_name n.pin) from.pin n.pin))) e
            ∙ (λ k. option_map (λ y. scaled_kept d d2 n n2 calm split y k) (option_and_then (λ x. raw_delay_kept d d2 n n2 calm from from2 pair split x k) (slews k)))
            ∙ sym (ap (λ b. if b then option_map (scaled d2 split n2) (option_and_then (raw_delay d2 split from2 n2) (slew_in split r2))
            else Some (scaled d2 split n2 (wire_delay d2 split (net_name n2.pin) from2.pin n2.pin))) e2)
        | inr e ↦
            let e2 : is_driver n2.pin ≡ false = sym (drives_kept d d2 n n2 calm) ∙ e in
            ap (λ b. if b then option_map (scaled d split n) (option_and_then (raw_delay d split from n) (slew_in split r))
            else Some (scaled d split n (wire_delay d split (net_name n.pin) from.pin n.pin))) e
            ∙ (λ k. Some (scaled_kept d d2 n n2 calm split (wire_delay_kept d d2 n n2 calm from from2 pair e split k) k))
            ∙ sym (ap (λ b. if b then option_map (scaled d2 split n2) (option_and_then (raw_delay d2 split from2 n2) (slew_in split r2))
            else Some (scaled d2 split n2 (wire_delay d2 split (net_name n2.pin) from2.pin n2.pin))) e2)
      ]

      pub wide_scaled_kept : is_wide_scaled d split n from r ≡ is_wide_scaled d2 split n2 from2 r2
      wide_scaled_kept = ap (λ o. not (within_some o)) scaled_over_kept

  -- whether a quantity of the node leaves its limit, over look-ups that agree
  module _ (f g : Node → NodeRow) (same : (from from2 : Node) → IsArcPair d d2 n n2 from from2 → f from ≡ g from2) where
    pub wide_kept : is_wide_in d split f n ≡ is_wide_in d2 split g n2
    wide_kept = λ k. looked k || scaled_too k || not (within_some (slews k)) || list_any (λ edge. not (within_some (arrivals edge k))) (edges_same d d2 calm.framed k)
      where
        slews : slew_of d split f n ≡ slew_of d2 split g n2
        slews = slew_kept d d2 n n2 calm f g split (λ x y p. ap (slew_in split) (same x y p))

        arrivals : (edge : ℕ × Tran) → arrival_of d split f n edge ≡ arrival_of d2 split g n2 edge
        arrivals edge = arrival_kept d d2 n n2 calm f g same split edge

        looked : list_any (λ from. is_wide_looked d split n from (f from)) (arcs_in d n) ≡ list_any (λ from. is_wide_looked d2 split n2 from (g from)) (arcs_in d2 n2)
        looked =
            any_pairs (λ from. is_wide_looked d split n from (f from)) (λ from. is_wide_looked d2 split n2 from (g from)) (arcs_in d n) (arcs_in d2 n2)
            (pairs_so (IsArcPair d d2 n n2) (λ x y. is_wide_looked d split n x (f x) ≡ is_wide_looked d2 split n2 y (g y))
            (λ x y p. wide_looked_kept x y p (f x) (g y) (ap (slew_in split) (same x y p))) (arcs_in d n) (arcs_in d2 n2) (arcs_kept d d2 n n2 calm))

        scaled_too : list_any (λ from. is_wide_scaled d split n from (f from)) (arcs_in d n) ≡ list_any (λ from. is_wide_scaled d2 split n2 from (g from)) (arcs_in d2 n2)
        scaled_too =
            any_pairs (λ from. is_wide_scaled d split n from (f from)) (λ from. is_wide_scaled d2 split n2 from (g from)) (arcs_in d n) (arcs_in d2 n2)
            (pairs_so (IsArcPair d d2 n n2) (λ x y. is_wide_scaled d split n x (f x) ≡ is_wide_scaled d2 split n2 y (g y))
            (λ x y p. wide_scaled_kept x y p (f x) (g y) (ap (slew_in split) (same x y p))) (arcs_in d n) (arcs_in d2 n2) (arcs_kept d d2 n n2 calm))

  -- the load and the wires are within their limits in both designs
  pub carried_kept : IsCarried d split n → IsCarried d2 split n2
  carried_kept carried = record {
    load = λ e. ap is_within (sym (load_kept d d2 n n2 calm split)) ∙ carried.load (drives_kept d d2 n n2 calm ∙ e);
    wires = λ e. sym (wires (net_of n.pin) refl) ∙ carried.wires (drives_kept d d2 n n2 calm ∙ e);
    delays = λ e from2 c.
        (let p = pair_of (IsArcPair d d2 n n2) (arcs_in d n) (arcs_in d2 n2) (arcs_kept d d2 n n2 calm) from2 c in
        let sinks = drives_kept d d2 n n2 calm ∙ e in
        ap is_within (sym (wire_delay_kept d d2 n n2 calm p.0 from2 p.1.1 sinks split)) ∙ carried.delays sinks p.0 p.1.0);
  }
    where
      wires : (o : Option (List ℕ)) → net_of n.pin ≡ o → net_wires_within d split (net_of n.pin) ≡ net_wires_within d2 split (net_of n2.pin)
      wires None e = ap (net_wires_within d split) e ∙ sym (ap (net_wires_within d2 split) (calm.kept.net ∙ e))
      wires (Some net) e = ap (net_wires_within d split) e ∙ sym ((calm.nets net e).within split) ∙ sym (ap (net_wires_within d2 split) (calm.kept.net ∙ e))

  -- over equal rows of fine nodes
  module _ (Stands : Node → Type 0) (place : Node → ℕ) (placed : ArePlacedNodes d Stands place) (stands : Stands n)
      (Stands2 : Node → Type 0) (place2 : Node → ℕ) (placed2 : ArePlacedNodes d2 Stands2 place2) (stands2 : Stands2 n2)
      (same : (from from2 : Node) → IsArcPair d d2 n n2 from from2 → row d from ≡ row d2 from2)
      (fine : (from : Node) → Contains (arcs_in d n) from → IsFine d split from) (fine2 : (from : Node) → Contains (arcs_in d2 n2) from → IsFine d2 split from)
      (carried : IsCarried d split n) (none : is_forward_origin d split n ≡ false) where
    near : is_wide_in d split (row d) n ≡ false
    near = elim (cases_Bool (is_wide_in d split (row d) n)) [
      | inl e ↦ absurd (true≢false (sym (wide_is_origin d split Stands place placed n stands fine carried e) ∙ none))
      | inr e ↦ e
    ]

    near2 : is_wide_in d2 split (row d2) n2 ≡ false
    near2 = sym (wide_kept (row d) (row d2) same) ∙ near

    pub fine_kept : IsFine d2 split n2
    fine_kept = fine_more d2 split Stands2 place2 placed2 n2 stands2 fine2 (carried_kept carried) near2

    pub origin_kept : is_forward_origin d2 split n2 ≡ false
    origin_kept = no_origin d2 split Stands2 place2 placed2 n2 stands2 near2
