-- Where no quantity of slews and arrivals leaves its limit, each arrival on a launch edge is within it.

use Rattle.std.proofs.Common.{◌≡◌, ℕ, zero, suc, ◌<◌, pos, Bool, true, false, not, List, [], ◌∷◌, map, Option, None, Some, refl, sym, ap, subst, ◌∙◌, inl, inr, arith}
use Rattle.std.specs.Prelude.{Contains, filter, ◌||◌}
use Rattle.std.specs.List.{list_all, flat_map}
use Rattle.std.specs.Option.{option_map_or, option_to_list}
use Rattle.std.specs.Str.{bytes_eq}
use Rattle.std.proofs.lemmas.Bool.{cases_Bool, true≢false, and_parts, or_parts}
use Rattle.std.proofs.lemmas.List.Elements.{Contains-append_right}
use Rattle.sta_units.specs.Numbers.{is_within}
use Rattle.timing_defs.specs.declared.kinds.Split.{Split}
use Rattle.timing_defs.specs.declared.kinds.Split.TheVariants.{Early, Late}
use Rattle.timing_defs.specs.declared.kinds.Tran.{Tran}
use Rattle.timing_defs.specs.declared.kinds.Tran.TheVariants.{Rise, Fall}
use Rattle.timing_defs.specs.declared.parasitics.RcNode.TheVariants.{Pin as rc_pin}
use Rattle.timing_defs.specs.declared.parasitics.RcCap.{RcCap}
use Rattle.timing_defs.specs.declared.parasitics.NetRc.{NetRc}
use Rattle.timing_defs.specs.declared.design.Design.{Design}
use Rattle.timing_defs.specs.Netlist.{Pin, Node, name_of, pins, nodes, both_nodes, net_of, is_on, is_driver, driver}
use Rattle.timing_defs.specs.Wires.{sum_of, res_of, root_node, pin_cap, charges, elmore, rc_of, net_load, load_of, wire_delay}
use Rattle.timing_rules.specs.Clocking.{is_network, driver_on}
use Rattle.timing_rules.specs.Rows.{arcs_in, all_arcs_in, net_arcs_in, net_name, launch_edges, arrival, row}
use Rattle.timing_rules.specs.Range.{within_some, either_split, rc_nodes, root_of_net, wires_within, net_wires_within, is_large_rc, is_net_origin, is_loaded, arrival_inputs, fine_arrival}
use Rattle.netlist_store.specs.Numbering.{Stored, IsNumbered}
use Rattle.netlist_store.specs.Linked.{IsLinked}
use Rattle.node_rows.specs.Evaluation.{is_wide_in}
use Rattle.node_rows.proofs.FineLaws.{IsFine, IsCarried, fine_arrival_is, fine_more, wide_is_origin}
use Rattle.pin_graph.specs.Nodes.{node_number}
use Rattle.pin_graph.specs.Graphs.{Graphed, IsGraph}
use Rattle.pin_graph.specs.RowTables.{AreRowsFine}
use Rattle.timing_defs.proofs.Members.{none_in, in_map, in_map_back, in_flat_map, in_filter, kept_in, all_in, found_passes}
use Rattle.timing_defs.proofs.SameNames.{same_is, same_self}
use Rattle.store_pins.proofs.PinLaws.{pin_told}
use Rattle.pin_graph.proofs.JoinLaws.{net_listed}
use Rattle.pin_graph.proofs.GraphRows.{Stands, level, placed}

not_false : (b : Bool) → not b ≡ false → b ≡ true
not_false true h = refl
not_false false h = absurd (true≢false h)

neither : (f : Split → Bool) → either_split f ≡ false → (split : Split) → f split ≡ false
neither f h Early = (or_parts (f Early) (f Late) h).0
neither f h Late = (or_parts (f Early) (f Late) h).1

both_in : (pin : Pin) (t : Tran) → Contains (both_nodes pin) (record { pin = pin; tran = t })
both_in pin Rise = (0, omega arith, refl)
both_in pin Fall = (1, omega arith, refl)

-- the load and the wires of a net that is no origin
module _ (d : Design) (net : List ℕ) (split : Split) (h : is_net_origin d net ≡ false) where
  load_fine : is_within (net_load d split net) ≡ true
  load_fine =
      not_false (is_within (net_load d split net))
      (neither (λ t. not (is_within (net_load d t net))) (or_parts (either_split (λ t. not (is_within (net_load d t net)))) (option_map_or (is_large_rc d) (rc_of d net) false) h).0 split)

  rc_fine : (rc : NetRc) → rc_of d net ≡ Some rc → wires_within d split rc ≡ true
  rc_fine rc e =
      let large : is_large_rc d rc ≡ false =
      sym (ap (λ o. option_map_or (is_large_rc d) o false) e)
      ∙ (or_parts (either_split (λ t. not (is_within (net_load d t net)))) (option_map_or (is_large_rc d) (rc_of d net) false) h).1 in
      not_false (wires_within d split rc)
      (neither (λ t. not (wires_within d t rc)) (or_parts (not (is_within (sum_of res_of rc.ress))) (either_split (λ t. not (wires_within d t rc))) large).1 split)

  wires_fine : net_wires_within d split (Some net) ≡ true
  wires_fine = by (rc_of d net) refl
    where
      by : (o : Option NetRc) → rc_of d net ≡ o → option_map_or (wires_within d split) (rc_of d net) true ≡ true
      by None e = ap (λ o. option_map_or (wires_within d split) o true) e
      by (Some rc) e = ap (λ o. option_map_or (wires_within d split) o true) e ∙ rc_fine rc e

  -- the wire to a pin on the net
  module _ (to from : Pin) (there : Contains (pins d) to) (on : net_of to ≡ Some net) (drives : driver d net ≡ Some from) where
    abbrev charge_at : Pin → RcCap
    charge_at pin = record { node = rc_pin (name_of pin); cap = record { 0 = pin_cap d split pin } }

    on_net : (rc : NetRc) → rc.net ≡ net → Contains (rc_nodes d split rc) (root_node to)
    on_net rc same =
        let on_it : is_on rc.net to ≡ true = ap (λ o. option_map_or (bytes_eq rc.net) o false) on ∙ ap (λ n. bytes_eq n net) same ∙ same_self net in
        let charged : Contains (charges d split rc) (charge_at to) =
        Contains-append_right rc.caps (map charge_at (filter (is_on rc.net) (pins d))) (charge_at to)
        (in_map charge_at (filter (is_on rc.net) (pins d)) to (in_filter (is_on rc.net) (pins d) to there on_it)) in
        Contains-append_right (flat_map (λ r. r.a ∷ r.b ∷ []) rc.ress) (map (λ (c : RcCap). c.node) (charges d split rc)) (root_node to)
        (in_map (λ (c : RcCap). c.node) (charges d split rc) (charge_at to) charged)

    wire_fine : is_within (wire_delay d split net from to) ≡ true
    wire_fine = by (rc_of d net) refl
      where
        by : (o : Option NetRc) → rc_of d net ≡ o → is_within (wire_delay d split net from to) ≡ true
        by None e = ap (λ o. is_within (option_map_or (λ rc. elmore rc.ress (root_node from) (charges d split rc) (root_node to)) o (pos 0))) e
        by (Some rc) e =
            let same : rc.net ≡ net = same_is rc.net net (found_passes (λ (r : NetRc). bytes_eq r.net net) d.rcs rc e) in
            let roots : root_of_net d rc ≡ from ∷ [] = ap (λ o. option_map_or (λ (pin : Pin). pin ∷ []) o []) (ap (driver d) same ∙ drives) in
            let all : list_all (λ (root : Pin). list_all (λ k. is_within (elmore rc.ress (root_node root) (charges d split rc) k)) (rc_nodes d split rc)) (from ∷ []) ≡ true =
            sym (ap (list_all (λ (root : Pin). list_all (λ k. is_within (elmore rc.ress (root_node root) (charges d split rc) k)) (rc_nodes d split rc))) roots) ∙ rc_fine rc e in
            ap (λ o. is_within (option_map_or (λ rc. elmore rc.ress (root_node from) (charges d split rc) (root_node to)) o (pos 0))) e
            ∙ all_in (λ k. is_within (elmore rc.ress (root_node from) (charges d split rc) k)) (rc_nodes d split rc) (root_node to)
            (and_parts (list_all (λ k. is_within (elmore rc.ress (root_node from) (charges d split rc) k)) (rc_nodes d split rc)) true all).0
            (on_net rc same)

module _ (g : Graphed) (num : IsNumbered g.stored) (linked : IsLinked g.stored.design) (is : IsGraph g) (fine : AreRowsFine g.stored.design) where
  in_nodes : (n : Node) → Stands g num linked is n → Contains (nodes g.stored.design) n
  in_nodes n s = in_flat_map both_nodes (pins g.stored.design) n.pin n s.1.has.within (both_in n.pin n.tran)

  module _ (split : Split) (to : Node) (s : Stands g num linked is to) where
    net_calm : (net : List ℕ) → net_of to.pin ≡ Some net → is_net_origin g.stored.design net ≡ false
    net_calm net e = fine.nets net (net_listed g.stored num linked to.pin net s.1.has.within e)

    loaded : is_loaded g.stored.design split to ≡ true
    loaded = by (net_of to.pin) refl
      where
        by : (o : Option (List ℕ)) → net_of to.pin ≡ o → is_loaded g.stored.design split to ≡ true
        by None e = ap (λ o. is_within (load_of g.stored.design split o)) e
        by (Some net) e = ap (λ o. is_within (load_of g.stored.design split o)) e ∙ load_fine g.stored.design net split (net_calm net e)

    wired : net_wires_within g.stored.design split (net_of to.pin) ≡ true
    wired = by (net_of to.pin) refl
      where
        by : (o : Option (List ℕ)) → net_of to.pin ≡ o → net_wires_within g.stored.design split (net_of to.pin) ≡ true
        by None e = ap (net_wires_within g.stored.design split) e
        by (Some net) e = ap (net_wires_within g.stored.design split) e ∙ wires_fine g.stored.design net split (net_calm net e)

    on_driver : (o : Option (List ℕ)) → net_of to.pin ≡ o → (p : Pin) → Contains (driver_on g.stored.design o) p
        → is_within (wire_delay g.stored.design split (net_name to.pin) p to.pin) ≡ true
    on_driver None e p c = absurd (none_in p c)
    on_driver (Some net) e p c = by (driver g.stored.design net) refl c
      where
        at_net : driver g.stored.design net ≡ Some p → is_within (wire_delay g.stored.design split (net_name to.pin) p to.pin) ≡ true
        at_net h =
            ap (λ o. is_within (wire_delay g.stored.design split (option_map_or (λ (n : List ℕ). n) o []) p to.pin)) e
            ∙ wire_fine g.stored.design net split (net_calm net e) to.pin p s.1.has.within e h

        by : (o : Option Pin) → driver g.stored.design net ≡ o → Contains (option_to_list o) p → is_within (wire_delay g.stored.design split (net_name to.pin) p to.pin) ≡ true
        by None h m = absurd (none_in p m)
        by (Some q) h (zero, low, at) = at_net (h ∙ ap Some at)
        by (Some q) h (suc i, low, at) = absurd (omega (arith, low))

    along_all : is_driver to.pin ≡ false → (from : Node) → Contains (all_arcs_in g.stored.design to) from
        → is_within (wire_delay g.stored.design split (net_name to.pin) from.pin to.pin) ≡ true
    along_all sinking from c =
        let listed : Contains (net_arcs_in g.stored.design to) from = (rw sinking at c) in
        let m = in_map_back (λ (pin : Pin). record { pin = pin; tran = to.tran }) (driver_on g.stored.design (net_of to.pin)) from listed in
        let same : m.item ≡ from.pin = ap (λ (n : Node). n.pin) m.same in
        ap (λ (p : Pin). is_within (wire_delay g.stored.design split (net_name to.pin) p to.pin)) (sym same) ∙ on_driver (net_of to.pin) refl m.item m.within

    along : is_driver to.pin ≡ false → (from : Node) → Contains (arcs_in g.stored.design to) from
        → is_within (wire_delay g.stored.design split (net_name to.pin) from.pin to.pin) ≡ true
    unfolding arcs_in
    along sinking from c =
        along_all sinking from (kept_in (λ f. not (is_network g.stored.design to.pin) || is_network g.stored.design f.pin) (all_arcs_in g.stored.design to) from c)

    carried : IsCarried g.stored.design split to
    carried = record { load = λ drives. loaded; wires = λ sinking. wired; delays = along }

  fine_below : (split : Split) (k : ℕ) (n : Node) → Stands g num linked is n → level g num linked is n < k → IsFine g.stored.design split n
  fine_below split zero n s low = absurd (omega (arith, low))
  fine_below split (suc k) n s low =
      let before : (from : Node) → Contains (arcs_in g.stored.design n) from → IsFine g.stored.design split from =
      λ from c. fine_below split k from ((placed g num linked is).closed n s from c) (let up = (placed g num linked is).rising n s from c in omega (arith, low, up)) in
      fine_more g.stored.design split (Stands g num linked is) (level g num linked is) (placed g num linked is) n s before (carried split n s)
      (elim (cases_Bool (is_wide_in g.stored.design split (row g.stored.design) n)) [
        | inr e ↦ e
        | inl e ↦
            let wide = wide_is_origin g.stored.design split (Stands g num linked is) (level g num linked is) (placed g num linked is) n s before (carried split n s) e in
            absurd (true≢false (sym wide ∙ fine.nodes n (in_nodes n s) split))
      ])

  node_stands : (n : Node) → Contains (pins g.stored.design) n.pin → Stands g num linked is n
  node_stands n c = let p = pin_told g.stored num linked n.pin c in (node_number p.0 n.tran, record { pin = p.0; has = p.1; number = refl })

  pub arrivals_within : (split : Split) (n : Node) → Contains (pins g.stored.design) n.pin → (edge : ℕ × Tran) → Contains (launch_edges g.stored.design) edge
      → within_some (arrival g.stored.design split n edge) ≡ true
  arrivals_within split n c edge m =
      let s = node_stands n c in
      let f = fine_below split (suc (level g num linked is n)) n s (omega arith) in
      (and_parts (arrival_inputs g.stored.design split edge (fine_arrival g.stored.design split edge) n) (within_some (arrival g.stored.design split n edge))
      (sym (fine_arrival_is g.stored.design split (Stands g num linked is) (level g num linked is) (placed g num linked is) edge n s) ∙ f.arrivals edge m)).1

-- the same for a store of which the graph is
pub arrivals_fine : (g : Graphed) (s : Stored) → g.stored ≡ s → IsNumbered s → IsLinked s.design → IsGraph g → AreRowsFine s.design
    → (split : Split) (n : Node) → Contains (pins s.design) n.pin → (edge : ℕ × Tran) → Contains (launch_edges s.design) edge → within_some (arrival s.design split n edge) ≡ true
arrivals_fine g s same num linked is fine =
    subst
    (λ (z : Stored). (split : Split) (n : Node) → Contains (pins z.design) n.pin → (edge : ℕ × Tran) → Contains (launch_edges z.design) edge
    → within_some (arrival z.design split n edge) ≡ true) same
    (arrivals_within g (subst (λ (z : Stored). IsNumbered z) (sym same) num) (subst (λ (z : Stored). IsLinked z.design) (sym same) linked) is
    (subst (λ (z : Stored). AreRowsFine z.design) (sym same) fine))
