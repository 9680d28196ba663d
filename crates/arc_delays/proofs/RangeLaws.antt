-- Where no net and no node of a design is an origin of an overflow, each row and what each arc brings are
-- within their limits.

use Rattle.std.proofs.Common.{◌≡◌, ℕ, zero, suc, ◌<◌, ℤ, pos, Bool, true, false, not, ◌&&◌, ◌||◌, if◌then◌else◌, List, [], ◌∷◌, Option, None, Some, refl, sym, ap, subst, ◌∙◌, inl, inr, arith}
use Rattle.std.specs.Prelude.{Contains, option_map, option_and_then}
use Rattle.std.specs.List.{filter_map, list_all, list_any}
use Rattle.std.specs.Option.{option_map_or, option_to_list}
use Rattle.std.specs.Str.{bytes_eq}
use Rattle.std.proofs.lemmas.Bool.{cases_Bool, false≢true, true≢false, or_parts}
use Rattle.sta_units.specs.Numbers.{is_within}
use Rattle.timing_defs.specs.declared.kinds.Split.{Split}
use Rattle.timing_defs.specs.declared.kinds.Split.TheVariants.{Early, Late}
use Rattle.timing_defs.specs.declared.kinds.Tran.{Tran}
use Rattle.timing_defs.specs.declared.kinds.Tran.TheVariants.{Rise, Fall}
use Rattle.timing_defs.specs.declared.edge_times.EdgeTime.{EdgeTime}
use Rattle.timing_defs.specs.declared.library.CellArc.{CellArc}
use Rattle.timing_defs.specs.declared.netlist.Inst.{Inst}
use Rattle.timing_defs.specs.declared.parasitics.NetRc.{NetRc}
use Rattle.timing_defs.specs.declared.faults.Place.TheVariants.{Pin as at_pin, Net as at_net}
use Rattle.timing_defs.specs.declared.design.Design.{Design}
use Rattle.timing_defs.specs.Lookup.{look}
use Rattle.timing_defs.specs.Netlist.{Pin, Node, name_of, pins, nodes, both_nodes, net_of, driver, is_driver, is_listed}
use Rattle.timing_defs.specs.Wires.{net_load, rc_of, sum_of, res_of, wire_delay, wire_slew}
use Rattle.timing_rules.specs.Clocking.{driver_on, is_network}
use Rattle.timing_rules.specs.Rows.{arcs_in, all_arcs_in, net_arcs_in, cell_arcs_in, library_arcs, load_at, net_name, outermost, slew_along, slew_of, arrival_of, launch_edges, edge_time, as_fs, step, row, port_slew}
use Rattle.timing_defs.specs.RowTimes.{slew_in}
use Rattle.timing_rules.specs.Range.{within_some, either_split, wires_within, net_wires_within, is_large_rc, is_net_origin, is_loaded, looked_within, is_forward_origin, is_back_origin, is_node_origin, NoOrigin}
use Rattle.timing_rules.proofs.RowLaws.{ArePlacedNodes, row_is}
use Rattle.netlist_store.specs.Linked.{IsLinked}
use Rattle.netlist_store.specs.Numbering.{Stored, IsNumbered}
use Rattle.node_rows.specs.declared.pin_wires.Wires.{Wires}
use Rattle.node_rows.specs.WireTables.{AreWires}
use Rattle.node_rows.specs.Evaluation.{is_wide_looked, is_wide_scaled, is_wide_end, is_wide_along, is_wide_in, is_row_within}
use Rattle.node_rows.proofs.FineLaws.{IsFine, IsCarried, fine_more, wide_is_origin}
use Rattle.node_rows.proofs.MergeLaws.{outermost_same, outermost_within}
use Rattle.pin_graph.specs.Nodes.{node_number}
use Rattle.pin_graph.specs.Graphs.{Graphed, IsGraph}
use Rattle.pin_graph.specs.RowTables.{AreRowsFine}
use Rattle.timing_defs.proofs.Members.{first_in, later_in, none_in, in_cases, any_in, in_map_back, in_flat_map, in_flat_map_back, kept_in}
use Rattle.timing_defs.proofs.SameNames.{same_self}
use Rattle.store_pins.proofs.PinLaws.{pin_told}
use Rattle.pin_graph.proofs.JoinLaws.{net_listed}
use Rattle.pin_graph.proofs.GraphRows.{Stands as IsInGraph, level as graph_level, placed as graph_placed}
use Rattle.arc_delays.specs.Delays.{AreWithin}

none_at : {X : Type 0} (f : X → Bool) (xs : List X) → list_any f xs ≡ false → (x : X) → Contains xs x → f x ≡ false
none_at f xs none x c = elim (cases_Bool (f x)) [ inl e ↦ absurd (false≢true (sym none ∙ any_in f xs x c e)) | inr e ↦ e ]

not_false : (b : Bool) → not b ≡ false → b ≡ true
not_false true h = refl
not_false false h = absurd (true≢false h)

and_rest : (a b : Bool) → a ≡ true → (a && b) ≡ false → b ≡ false
and_rest true b h k = k
and_rest false b h k = absurd (false≢true h)

and_no : (a : Bool) → (a && false) ≡ false
and_no true = refl
and_no false = refl

neither : (f : Split → Bool) → either_split f ≡ false → (split : Split) → f split ≡ false
neither f h Early = (or_parts (f Early) (f Late) h).0
neither f h Late = (or_parts (f Early) (f Late) h).1

-- what is said of an origin of any kind
module _ (d : Design) (none : NoOrigin d) where
  net_calm : (net : List ℕ) → is_listed d.nets net ≡ true → is_net_origin d net ≡ false
  net_calm net listed = and_rest (list_any (bytes_eq net) d.nets) (is_net_origin d net) listed (none (at_net net))

  node_calm : (node : Node) → Contains (nodes d) node → is_node_origin d node ≡ false
  node_calm node c =
      and_rest (bytes_eq (name_of node.pin) (name_of node.pin)) (is_node_origin d node) (same_self (name_of node.pin))
      (none_at (λ (m : Node). bytes_eq (name_of m.pin) (name_of node.pin) && is_node_origin d m) (nodes d) (none (at_pin (name_of node.pin))) node c)

  pub rows_fine : AreRowsFine d
  rows_fine = record {
    nets = net_calm;
    nodes = λ node c split.
        (or_parts (is_forward_origin d split node) (is_back_origin d split node)
        (neither (λ t. is_forward_origin d t node || is_back_origin d t node) (node_calm node c) split)).0;
  }

-- a node's row
fs_told : (o : Option ℤ) → option_map (λ s. s.0) (as_fs o) ≡ o
fs_told None = refl
fs_told (Some t) = refl

times_within : (a : ℕ × Tran → Option ℤ) (edges : List (ℕ × Tran)) → ((edge : ℕ × Tran) → Contains edges edge → within_some (a edge) ≡ true)
    → list_all (λ (t : EdgeTime). is_within t.time.0) (filter_map (λ edge. option_map (edge_time edge) (a edge)) edges) ≡ true
times_within a [] each = refl
times_within a (e ∷ es) each = by (a e) refl (times_within a es (λ edge c. each edge (later_in e es edge c)))
  where
    by : (o : Option ℤ) → a e ≡ o → list_all (λ (t : EdgeTime). is_within t.time.0) (filter_map (λ edge. option_map (edge_time edge) (a edge)) es) ≡ true
        → list_all (λ (t : EdgeTime). is_within t.time.0) (filter_map (λ edge. option_map (edge_time edge) (a edge)) (e ∷ es)) ≡ true
    by None f rest = rw f rest
    by (Some t) f rest =
        let here : is_within t ≡ true = sym (ap within_some f) ∙ each e (first_in e es) in
        rw f (rw here rest)

-- a net has one driver at most
lone : (d : Design) (net : Option (List ℕ)) (p q : Pin) → Contains (driver_on d net) p → Contains (driver_on d net) q → p ≡ q
lone d None p q c k = absurd (none_in p c)
lone d (Some name) p q c k = by (driver d name) c k
  where
    by : (o : Option Pin) → Contains (option_to_list o) p → Contains (option_to_list o) q → p ≡ q
    by None c k = absurd (none_in p c)
    by (Some r) c k = elim (in_cases r [] p c) [
      | inl e ↦ elim (in_cases r [] q k) [ inl f ↦ sym e ∙ f | inr none ↦ absurd (none_in q none) ]
      | inr none ↦ absurd (none_in p none)
    ]

-- no quantity that is computed at a node leaves its limit
record IsNear (d : Design) (split : Split) (n : Node) : Type 0 where
  pub looked : (from : Node) → Contains (arcs_in d n) from → is_wide_looked d split n from (row d from) ≡ false
  pub scaled : (from : Node) → Contains (arcs_in d n) from → is_wide_scaled d split n from (row d from) ≡ false
  pub slew : within_some (slew_of d split (row d) n) ≡ true
  pub times : (edge : ℕ × Tran) → Contains (launch_edges d) edge → within_some (arrival_of d split (row d) n edge) ≡ true

near_parts : (d : Design) (split : Split) (n : Node) → is_wide_in d split (row d) n ≡ false → IsNear d split n
near_parts d split n h =
    let looked = list_any (λ (from : Node). is_wide_looked d split n from (row d from)) (arcs_in d n) in
    let scaled = list_any (λ (from : Node). is_wide_scaled d split n from (row d from)) (arcs_in d n) in
    let slew = not (within_some (slew_of d split (row d) n)) in
    let times = list_any (λ (edge : ℕ × Tran). not (within_some (arrival_of d split (row d) n edge))) (launch_edges d) in
    let four = or_parts (looked || scaled || slew) times h in
    let three = or_parts (looked || scaled) slew four.0 in
    let two = or_parts looked scaled three.0 in
    record {
      looked = none_at (λ (from : Node). is_wide_looked d split n from (row d from)) (arcs_in d n) two.0;
      scaled = none_at (λ (from : Node). is_wide_scaled d split n from (row d from)) (arcs_in d n) two.1;
      slew = not_false (within_some (slew_of d split (row d) n)) three.1;
      times = λ edge c.
          not_false (within_some (arrival_of d split (row d) n edge))
          (none_at (λ (e : ℕ × Tran). not (within_some (arrival_of d split (row d) n e))) (launch_edges d) four.1 edge c);
    }

-- the slew at the end of an arc
module _ (d : Design) (split : Split) (to : Node) (near : IsNear d split to) where
  abbrev end_of : Node → Option ℤ
  end_of from = option_and_then (slew_along d split from to) (slew_in split (row d from))

  module _ (from : Node) (c : Contains (arcs_in d to) from) where
    looked_end : is_driver to.pin ≡ true → (o : Option ℤ) → slew_in split (row d from) ≡ o → within_some (option_and_then (slew_along d split from to) o) ≡ true
    looked_end drives None e = refl
    looked_end drives (Some x) e =
        ap (λ t. within_some (if t then outermost split (λ (arc : CellArc). Some (look arc.slew x (load_at d split to.pin))) None (library_arcs d split from to)
        else Some (wire_slew d split (net_name to.pin) from.pin to.pin x))) drives
        ∙ outermost_within split (λ (arc : CellArc). Some (look arc.slew x (load_at d split to.pin))) None (library_arcs d split from to) refl slews
      where
        slews : looked_within d split from to (λ arc. arc.slew) x ≡ true
        slews =
            let both = and_rest (is_driver to.pin) (option_map_or (λ y. not (looked_within d split from to (λ arc. arc.slew) y) || not (looked_within d split from to (λ arc. arc.delay) y)) (slew_in split (row d from)) false)
            drives (near.looked from c) in
            not_false (looked_within d split from to (λ arc. arc.slew) x)
            (or_parts (not (looked_within d split from to (λ arc. arc.slew) x)) (not (looked_within d split from to (λ arc. arc.delay) x))
            (sym (ap (λ o. option_map_or (λ y. not (looked_within d split from to (λ arc. arc.slew) y) || not (looked_within d split from to (λ arc. arc.delay) y)) o false) e) ∙ both)).0

    sink_in : is_driver to.pin ≡ false → (f : Node) → Contains (arcs_in d to) f → Contains (net_arcs_in d to) f
    unfolding arcs_in
    sink_in sinks f k =
        subst (λ (t : Bool). Contains (if t then option_map_or (cell_arcs_in d to) to.pin.owner [] else net_arcs_in d to) f) sinks
        (kept_in (λ g. not (is_network d to.pin) || is_network d g.pin) (all_arcs_in d to) f k)

    only_from : is_driver to.pin ≡ false → outermost split end_of None (arcs_in d to) ≡ end_of from
    only_from sinks =
        outermost_same (arcs_in d to) (from ∷ []) (λ x y. x ≡ y)
        (record { there = λ x k. (from, first_in from [], one x k); back = λ y k. (from, c, last y k) })
        split end_of end_of (λ x y k e. ap end_of e)
      where
        one : (x : Node) → Contains (arcs_in d to) x → x ≡ from
        one x k =
            let m = in_map_back (λ pin. record { pin = pin; tran = to.tran }) (driver_on d (net_of to.pin)) x (sink_in sinks x k) in
            let n = in_map_back (λ pin. record { pin = pin; tran = to.tran }) (driver_on d (net_of to.pin)) from (sink_in sinks from c) in
            sym m.same ∙ ap (λ (p : Pin). record { pin = p; tran = to.tran }) (lone d (net_of to.pin) m.item n.item m.within n.within) ∙ n.same

        last : (y : Node) → Contains (from ∷ []) y → from ≡ y
        last y k = elim (in_cases from [] y k) [ inl e ↦ e | inr none ↦ absurd (none_in y none) ]

    wire_end : is_driver to.pin ≡ false → within_some (end_of from) ≡ true
    wire_end sinks =
        sym (ap (λ t. within_some (if option_map_or (λ (i : Inst). false) to.pin.owner true && t then Some (port_slew d.constraints.slews split to.pin to.tran) else outermost split end_of None (arcs_in d to))) sinks
        ∙ ap (λ b. within_some (if b then Some (port_slew d.constraints.slews split to.pin to.tran) else outermost split end_of None (arcs_in d to))) (and_no (option_map_or (λ (i : Inst). false) to.pin.owner true))
        ∙ ap within_some (only_from sinks))
        ∙ near.slew

    end_fine : is_wide_end d split to from (row d from) ≡ false
    end_fine = elim (cases_Bool (is_driver to.pin)) [
      | inl drives ↦ ap not (looked_end drives (slew_in split (row d from)) refl)
      | inr sinks ↦ ap not (wire_end sinks)
    ]

    along_fine : is_wide_along d split to from (row d from) ≡ false
    along_fine =
        all_three (is_wide_looked d split to from (row d from)) (is_wide_scaled d split to from (row d from)) (is_wide_end d split to from (row d from))
        (near.looked from c) (near.scaled from c) end_fine
      where
        all_three : (a b e : Bool) → a ≡ false → b ≡ false → e ≡ false → (a || b || e) ≡ false
        all_three a b e f g h = rw f (rw g h)

module _ (d : Design) (Stands : Node → Type 0) (place : Node → ℕ) (placed : ArePlacedNodes d Stands place)
    (calm : (split : Split) (n : Node) → Stands n → is_forward_origin d split n ≡ false)
    (carried : (split : Split) (n : Node) → Stands n → IsCarried d split n) where
  module _ (split : Split) where
    near_over : (n : Node) → Stands n → ((from : Node) → Contains (arcs_in d n) from → IsFine d split from) → is_wide_in d split (row d) n ≡ false
    near_over n s fine = elim (cases_Bool (is_wide_in d split (row d) n)) [
      | inl wide ↦ absurd (false≢true (sym (calm split n s) ∙ wide_is_origin d split Stands place placed n s fine (carried split n s) wide))
      | inr near ↦ near
    ]

    fine_below : (k : ℕ) (n : Node) → Stands n → place n < k → IsFine d split n
    fine_below zero n s l = absurd (omega (arith, l))
    fine_below (suc k) n s l =
        let before : (from : Node) → Contains (arcs_in d n) from → IsFine d split from =
        (λ from c. fine_below k from (placed.closed n s from c) (let up = placed.rising n s from c in omega (arith, l, up))) in
        fine_more d split Stands place placed n s before (carried split n s) (near_over n s before)

    near : (n : Node) → Stands n → IsNear d split n
    near n s =
        near_parts d split n
        (near_over n s (λ from c. fine_below (place n) from (placed.closed n s from c) (placed.rising n s from c)))

  row_fine : (n : Node) → Stands n → is_row_within (row d n) ≡ true
  row_fine n s =
      ap is_row_within (row_is d Stands place placed n s)
      ∙ four (within_some (option_map (λ t. t.0) (as_fs (slew_of d Early (row d) n)))) (within_some (option_map (λ t. t.0) (as_fs (slew_of d Late (row d) n))))
      (list_all (λ (t : EdgeTime). is_within t.time.0) (step d (row d) n).early) (list_all (λ (t : EdgeTime). is_within t.time.0) (step d (row d) n).late)
      (ap within_some (fs_told (slew_of d Early (row d) n)) ∙ (near Early n s).slew)
      (ap within_some (fs_told (slew_of d Late (row d) n)) ∙ (near Late n s).slew)
      (times_within (arrival_of d Early (row d) n) (launch_edges d) (near Early n s).times)
      (times_within (arrival_of d Late (row d) n) (launch_edges d) (near Late n s).times)
    where
      four : (a b c e : Bool) → a ≡ true → b ≡ true → c ≡ true → e ≡ true → (a && b && c && e) ≡ true
      four a b c e f g h k = rw (f, g, h, k) refl

-- the load of a net, and its wires
net_fine : (d : Design) (net : List ℕ) (split : Split) → is_net_origin d net ≡ false → (is_within (net_load d split net) ≡ true) × (net_wires_within d split (Some net) ≡ true)
net_fine d net split h =
    let parts = or_parts (either_split (λ t. not (is_within (net_load d t net)))) (option_map_or (is_large_rc d) (rc_of d net) false) h in
    (not_false (is_within (net_load d split net)) (neither (λ t. not (is_within (net_load d t net))) parts.0 split), by (rc_of d net) parts.1)
  where
    by : (o : Option NetRc) → option_map_or (is_large_rc d) o false ≡ false → option_map_or (wires_within d split) o true ≡ true
    by None e = refl
    by (Some rc) e =
        let k = or_parts (not (is_within (sum_of res_of rc.ress))) (either_split (λ t. not (wires_within d t rc))) e in
        not_false (wires_within d split rc) (neither (λ t. not (wires_within d t rc)) k.1 split)

both_in : (pin : Pin) (t : Tran) → Contains (both_nodes pin) (record { pin = pin; tran = t })
both_in pin Rise = (0, omega arith, refl)
both_in pin Fall = (1, omega arith, refl)

of_both : (pin : Pin) (n : Node) → Contains (both_nodes pin) n → n.pin ≡ pin
of_both pin n (zero, low, is) = ap (λ (m : Node). m.pin) (sym is)
of_both pin n (suc zero, low, is) = ap (λ (m : Node). m.pin) (sym is)
of_both pin n (suc (suc i), low, is) = absurd (omega (arith, low))

module _ (g : Graphed) (num : IsNumbered g.stored) (linked : IsLinked g.stored.design) (is : IsGraph g) where
  in_nodes : (n : Node) → IsInGraph g num linked is n → Contains (nodes g.stored.design) n
  in_nodes n s = in_flat_map both_nodes (pins g.stored.design) n.pin n s.1.has.within (both_in n.pin n.tran)

  of_nodes : (n : Node) → Contains (nodes g.stored.design) n → IsInGraph g num linked is n
  of_nodes n c =
      let a = in_flat_map_back both_nodes (pins g.stored.design) n c in
      let p = pin_told g.stored num linked n.pin (subst (λ (q : Pin). Contains (pins g.stored.design) q) (sym (of_both a.item n a.inside)) a.within) in
      (node_number p.0 n.tran, record { pin = p.0; has = p.1; number = refl })

  module _ (wires : Wires) (are : AreWires g.stored wires) (fine : AreRowsFine g.stored.design) where
    module _ (split : Split) (n : Node) (s : IsInGraph g num linked is n) where
      net_calm_at : (net : List ℕ) → net_of n.pin ≡ Some net → is_net_origin g.stored.design net ≡ false
      net_calm_at net on = fine.nets net (net_listed g.stored num linked n.pin net s.1.has.within on)

      loaded : is_loaded g.stored.design split n ≡ true
      loaded = by (net_of n.pin) refl
        where
          by : (o : Option (List ℕ)) → net_of n.pin ≡ o → is_loaded g.stored.design split n ≡ true
          by None e = ap (λ o. is_within (option_map_or (net_load g.stored.design split) o (pos 0))) e
          by (Some net) e =
              ap (λ o. is_within (option_map_or (net_load g.stored.design split) o (pos 0))) e ∙ (net_fine g.stored.design net split (net_calm_at net e)).0

      wired : net_wires_within g.stored.design split (net_of n.pin) ≡ true
      wired = by (net_of n.pin) refl
        where
          by : (o : Option (List ℕ)) → net_of n.pin ≡ o → net_wires_within g.stored.design split (net_of n.pin) ≡ true
          by None e = ap (net_wires_within g.stored.design split) e
          by (Some net) e = ap (net_wires_within g.stored.design split) e ∙ (net_fine g.stored.design net split (net_calm_at net e)).1

      wire_along : is_driver n.pin ≡ false → (from : Node) → Contains (net_arcs_in g.stored.design n) from
          → is_within (wire_delay g.stored.design split (net_name n.pin) from.pin n.pin) ≡ true
      wire_along sinks from c =
          let m = in_map_back (λ (pin : Pin). record { pin = pin; tran = n.tran }) (driver_on g.stored.design (net_of n.pin)) from c in
          let same : m.item ≡ from.pin = ap (λ (x : Node). x.pin) m.same in
          let w = are.wires s.1.pin n.pin m.item s.1.has.pin sinks m.within in
          ap (λ (p : Pin). is_within (wire_delay g.stored.design split (net_name n.pin) p n.pin)) (sym same) ∙ ap is_within (w.delay split) ∙ w.within split

      along : is_driver n.pin ≡ false → (from : Node) → Contains (arcs_in g.stored.design n) from
          → is_within (wire_delay g.stored.design split (net_name n.pin) from.pin n.pin) ≡ true
      unfolding arcs_in
      along sinks from c =
          wire_along sinks from
          (subst (λ (t : Bool). Contains (if t then option_map_or (cell_arcs_in g.stored.design n) n.pin.owner [] else net_arcs_in g.stored.design n) from) sinks
          (kept_in (λ f. not (is_network g.stored.design n.pin) || is_network g.stored.design f.pin) (all_arcs_in g.stored.design n) from c))

      pub its_carried : IsCarried g.stored.design split n
      its_carried = record { load = λ drives. loaded; wires = λ sinks. wired; delays = along }

    its_calm : (split : Split) (n : Node) → IsInGraph g num linked is n → is_forward_origin g.stored.design split n ≡ false
    its_calm split n s = fine.nodes n (in_nodes n s) split

    -- slews and arrivals have values within their limits
    pub its_fine : (split : Split) (n : Node) → IsInGraph g num linked is n → IsFine g.stored.design split n
    its_fine split n s =
        fine_below g.stored.design (IsInGraph g num linked is) (graph_level g num linked is) (graph_placed g num linked is) its_calm its_carried split
        (suc (graph_level g num linked is n)) n s (omega arith)

    its_near : (split : Split) (n : Node) → IsInGraph g num linked is n → IsNear g.stored.design split n
    its_near split n s =
        near g.stored.design (IsInGraph g num linked is) (graph_level g num linked is) (graph_placed g num linked is) its_calm its_carried split n s

    all_within : AreWithin g.stored.design
    all_within = record {
      rows = λ n c. row_fine g.stored.design (IsInGraph g num linked is) (graph_level g num linked is) (graph_placed g num linked is) its_calm its_carried n (of_nodes n c);
      arcs = λ split to from c k. along_fine g.stored.design split to (its_near split to (of_nodes to c)) from k;
    }

-- as the code has them: the graph is that of a store
pub within : (g : Graphed) (s : Stored) → g.stored ≡ s → IsNumbered s → IsLinked s.design → IsGraph g → (wires : Wires) → AreWires s wires → AreRowsFine s.design
    → AreWithin s.design
within g s same num linked is wires are fine =
    subst (λ (z : Stored). AreWithin z.design) same
    (all_within g (subst (λ (z : Stored). IsNumbered z) (sym same) num) (subst (λ (z : Stored). IsLinked z.design) (sym same) linked) is
    wires (subst (λ (z : Stored). AreWires z wires) (sym same) are) (subst (λ (z : Stored). AreRowsFine z.design) (sym same) fine))
