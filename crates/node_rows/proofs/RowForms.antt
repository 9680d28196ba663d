-- The row that is told by numbers is that of the definition over the rows of the nodes before.

use Rattle.std.proofs.Common.{◌≡◌, ℕ, ℤ, pos, Bool, true, false, not, ◌&&◌, ◌||◌, if◌then◌else◌, List, [], ◌∷◌, map, Option, None, Some, refl, sym, ap, subst, ◌∙◌, inl, inr}
use Rattle.std.specs.Prelude.{option_map, option_and_then, Contains, find, int_le}
use Rattle.std.specs.List.{list_any}
use Rattle.std.specs.Option.{option_map_or, option_to_list}
use Rattle.std.proofs.lemmas.Bool.{cases_Bool, false≢true, and_parts}
use Rattle.sta_units.specs.Numbers.{is_within}
use Rattle.timing_defs.specs.declared.kinds.Split.{Split}
use Rattle.timing_defs.specs.declared.kinds.Split.TheVariants.{Early, Late}
use Rattle.timing_defs.specs.declared.kinds.Tran.{Tran}
use Rattle.timing_defs.specs.declared.design.Design.{Design}
use Rattle.timing_defs.specs.declared.rows.NodeRow.{NodeRow}
use Rattle.timing_defs.specs.declared.constraints.PortSlew.{PortSlew}
use Rattle.timing_defs.specs.declared.library.CellArc.{CellArc}
use Rattle.timing_defs.specs.declared.netlist.Inst.{Inst}
use Rattle.timing_defs.specs.Lookup.{look}
use Rattle.timing_defs.specs.Netlist.{Pin, Node, is_driver, net_of, driver, same_split, same_tran}
use Rattle.std.specs.Str.{bytes_eq}
use Rattle.timing_defs.specs.Wires.{wire_slew}
use Rattle.timing_rules.specs.Clocking.{is_network, driver_on}
use Rattle.timing_rules.specs.Rows.{arcs_in, all_arcs_in, net_arcs_in, cell_arcs_in, outer_some, outermost, library_arcs, load_at, net_name, slew_along, slew_of, arrival_of, arrivals_of, delay_from, start_at, launch_edges, edge_time, is_input_port, port_slew, as_fs}
use Rattle.timing_defs.specs.RowTimes.{slew_in, times_in, time_on, plus_some}
use Rattle.timing_rules.specs.Range.{within_some, looked_within}
use Rattle.timing_defs.proofs.ListLemmas.{list_any_either}
use Rattle.timing_defs.specs.Documents.{is_amount, are_constraints}
use Rattle.netlist_store.specs.Numbering.{Stored}
use Rattle.node_rows.specs.declared.arcs.ArcValues.{ArcValues}
use Rattle.node_rows.specs.declared.settings.NodeAt.{NodeAt}
use Rattle.node_rows.specs.declared.settings.Before.{Before}
use Rattle.node_rows.specs.declared.rows.SplitRow.{SplitRow}
use Rattle.node_rows.specs.Between.{no_values}
use Rattle.node_rows.specs.Evaluation.{values_along, is_wide_looked, is_wide_scaled, is_wide_end, is_wide_along, is_wide_in, is_wide, node_of, AreBefore, HaveRows, told_values, told_wide, merged_over, arrival_over, times_on, are_wide_times, told_slew_over, told_row, is_wide_split, IsRow}
use Rattle.timing_defs.proofs.Members.{some_is, in_map_back, kept_in, found_in, all_in, any_in, any_back, none_in, in_cases, first_in}
use Rattle.node_rows.proofs.ConstraintLaws.{fit_of}
use Rattle.node_rows.proofs.MergeLaws.{AreMatched, outermost_same, any_same, outermost_map, outermost_within, filter_map_agree, any_agree, none_any}

-- tests
wide_joined : (l c e w a : Bool) → (e ≡ true → ((l || c) || w) ≡ true) → (e ≡ false → w ≡ false) → (((l || c) || e) || a) ≡ (((l || c) || w) || a)
wide_joined true c e w a there none = refl
wide_joined false true e w a there none = refl
wide_joined false false true w a there none = ap (λ b. b || a) (sym (there refl))
wide_joined false false false w a there none = ap (λ b. b || a) (sym (none refl))

either_end : {X : Type 0} (p q r : X → Bool) (xs : List X) → list_any (λ x. p x || q x || r x) xs ≡ ((list_any p xs || list_any q xs) || list_any r xs)
either_end p q r xs =
    list_any_either (λ x. p x || q x) r xs
    ∙ ap (λ b. b || list_any r xs) (list_any_either p q xs)

first_true : (a b c : Bool) → a ≡ true → ((a || b) || c) ≡ true
first_true true b c h = refl
first_true false b c h = absurd (false≢true h)

last_true : (a b : Bool) → b ≡ true → (a || b) ≡ true
last_true true b h = refl
last_true false b h = h

and_no : (a : Bool) → (a && false) ≡ false
and_no true = refl
and_no false = refl

-- a net has one driver at most
lone : (d : Design) (net : Option (List ℕ)) (p q : Pin) → Contains (driver_on d net) p → Contains (driver_on d net) q → p ≡ q
lone d None p q c k = absurd (none_in p c)
lone d (Some name) p q c k = by (driver d name) c k
  where
    by : (o : Option Pin) → Contains (option_to_list o) p → Contains (option_to_list o) q → p ≡ q
    by None c k = absurd (none_in p c)
    by (Some r) c k = elim (in_cases r [] p c) [
      | inl e ↦ elim (in_cases r [] q k) [ inl f ↦ sym e ∙ f | inr none ↦ absurd (none_in q none) ]
      | inr none ↦ absurd (none_in p none)
    ]

amount_within : (x : ℤ) → is_amount x ≡ true → is_within x ≡ true
amount_within x h = (and_parts (int_le (pos 0) x) (is_within x) h).1

module _ (s : Stored) (at : NodeAt) (before : List Before) (are : AreBefore s at before) (row_of : Node → NodeRow) (rows : HaveRows s row_of before)
    (node : Node) (is : node_of s at ≡ Some node) where
  abbrev d : Design
  d = s.design

  node_same : are.to ≡ node
  node_same = some_is (sym are.there.told ∙ is)

  -- a node that is listed, and the node that it stands for
  matched : AreMatched before (arcs_in d node) (λ b from. node_of s b.node ≡ Some from)
  matched =
      subst (λ (n : Node). AreMatched before (arcs_in d n) (λ b from. node_of s b.node ≡ Some from)) node_same
      (record {
        there = λ b c. let i = are.sound b c in (i.from, i.joined, i.there.told);
        back = λ from c. let b = are.all from c in (b.0, b.1.0, b.1.1);
      })

  module _ (split : Split) where
    values_of : (b : Before) (from : Node) → Contains before b → node_of s b.node ≡ Some from → told_values s split at b ≡ values_along d split node from (row_of from)
    values_of b from c e =
        ap (λ o. option_map_or (λ t. option_map_or (λ f. values_along d split t f b.row.now) (node_of s b.node) no_values) o no_values) is
        ∙ ap (λ o. option_map_or (λ f. values_along d split node f b.row.now) o no_values) e
        ∙ ap (values_along d split node from) (rows b from c e)

    wide_of : (b : Before) (from : Node) → Contains before b → node_of s b.node ≡ Some from → told_wide s split at b ≡ is_wide_along d split node from (row_of from)
    wide_of b from c e =
        ap (λ o. option_map_or (λ t. option_map_or (λ f. is_wide_along d split t f b.row.now) (node_of s b.node) false) o false) is
        ∙ ap (λ o. option_map_or (λ f. is_wide_along d split node f b.row.now) o false) e
        ∙ ap (is_wide_along d split node from) (rows b from c e)

    abbrev values : List ArcValues
    values = map (told_values s split at) before

    -- the slew
    slews_merged : outermost split (λ (v : ArcValues). v.slew) None values
        ≡ outermost split (λ from. option_and_then (slew_along d split from node) (slew_in split (row_of from))) None (arcs_in d node)
    slews_merged =
        outermost_map split (λ (v : ArcValues). v.slew) (told_values s split at) None before
        ∙ outermost_same before (arcs_in d node) (λ b from. node_of s b.node ≡ Some from) matched split
        (λ b. (told_values s split at b).slew) (λ from. option_and_then (slew_along d split from node) (slew_in split (row_of from)))
        (λ b from c e. ap (λ (v : ArcValues). v.slew) (values_of b from c e))

    slew_is : told_slew_over s split at values ≡ slew_of d split row_of node
    slew_is =
        ap (λ o. option_map_or (λ n. if is_input_port n.pin then Some (port_slew d.constraints.slews split n.pin n.tran) else outermost split (λ (v : ArcValues). v.slew) None values) o None) is
        ∙ ap (λ o. if is_input_port node.pin then Some (port_slew d.constraints.slews split node.pin node.tran) else o) slews_merged

    -- the arrivals
    merged_as : (edge : ℕ × Tran) (best : Option ℤ) (bs : List Before)
        → merged_over split edge best bs (map (told_values s split at) bs)
        ≡ outermost split (λ b. plus_some (time_on (times_in split b.row.now) edge) (told_values s split at b).delay) best bs
    merged_as edge best [] = refl
    merged_as edge best (b ∷ bs) = merged_as edge (outer_some split best (plus_some (time_on (times_in split b.row.now) edge) (told_values s split at b).delay)) bs

    arrival_is : (edge : ℕ × Tran) → arrival_over s split at before values edge ≡ arrival_of d split row_of node edge
    arrival_is edge =
        ap (λ o. option_map_or Some (option_and_then (λ n. start_at d split n edge) o) (merged_over split edge None before values)) is
        ∙ ap (option_map_or Some (start_at d split node edge))
        (merged_as edge None before
        ∙ outermost_same before (arcs_in d node) (λ b from. node_of s b.node ≡ Some from) matched split
        (λ b. plus_some (time_on (times_in split b.row.now) edge) (told_values s split at b).delay)
        (λ from. plus_some (time_on (times_in split (row_of from)) edge) (delay_from d split from node (row_of from)))
        (λ b from c e.
        ap (λ (r : NodeRow). plus_some (time_on (times_in split r) edge) (told_values s split at b).delay) (rows b from c e)
        ∙ ap (λ (v : ArcValues). plus_some (time_on (times_in split (row_of from)) edge) v.delay) (values_of b from c e)))

    times_are : times_on (arrival_over s split at before values) (launch_edges d) ≡ arrivals_of d split row_of node
    times_are =
        filter_map_agree (λ edge. option_map (edge_time edge) (arrival_over s split at before values edge))
        (λ edge. option_map (edge_time edge) (arrival_of d split row_of node edge))
        (λ edge. ap (option_map (edge_time edge)) (arrival_is edge)) (launch_edges d)

    wide_times_are : are_wide_times (arrival_over s split at before values) (launch_edges d) ≡ list_any (λ edge. not (within_some (arrival_of d split row_of node edge))) (launch_edges d)
    wide_times_are =
        any_agree (λ edge. not (within_some (arrival_over s split at before values edge))) (λ edge. not (within_some (arrival_of d split row_of node edge)))
        (λ edge. ap (λ o. not (within_some o)) (arrival_is edge)) (launch_edges d)

    -- the tests over the arcs
    abbrev looked_any : Bool
    looked_any = list_any (λ from. is_wide_looked d split node from (row_of from)) (arcs_in d node)

    abbrev scaled_any : Bool
    scaled_any = list_any (λ from. is_wide_scaled d split node from (row_of from)) (arcs_in d node)

    abbrev end_any : Bool
    end_any = list_any (λ from. is_wide_end d split node from (row_of from)) (arcs_in d node)

    abbrev end_of : Node → Option ℤ
    end_of from = option_and_then (slew_along d split from node) (slew_in split (row_of from))

    along_any : list_any (told_wide s split at) before ≡ ((looked_any || scaled_any) || end_any)
    along_any =
        any_same before (arcs_in d node) (λ b from. node_of s b.node ≡ Some from) matched (told_wide s split at)
        (λ from. is_wide_along d split node from (row_of from)) wide_of
        ∙ either_end (λ from. is_wide_looked d split node from (row_of from)) (λ from. is_wide_scaled d split node from (row_of from))
        (λ from. is_wide_end d split node from (row_of from)) (arcs_in d node)

    -- an input port's slew is written, within the limit
    port_within : are_constraints d.constraints ≡ true → within_some (Some (port_slew d.constraints.slews split node.pin node.tran)) ≡ true
    port_within fit = by (find (λ s. bytes_eq s.port node.pin.own && same_split s.split split && same_tran s.tran node.tran) d.constraints.slews) refl
      where
        by : (o : Option PortSlew) → find (λ s. bytes_eq s.port node.pin.own && same_split s.split split && same_tran s.tran node.tran) d.constraints.slews ≡ o
            → is_within (option_map_or (λ (s : PortSlew). s.slew.0) o (pos 0)) ≡ true
        by None e = refl
        by (Some p) e =
            amount_within p.slew.0
            (all_in (λ (s : PortSlew). is_amount s.slew.0) d.constraints.slews p (fit_of d.constraints fit).slews
            (found_in (λ (s : PortSlew). bytes_eq s.port node.pin.own && same_split s.split split && same_tran s.tran node.tran) d.constraints.slews p e))

    -- where no end is too large, neither is the slew
    none_large : are_constraints d.constraints ≡ true → end_any ≡ false → not (within_some (slew_of d split row_of node)) ≡ false
    none_large fit none =
        ap not
        (chosen (is_input_port node.pin) (Some (port_slew d.constraints.slews split node.pin node.tran)) (outermost split end_of None (arcs_in d node))
        (port_within fit) (outermost_within split end_of None (arcs_in d node) refl (none_any (λ from. within_some (end_of from)) (arcs_in d node) none)))
      where
        chosen : (b : Bool) (x y : Option ℤ) → within_some x ≡ true → within_some y ≡ true → within_some (if b then x else y) ≡ true
        chosen true x y h k = h
        chosen false x y h k = k

    -- an end of a cell's arcs that is too large was looked up so
    looked_too : is_driver node.pin ≡ true → (from : Node) → is_wide_end d split node from (row_of from) ≡ true → is_wide_looked d split node from (row_of from) ≡ true
    looked_too drives from wide = by (slew_in split (row_of from)) refl
      where
        by : (o : Option ℤ) → slew_in split (row_of from) ≡ o → is_wide_looked d split node from (row_of from) ≡ true
        by None e = absurd (false≢true (sym (ap (λ o. not (within_some (option_and_then (slew_along d split from node) o))) e) ∙ wide))
        by (Some x) e =
            ap (λ t. t && option_map_or (λ y. not (looked_within d split from node (λ arc. arc.slew) y) || not (looked_within d split from node (λ arc. arc.delay) y)) (slew_in split (row_of from)) false) drives
            ∙ ap (λ o. option_map_or (λ y. not (looked_within d split from node (λ arc. arc.slew) y) || not (looked_within d split from node (λ arc. arc.delay) y)) o false) e
            ∙ ap (λ b. not b || not (looked_within d split from node (λ arc. arc.delay) x)) some
          where
            beyond : not (within_some (outermost split (λ (arc : CellArc). Some (look arc.slew x (load_at d split node.pin))) None (library_arcs d split from node))) ≡ true
            beyond =
                sym (ap (λ o. not (within_some (option_and_then (slew_along d split from node) o))) e
                ∙ ap (λ t. not (within_some (if t then outermost split (λ (arc : CellArc). Some (look arc.slew x (load_at d split node.pin))) None (library_arcs d split from node) else Some (wire_slew d split (net_name node.pin) from.pin node.pin x)))) drives)
                ∙ wide

            some : looked_within d split from node (λ arc. arc.slew) x ≡ false
            some = elim (cases_Bool (looked_within d split from node (λ arc. arc.slew) x)) [
              | inl h ↦
                  let fine = outermost_within split (λ (arc : CellArc). Some (look arc.slew x (load_at d split node.pin))) None (library_arcs d split from node) refl h in
                  absurd (false≢true (sym (ap not fine) ∙ beyond))
              | inr h ↦ h
            ]

    -- a sink is entered from one node at most
    sink_in : is_driver node.pin ≡ false → (from : Node) → Contains (arcs_in d node) from → Contains (net_arcs_in d node) from
    unfolding arcs_in
    sink_in sinks from c =
        subst (λ (t : Bool). Contains (if t then option_map_or (cell_arcs_in d node) node.pin.owner [] else net_arcs_in d node) from) sinks
        (kept_in (λ f. not (is_network d node.pin) || is_network d f.pin) (all_arcs_in d node) from c)

    only_from : is_driver node.pin ≡ false → (from : Node) → Contains (arcs_in d node) from
        → outermost split end_of None (arcs_in d node) ≡ end_of from
    only_from sinks from c =
        outermost_same (arcs_in d node) (from ∷ []) (λ x y. x ≡ y)
        (record { there = λ x k. (from, first_in from [], one x k); back = λ y k. (from, c, last y k) })
        split end_of end_of (λ x y k e. ap end_of e)
      where
        one : (x : Node) → Contains (arcs_in d node) x → x ≡ from
        one x k =
            let m = in_map_back (λ pin. record { pin = pin; tran = node.tran }) (driver_on d (net_of node.pin)) x (sink_in sinks x k) in
            let n = in_map_back (λ pin. record { pin = pin; tran = node.tran }) (driver_on d (net_of node.pin)) from (sink_in sinks from c) in
            sym m.same ∙ ap (λ (p : Pin). record { pin = p; tran = node.tran }) (lone d (net_of node.pin) m.item n.item m.within n.within) ∙ n.same

        last : (y : Node) → Contains (from ∷ []) y → from ≡ y
        last y k = elim (in_cases from [] y k) [ inl e ↦ e | inr none ↦ absurd (none_in y none) ]

    -- an end that is too large shows at a look-up, or in the slew
    large_end : end_any ≡ true → ((looked_any || scaled_any) || not (within_some (slew_of d split row_of node))) ≡ true
    large_end h =
        let r = any_back (λ from. is_wide_end d split node from (row_of from)) (arcs_in d node) h in
        elim (cases_Bool (is_driver node.pin)) [
          | inl drives ↦
              first_true looked_any scaled_any (not (within_some (slew_of d split row_of node)))
              (any_in (λ from. is_wide_looked d split node from (row_of from)) (arcs_in d node) r.item r.within (looked_too drives r.item r.passes))
          | inr sinks ↦
              last_true (looked_any || scaled_any) (not (within_some (slew_of d split row_of node)))
              (ap (λ t. not (within_some (if option_map_or (λ (i : Inst). false) node.pin.owner true && t then Some (port_slew d.constraints.slews split node.pin node.tran) else outermost split end_of None (arcs_in d node)))) sinks
              ∙ ap (λ b. not (within_some (if b then Some (port_slew d.constraints.slews split node.pin node.tran) else outermost split end_of None (arcs_in d node)))) (and_no (option_map_or (λ (i : Inst). false) node.pin.owner true))
              ∙ ap (λ o. not (within_some o)) (only_from sinks r.item r.within) ∙ r.passes)
        ]

    pub wide_split_is : are_constraints d.constraints ≡ true → is_wide_split s split at before ≡ is_wide_in d split row_of node
    wide_split_is fit =
        ap (λ b. b || are_wide_times (arrival_over s split at before values) (launch_edges d)) along_any
        ∙ ap (λ b. ((looked_any || scaled_any) || end_any) || b) wide_times_are
        ∙ wide_joined looked_any scaled_any end_any (not (within_some (slew_of d split row_of node)))
        (list_any (λ edge. not (within_some (arrival_of d split row_of node edge))) (launch_edges d)) large_end (none_large fit)

    pub row_split_is : told_row s split at before
        ≡ record { slew = as_fs (slew_of d split row_of node); times = arrivals_of d split row_of node; values = map (told_values s split at) before }
    row_split_is =
        ap (λ o. record { slew = as_fs o; times = times_on (arrival_over s split at before values) (launch_edges d); values = map (told_values s split at) before }) slew_is
        ∙ ap (λ ts. record { slew = as_fs (slew_of d split row_of node); times = ts; values = map (told_values s split at) before }) times_are

  pub whole_row : are_constraints d.constraints ≡ true → (early late : SplitRow) → early ≡ told_row s Early at before → late ≡ told_row s Late at before
      → is_wide_split s Early at before ≡ false → is_wide_split s Late at before ≡ false
      → IsRow d row_of node (record { early_slew = early.slew; late_slew = late.slew; early = early.times; late = late.times })
  whole_row fit early late e l fine_e fine_l =
      record {
        row =
            ap (λ (r : SplitRow). record { early_slew = r.slew; late_slew = late.slew; early = r.times; late = late.times }) (e ∙ row_split_is Early)
            ∙ ap (λ (r : SplitRow). record { early_slew = as_fs (slew_of d Early row_of node); late_slew = r.slew; early = arrivals_of d Early row_of node; late = r.times })
            (l ∙ row_split_is Late);
        fine =
            ap (λ b. b || is_wide_in d Late row_of node) (sym (wide_split_is Early fit) ∙ fine_e) ∙ sym (wide_split_is Late fit) ∙ fine_l;
      }

  pub wide_row : are_constraints d.constraints ≡ true → (split : Split) → is_wide_split s split at before ≡ true → is_wide d row_of node ≡ true
  wide_row fit Early h = ap (λ b. b || is_wide_in d Late row_of node) (sym (wide_split_is Early fit) ∙ h)
  wide_row fit Late h = last_true (is_wide_in d Early row_of node) (is_wide_in d Late row_of node) (sym (wide_split_is Late fit) ∙ h)
