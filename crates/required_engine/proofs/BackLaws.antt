-- The required times of a node of a graph are found over what lies behind it, and a time that leaves its limit is an origin
-- of an overflow where the nodes behind are fine.

use Rattle.std.proofs.Common.{◌≡◌, ℕ, zero, suc, ℤ, Bool, true, false, not, List, [], ◌∷◌, map, filter, length, Option, None, Some, refl, sym, ap, subst, ◌∙◌, inl, inr, arith}
use Rattle.std.specs.Prelude.{Contains, is_some, is_none, option_map, ◌&&◌, ◌||◌, if◌then◌else◌}
use Rattle.std.specs.List.{list_all, list_any, flat_map}
use Rattle.std.proofs.lemmas.Bool.{cases_Bool, and_from, and_parts, or_parts, true≢false, false≢true}
use Rattle.std.proofs.lemmas.Slice.Eq.{bytes_eq-Decides}
use Rattle.timing_defs.specs.declared.kinds.Split.{Split}
use Rattle.timing_defs.specs.declared.kinds.Split.TheVariants.{Early, Late}
use Rattle.timing_defs.specs.declared.kinds.Tran.{Tran}
use Rattle.timing_defs.specs.declared.kinds.Tran.TheVariants.{Rise, Fall}
use Rattle.timing_defs.specs.declared.netlist.Inst.{Inst}
use Rattle.timing_defs.specs.declared.rows.NodeRow.{NodeRow}
use Rattle.timing_defs.specs.declared.rows.BackRow.{BackRow}
use Rattle.timing_defs.specs.declared.design.Design.{Design}
use Rattle.timing_defs.specs.Netlist.{Pin, Node, name_of, pins, nodes, both_nodes, inst_pins, same_node, same_pin, same_tran, pin_named}
use Rattle.timing_rules.specs.Rows.{arcs_in, arrival, arrival_of, arrivals_of, edge_time, launch_edges, row, step}
use Rattle.timing_defs.specs.RowTimes.{time_on, times_in}
use Rattle.timing_defs.specs.Kinds.{data_split, clock_split}
use Rattle.timing_rules.specs.Tests.{tests_at, is_endpoint}
use Rattle.timing_rules.specs.Required.{arcs_out, required_of, required_times, back_step, back_row, required}
use Rattle.timing_defs.specs.Kinds.{kind_of}
use Rattle.timing_defs.specs.RowTimes.{back_times}
use Rattle.timing_rules.specs.Range.{within_some, fine_delay, fine_test, required_inputs, fine_required_within, fine_required, is_required_origin, is_need_origin, is_back_origin}
use Rattle.timing_rules.proofs.RowLaws.{stable, row_is, back_is}
use Rattle.netlist_store.specs.Linked.{IsLinked}
use Rattle.netlist_store.specs.Numbering.{IsNumbered}
use Rattle.node_rows.specs.Evaluation.{times_on, are_wide_times}
use Rattle.node_rows.proofs.FineLaws.{IsFine, time_told}
use Rattle.node_rows.proofs.MergeLaws.{filter_map_agree}
use Rattle.pin_graph.specs.Nodes.{node_number}
use Rattle.pin_graph.specs.Graphs.{Graphed, IsGraph}
use Rattle.pin_graph.specs.RowTables.{AreRowsFine}
use Rattle.timing_defs.proofs.Members.{some_is, any_in, any_back, in_filter, passes_in, in_flat_map_back}
use Rattle.timing_defs.proofs.SameNames.{same_self}
use Rattle.store_pins.proofs.PinLaws.{pin_found, pin_told, own_in, own_back, own_pins}
use Rattle.pin_graph.proofs.GraphRows.{Stands, level, placed, height, high}
use Rattle.required_engine.specs.Behinds.{edge_of}
use Rattle.required_engine.specs.Worked.{IsFineBack}
use Rattle.required_engine.proofs.ForwardLaws.{node_listed, node_fine, arc_delay}
use Rattle.required_engine.proofs.TestLaws.{tests_fine}
use Rattle.required_engine.proofs.TimeLaws.{edges_kept, filter_agree, times_kept, wide_kept, any_agree_in, is_near, all_near}

all_agree : {X : Type 0} (f g : X → Bool) (xs : List X) → ((x : X) → Contains xs x → f x ≡ g x) → list_all f xs ≡ list_all g xs
all_agree f g [] same = refl
all_agree f g (x ∷ xs) same =
    ap (λ b. b && list_all f xs) (same x (0, omega arith, refl))
    ∙ ap (λ b. g x && b) (all_agree f g xs (λ y c. same y (let low = c.1 in (suc c.0, omega (arith, low), c.2))))

all_from : {X : Type 0} (f : X → Bool) (xs : List X) → ((x : X) → Contains xs x → f x ≡ true) → list_all f xs ≡ true
all_from f [] each = refl
all_from f (x ∷ xs) each =
    and_from (f x) (list_all f xs) (each x (0, omega arith, refl)) (all_from f xs (λ y c. each y (let low = c.1 in (suc c.0, omega (arith, low), c.2))))

or_right : (a b : Bool) → b ≡ true → (a || b) ≡ true
or_right true b h = refl
or_right false b h = h

same_trans : (a b : Tran) → same_tran a b ≡ true → a ≡ b
same_trans Rise Rise e = refl
same_trans Rise Fall e = absurd (false≢true e)
same_trans Fall Rise e = absurd (false≢true e)
same_trans Fall Fall e = refl

self_tran : (t : Tran) → same_tran t t ≡ true
self_tran Rise = refl
self_tran Fall = refl

of_both : (pin : Pin) (n : Node) → Contains (both_nodes pin) n → n.pin ≡ pin
of_both pin n (zero, low, is) = ap (λ (m : Node). m.pin) (sym is)
of_both pin n (suc zero, low, is) = ap (λ (m : Node). m.pin) (sym is)
of_both pin n (suc (suc i), low, is) = absurd (omega (arith, low))

-- a time on an edge, of the row that has it
times_of : (split : Split) (d : Design) (row_of : Node → NodeRow) (n : Node) → times_in split (step d row_of n) ≡ arrivals_of d split row_of n
times_of Early d row_of n = refl
times_of Late d row_of n = refl

backs_of : (split : Split) (d : Design) (back_of : Node → BackRow) (n : Node) → back_times split (back_step d back_of n) ≡ required_times d split back_of n
backs_of Early d back_of n = refl
backs_of Late d back_of n = refl

module _ (g : Graphed) (num : IsNumbered g.stored) (linked : IsLinked g.stored.design) (is : IsGraph g) where
  abbrev d : Design
  d = g.stored.design

  stood : (n : Node) → Contains (pins d) n.pin → Stands g num linked is n
  stood n c = let p = pin_told g.stored num linked n.pin c in (node_number p.0 n.tran, record { pin = p.0; has = p.1; number = refl })

  one_pin : (a b : Pin) → Contains (pins d) a → Contains (pins d) b → same_pin a b ≡ true → a ≡ b
  one_pin a b ca cb e =
      some_is (sym (pin_found g.stored num linked a ca) ∙ ap (pin_named d) ((bytes_eq-Decides (name_of a) (name_of b)).0 e) ∙ pin_found g.stored num linked b cb)

  -- an arc out of a node is one into another, and back
  pub out_in : (n : Node) → Stands g num linked is n → (to : Node) → Contains (arcs_out d n) to → Contains (arcs_in d to) n
  out_in n s to c =
      let t = (high g num linked is).closed n s to c in
      let r = any_back (same_node n) (arcs_in d to) (passes_in (λ t. list_any (same_node n) (arcs_in d t)) (nodes d) to c) in
      let f = (placed g num linked is).closed to t r.item r.within in
      let parts = and_parts (same_pin n.pin r.item.pin) (same_tran n.tran r.item.tran) r.passes in
      let pin = one_pin n.pin r.item.pin s.1.has.within f.1.has.within parts.0 in
      let tran = same_trans n.tran r.item.tran parts.1 in
      let same : r.item ≡ n = λ k. record { pin = sym pin k; tran = sym tran k } in
      subst (λ (x : Node). Contains (arcs_in d to) x) same r.within

  pub in_out : (to : Node) → Stands g num linked is to → (n : Node) → Contains (arcs_in d to) n → Contains (arcs_out d n) to
  in_out to t n c =
      in_filter (λ x. list_any (same_node n) (arcs_in d x)) (nodes d) to (node_listed g.stored to t.0 t.1)
      (any_in (same_node n) (arcs_in d to) n c (and_from (same_pin n.pin n.pin) (same_tran n.tran n.tran) (same_self (name_of n.pin)) (self_tran n.tran)))

  module _ (split : Split) (n : Node) (s : Stands g num linked is n) where
    -- the edges that arrive
    abbrev arrives : ℕ × Tran → Bool
    arrives edge = is_some (arrival d split n edge)

    arrival_told : (edge : ℕ × Tran) → Contains (launch_edges d) edge → arrival d split n edge ≡ arrival_of d split (row d) n edge
    arrival_told edge c =
        ap (λ (r : NodeRow). time_on (times_in split r) edge) (row_is d (Stands g num linked is) (level g num linked is) (placed g num linked is) n s)
        ∙ ap (λ ts. time_on ts edge) (times_of split d (row d) n)
        ∙ time_told (arrival_of d split (row d) n) edge (launch_edges d) c

    pub own_edges : map edge_of (times_in split (row d n)) ≡ filter arrives (launch_edges d)
    own_edges =
        ap (λ (r : NodeRow). map edge_of (times_in split r)) (row_is d (Stands g num linked is) (level g num linked is) (placed g num linked is) n s)
        ∙ ap (map edge_of) (times_of split d (row d) n)
        ∙ edges_kept (arrival_of d split (row d) n) (launch_edges d)
        ∙ sym (filter_agree arrives (λ e. is_some (arrival_of d split (row d) n e)) (launch_edges d) (λ e c. ap is_some (arrival_told e c)))

    -- the required times
    backs_are : back_times split (back_row d n) ≡ required_times d split (back_row d) n
    backs_are =
        ap (back_times split) (back_is d (Stands g num linked is) (height g num linked is) (high g num linked is) n s) ∙ backs_of split d (back_row d) n

    required_is : (edge : ℕ × Tran) → Contains (launch_edges d) edge → required d split n edge ≡ (if arrives edge then required_of d split (back_row d) n edge else None)
    required_is edge c =
        ap (λ ts. time_on ts edge) (backs_are ∙ times_kept arrives (required_of d split (back_row d) n) (launch_edges d))
        ∙ time_told (λ e. if arrives e then required_of d split (back_row d) n e else None) edge (launch_edges d) c

    -- what is found over what lies behind the node
    module _ (f : ℕ × Tran → Option ℤ) (found : (edge : ℕ × Tran) → f edge ≡ required_of d split (back_row d) n edge) where
      pub times_found : times_on f (map edge_of (times_in split (row d n))) ≡ back_times split (back_row d n)
      times_found =
          ap (times_on f) own_edges
          ∙ filter_map_agree (λ e. option_map (edge_time e) (f e)) (λ e. option_map (edge_time e) (required_of d split (back_row d) n e))
          (λ e. ap (option_map (edge_time e)) (found e)) (filter arrives (launch_edges d))
          ∙ sym backs_are

      and_right : (a b : Bool) → a ≡ true → (a && b) ≡ b
      and_right true b h = refl
      and_right false b h = absurd (false≢true h)

      pub wide_found : ((edge : ℕ × Tran) → Contains (launch_edges d) edge → required_inputs d split edge (fine_required d split edge) n ≡ true)
          → are_wide_times f (map edge_of (times_in split (row d n))) ≡ list_any (is_required_origin d split n) (launch_edges d)
      wide_found inputs =
          ap (are_wide_times f) own_edges
          ∙ wide_kept arrives f (launch_edges d)
          ∙ any_agree_in (λ e. not (within_some (if arrives e then f e else None))) (is_required_origin d split n) (launch_edges d)
          (λ e c.
          ap (λ o. not (within_some (if arrives e then o else None))) (found e)
          ∙ ap (λ o. not (within_some o)) (sym (required_is e c))
          ∙ sym (and_right (required_inputs d split e (fine_required d split e) n) (not (within_some (required d split n e))) (inputs e c)))

    -- a required time is fine where what it is computed from is and it is within its limit
    pub fine_is : (edge : ℕ × Tran) → fine_required d split edge n ≡ (required_inputs d split edge (fine_required d split edge) n && within_some (required d split n edge))
    unfolding fine_required
    fine_is edge =
        let low = (high g num linked is).low n s in
        stable (λ f m. required_inputs d split edge f m && within_some (required d split m edge)) (arcs_out d) (Stands g num linked is) (height g num linked is)
        (λ f h m same. ap (λ b. b && within_some (required d split m edge)) (inputs_agree f h m same))
        (high g num linked is).closed (high g num linked is).rising (fine_required_within d split edge) (λ k m. refl) (suc (length (nodes d))) n s (omega (arith, low))
      where
        inputs_agree : (f h : Node → Bool) (m : Node) → ((to : Node) → Contains (arcs_out d m) to → f to ≡ h to) → required_inputs d split edge f m ≡ required_inputs d split edge h m
        inputs_agree f h m same =
            ap (λ b. if is_endpoint d m.pin then list_all (fine_test d (kind_of split) m) (tests_at d (kind_of split) m) else b)
            (all_agree (λ to. is_none (required d split to edge) || (f to && fine_delay d split m to))
            (λ to. is_none (required d split to edge) || (h to && fine_delay d split m to)) (arcs_out d m)
            (λ to c. ap (λ b. is_none (required d split to edge) || (b && fine_delay d split m to)) (same to c)))

    -- required times that are fine lie within their limit
    pub times_near : ((edge : ℕ × Tran) → Contains (launch_edges d) edge → fine_required d split edge n ≡ true) → list_all is_near (back_times split (back_row d n)) ≡ true
    times_near fine =
        ap (list_all is_near) (backs_are ∙ times_kept arrives (required_of d split (back_row d) n) (launch_edges d))
        ∙ all_near (λ e. if arrives e then required_of d split (back_row d) n e else None) (launch_edges d)
        (λ e c. ap within_some (sym (required_is e c))
        ∙ (and_parts (required_inputs d split e (fine_required d split e) n) (within_some (required d split n e)) (sym (fine_is e) ∙ fine e c)).1)

    -- what the required times of a node are computed from
    module _ (fine : AreRowsFine d) (need : is_need_origin d (kind_of split) n ≡ false)
        (behind : (to : Node) → Contains (arcs_out d n) to → IsFineBack d to) where
      clock_fine : (inst : Inst) → n.pin.owner ≡ Some inst → (clock : Node) → Contains (flat_map both_nodes (inst_pins d inst)) clock → IsFine d (clock_split (kind_of split)) clock
      clock_fine inst own clock c =
          let r = in_flat_map_back both_nodes (inst_pins d inst) clock c in
          let i = own_back d linked n.pin inst s.1.has.within own in
          let p = own_pins d linked inst r.item i.inst r.within in
          let pin : r.item ≡ clock.pin = sym (of_both r.item clock r.inside) in
          let there : Contains (pins d) clock.pin = subst (λ (q : Pin). Contains (pins d) q) (sym p.same ∙ pin) (own_in d linked inst p.pin i.inst p.within) in
          node_fine g num linked is fine (clock_split (kind_of split)) clock (stood clock there)

      endpoint_inputs : list_all (fine_test d (kind_of split) n) (tests_at d (kind_of split) n) ≡ true
      endpoint_inputs = tests_fine d (kind_of split) n need (node_fine g num linked is fine (data_split (kind_of split)) n s).slew clock_fine

      arc_inputs : (edge : ℕ × Tran) → Contains (launch_edges d) edge
          → list_all (λ to. is_none (required d split to edge) || (fine_required d split edge to && fine_delay d split n to)) (arcs_out d n) ≡ true
      arc_inputs edge m =
          all_from (λ to. is_none (required d split to edge) || (fine_required d split edge to && fine_delay d split n to)) (arcs_out d n)
          (λ to c. or_right (is_none (required d split to edge)) (fine_required d split edge to && fine_delay d split n to)
          (and_from (fine_required d split edge to) (fine_delay d split n to) ((behind to c).times split edge m)
          (arc_delay g num linked is fine split to ((high g num linked is).closed n s to c) n (out_in n s to c))))

      pub inputs_fine : (edge : ℕ × Tran) → Contains (launch_edges d) edge → required_inputs d split edge (fine_required d split edge) n ≡ true
      inputs_fine edge m = elim (cases_Bool (is_endpoint d n.pin)) [ inl e ↦ rw e endpoint_inputs | inr e ↦ rw e (arc_inputs edge m) ]

      -- where no required time of the node leaves its limit
      module _ (near : list_any (is_required_origin d split n) (launch_edges d) ≡ false) where
        none_at : {X : Type 0} (f : X → Bool) (xs : List X) → list_any f xs ≡ false → (x : X) → Contains xs x → f x ≡ false
        none_at f [] none x c = absurd (let low = c.1 in omega (arith, low))
        none_at f (y ∷ ys) none x (zero, low, e) = ap f (sym e) ∙ (or_parts (f y) (list_any f ys) none).0
        none_at f (y ∷ ys) none x (suc i, low, e) = none_at f ys (or_parts (f y) (list_any f ys) none).1 x (i, omega (arith, low), e)

        within_of : (a b : Bool) → a ≡ true → (a && not b) ≡ false → b ≡ true
        within_of true true h k = refl
        within_of true false h k = absurd (true≢false k)
        within_of false b h k = absurd (false≢true h)

        pub time_fine : (edge : ℕ × Tran) → Contains (launch_edges d) edge → fine_required d split edge n ≡ true
        time_fine edge m =
            fine_is edge
            ∙ and_from (required_inputs d split edge (fine_required d split edge) n) (within_some (required d split n edge)) (inputs_fine edge m)
            (within_of (required_inputs d split edge (fine_required d split edge) n) (within_some (required d split n edge)) (inputs_fine edge m)
            (none_at (is_required_origin d split n) (launch_edges d) near edge m))

        pub no_origin : is_back_origin d split n ≡ false
        no_origin = neither (is_need_origin d (kind_of split) n) (list_any (is_required_origin d split n) (launch_edges d)) need near
          where
            neither : (a b : Bool) → a ≡ false → b ≡ false → (a || b) ≡ false
            neither a b g h = rw (g, h) refl
