-- A node of the clock network that has a late arrival on a launch edge has an early one.

use Rattle.std.proofs.Common.{◌≡◌, ◌⊎◌, ℕ, zero, suc, ◌+◌, ℤ, pos, Bool, true, false, not, List, [], ◌∷◌, filter, length, Option, None, Some, refl, sym, ap, subst, ◌∙◌, inl, inr}
use Rattle.std.specs.Prelude.{is_some, option_map, option_and_then, if◌then◌else◌, ◌&&◌, ◌||◌, Contains}
use Rattle.std.specs.List.{list_any, list_all}
use Rattle.std.specs.Option.{option_map_or}
use Rattle.std.specs.Str.{bytes_eq}
use Rattle.std.proofs.lemmas.Bool.{cases_Bool, true≢false, false≢true, and_parts}
use Rattle.timing_defs.specs.declared.kinds.Split.{Split}
use Rattle.timing_defs.specs.declared.kinds.Split.TheVariants.{Early, Late}
use Rattle.timing_defs.specs.declared.kinds.Tran.{Tran}
use Rattle.timing_defs.specs.declared.kinds.Tran.TheVariants.{Rise, Fall}
use Rattle.timing_defs.specs.declared.library.Cell.{Cell}
use Rattle.timing_defs.specs.declared.library.CellArc.{CellArc}
use Rattle.timing_defs.specs.declared.netlist.Inst.{Inst}
use Rattle.timing_defs.specs.declared.design.Design.{Design}
use Rattle.timing_defs.specs.declared.rows.NodeRow.{NodeRow}
use Rattle.timing_defs.specs.declared.faults.Fault.{Fault}
use Rattle.timing_defs.specs.declared.faults.Fault.TheVariants.{UnknownCell}
use Rattle.timing_defs.specs.Edits.{link_inst, link_pin, link_net, first_fault, cells_agree, same_set, same_cell_pin, same_arc, same_test}
use Rattle.timing_defs.specs.Kinds.{is_comb}
use Rattle.timing_defs.specs.Lookup.{look}
use Rattle.timing_defs.specs.Netlist.{Pin, Node, pins, nodes, cell_of, net_of, is_driver, same_tran}
use Rattle.timing_defs.specs.RowTimes.{slew_in, times_in, time_on, plus_some}
use Rattle.timing_defs.specs.Wires.{first_some, wire_delay, wire_slew}
use Rattle.timing_defs.proofs.Members.{none_in, first_in, later_in, in_cases, in_filter, passes_in, kept_in, any_back, all_in}
use Rattle.timing_defs.proofs.SameNames.{same_is}
use Rattle.timing_rules.specs.Clocking.{cell_arcs, is_network, is_clock_port}
use Rattle.timing_rules.specs.Rows.{stands, joins, library_arcs, all_arcs_in, arcs_in, outer_some, outermost, load_at, net_name, slew_along, raw_delay, scaled, delay_along, port_slew, is_input_port, slew_of, launch_edges, is_clock_at, input_delay, start_at, delay_from, arrival_of, step, row_within, row, arrival, as_fs}
use Rattle.netlist_store.specs.Linked.{IsLinked}
use Rattle.netlist_store.specs.Numbering.{Stored, IsNumbered}
use Rattle.node_rows.proofs.FineLaws.{time_told}
use Rattle.store_pins.proofs.PinLaws.{own_back}
use Rattle.path_search.specs.Runs.{IsTimed}
use Rattle.path_search.proofs.Prefixes.{network_port}

-- what an outermost value is made of
module _ {X : Type 0} (split : Split) (f : X → Option ℤ) where
  kept : (best : Option ℤ) (xs : List X) → is_some best ≡ true → is_some (outermost split f best xs) ≡ true
  kept None xs h = absurd (false≢true h)
  kept (Some b) [] h = refl
  kept (Some b) (x ∷ xs) h = kept (outer_some split (Some b) (f x)) xs (by (f x))
    where
      by : (o : Option ℤ) → is_some (outer_some split (Some b) o) ≡ true
      by None = refl
      by (Some y) = refl

  there : (best : Option ℤ) (xs : List X) (x : X) → Contains xs x → is_some (f x) ≡ true → is_some (outermost split f best xs) ≡ true
  there best [] x c h = absurd (none_in x c)
  there best (y ∷ ys) x c h = elim (in_cases y ys x c) [
    | inl e ↦ kept (outer_some split best (f y)) ys (by best (f y) (ap (λ z. is_some (f z)) e ∙ h))
    | inr d ↦ there (outer_some split best (f y)) ys x d h
  ]
    where
      by : (a b : Option ℤ) → is_some b ≡ true → is_some (outer_some split a b) ≡ true
      by None b g = g
      by (Some a) None g = refl
      by (Some a) (Some b) g = refl

  found : (best : Option ℤ) (xs : List X) → is_some (outermost split f best xs) ≡ true → (is_some best ≡ true) ⊎ ((x : X) × Contains xs x × (is_some (f x) ≡ true))
  found best [] h = inl h
  found best (x ∷ xs) h = elim (found (outer_some split best (f x)) xs h) [
    | inl e ↦ by best (f x) refl e
    | inr r ↦ inr (r.0, later_in x xs r.0 r.1, r.2)
  ]
    where
      by : (a b : Option ℤ) → f x ≡ b → is_some (outer_some split a b) ≡ true → (is_some a ≡ true) ⊎ ((z : X) × Contains (x ∷ xs) z × (is_some (f z) ≡ true))
      by None b e g = inr (x, first_in x xs, ap is_some e ∙ g)
      by (Some a) b e g = inl refl

-- where each value of one list leads to one of another
over : {X : Type 0} (f g : X → Option ℤ) (xs ys : List X)
    → ((x : X) → Contains xs x → is_some (f x) ≡ true → (y : X) × Contains ys y × (is_some (g y) ≡ true))
    → is_some (outermost Late f None xs) ≡ true → is_some (outermost Early g None ys) ≡ true
over f g xs ys each h = elim (found Late f None xs h) [
  | inl e ↦ absurd (false≢true e)
  | inr r ↦ (let y = each r.0 r.1 r.2 in there Early g None ys y.0 y.1 y.2)
]

some_of : {X : Type 0} (o : Option X) → is_some o ≡ true → (x : X) × (o ≡ Some x)
some_of None h = absurd (false≢true h)
some_of (Some x) h = (x, refl)

-- the cells of an instance in both libraries agree
no_fault : (a b : Option Fault) → option_map_or (λ (f : Fault). true) (first_fault (a ∷ b ∷ [])) false ≡ false → a ≡ None
no_fault None b e = refl
no_fault (Some f) b e = absurd (true≢false e)

none_at : {X : Type 0} (f : X → Option Fault) (xs : List X) → first_some f xs ≡ None → (x : X) → Contains xs x → f x ≡ None
none_at f [] e x c = absurd (none_in x c)
none_at f (y ∷ ys) e x c = by (f y) refl e (λ h d. none_at f ys h x d)
  where
    by : (o : Option Fault) → f y ≡ o → option_map_or Some o (first_some f ys) ≡ None → (first_some f ys ≡ None → Contains ys x → f x ≡ None) → f x ≡ None
    by (Some g) k h again = absurd (cc)
    by None k h again = elim (in_cases y ys x c) [ inl same ↦ ap f (sym same) ∙ k | inr d ↦ again h d ]

module _ (d : Design) (linked : IsLinked d) (inst : Inst) (within : Contains d.insts inst) where
  abbrev linked_by : Option Cell → Option Fault
  linked_by o = option_map_or (λ cell. first_some (link_pin inst.name cell) inst.conns) o (Some (UnknownCell inst.cell))

  abbrev used_of : Option Cell → Option Cell → Option Cell
  used_of early late = option_and_then (λ a. option_and_then (λ b. if cells_agree a b then Some b else None) late) early

  abbrev are_in_early : Option Cell → Option Cell → Type 0
  are_in_early early late = list_all (λ y. list_any (λ x. same_arc y x) (cell_arcs early)) (cell_arcs late) ≡ true

  agree_by : (early late : Option Cell) → linked_by (used_of early late) ≡ None → are_in_early early late
  agree_by None late e = absurd (cc)
  agree_by (Some a) None e = absurd (cc)
  agree_by (Some a) (Some b) e = elim (cases_Bool (cells_agree a b)) [
    | inl h ↦
        let sets = and_parts (same_set same_cell_pin a.pins b.pins && same_set same_arc a.arcs b.arcs) (same_set same_test a.tests b.tests) h in
        let arcs = (and_parts (same_set same_cell_pin a.pins b.pins) (same_set same_arc a.arcs b.arcs) sets.0).1 in
        (and_parts (list_all (λ x. list_any (same_arc x) b.arcs) a.arcs) (list_all (λ y. list_any (same_arc y) a.arcs) b.arcs) arcs).1
    | inr h ↦ let f : linked_by None ≡ None = sym (ap (λ (t : Bool). linked_by (if t then Some b else None)) h) ∙ e in absurd (cc)
  ]

  agreeing : are_in_early (cell_of d Early inst) (cell_of d Late inst)
  agreeing =
      agree_by (cell_of d Early inst) (cell_of d Late inst)
      (none_at (link_inst d.early d.late) d.insts
      (no_fault (first_some (link_inst d.early d.late) d.insts) (first_some (link_net d.nets) d.rcs) linked.linked) inst within)

-- an arc that is alike joins the same nodes
same_joins : (d : Design) (from to : Node) (a b : CellArc) → same_arc a b ≡ true → joins d from to a ≡ true → joins d from to b ≡ true
same_joins d from to a b same h =
    let p = and_parts (bytes_eq a.from b.from && same_tran a.from_tran b.from_tran && bytes_eq a.to b.to && same_tran a.to_tran b.to_tran)
    ((is_comb a && is_comb b) || (not (is_comb a) && not (is_comb b))) same in
    let q = and_parts (bytes_eq a.from b.from && same_tran a.from_tran b.from_tran && bytes_eq a.to b.to) (same_tran a.to_tran b.to_tran) p.0 in
    let r = and_parts (bytes_eq a.from b.from && same_tran a.from_tran b.from_tran) (bytes_eq a.to b.to) q.0 in
    let t = and_parts (bytes_eq a.from b.from) (same_tran a.from_tran b.from_tran) r.0 in
    sym (ap (λ w. joined w a.from_tran a.to a.to_tran (is_comb a)) (same_is a.from b.from t.0)
    ∙ ap (λ w. joined b.from w a.to a.to_tran (is_comb a)) (trans_same a.from_tran b.from_tran t.1)
    ∙ ap (λ w. joined b.from b.from_tran w a.to_tran (is_comb a)) (same_is a.to b.to r.1)
    ∙ ap (λ w. joined b.from b.from_tran b.to w (is_comb a)) (trans_same a.to_tran b.to_tran q.1)
    ∙ ap (λ w. joined b.from b.from_tran b.to b.to_tran w) (kinds_same (is_comb a) (is_comb b) p.1))
    ∙ h
  where
    joined : List ℕ → Tran → List ℕ → Tran → Bool → Bool
    joined f ft t tt comb =
        bytes_eq f from.pin.own && same_tran ft from.tran && bytes_eq t to.pin.own && same_tran tt to.tran && (comb || (is_network d from.pin && not (is_network d to.pin)))

    kinds_same : (x y : Bool) → ((x && y) || (not x && not y)) ≡ true → x ≡ y
    kinds_same true true e = refl
    kinds_same true false e = absurd (false≢true e)
    kinds_same false true e = absurd (false≢true e)
    kinds_same false false e = refl

    trans_same : (x y : Tran) → same_tran x y ≡ true → x ≡ y
    trans_same x y e = by x y e
      where
        by : (x y : Tran) → same_tran x y ≡ true → x ≡ y
        by Rise Rise e = refl
        by Rise Fall e = absurd (false≢true e)
        by Fall Rise e = absurd (false≢true e)
        by Fall Fall e = refl

module _ (d : Design) (t : IsTimed d) where
  -- an arc of the late library from node to node has one of the early library beside it
  early_arc : (from to : Node) → Contains (pins d) to.pin → (a : CellArc) → Contains (library_arcs d Late from to) a → (b : CellArc) × Contains (library_arcs d Early from to) b
  early_arc from to inside a c = by to.pin.owner refl c
    where
      by : (o : Option Inst) → to.pin.owner ≡ o → Contains (option_map_or (λ inst. filter (joins d from to) (cell_arcs (cell_of d Late inst))) o []) a
          → (b : CellArc) × Contains (option_map_or (λ inst. filter (joins d from to) (cell_arcs (cell_of d Early inst))) o []) b
      by None own k = absurd (none_in a k)
      by (Some inst) own k =
          let within = (own_back d t.linked to.pin inst inside own).inst in
          let among = kept_in (joins d from to) (cell_arcs (cell_of d Late inst)) a k in
          let has = all_in (λ y. list_any (λ x. same_arc y x) (cell_arcs (cell_of d Early inst))) (cell_arcs (cell_of d Late inst)) a (agreeing d t.linked inst within) among in
          let x = any_back (λ x. same_arc a x) (cell_arcs (cell_of d Early inst)) has in
          (x.item, in_filter (joins d from to) (cell_arcs (cell_of d Early inst)) x.item x.within (same_joins d from to a x.item x.passes (passes_in (joins d from to) (cell_arcs (cell_of d Late inst)) a k)))

  slew_there : (from to : Node) → Contains (pins d) to.pin → (x y : ℤ) → is_some (slew_along d Late from to x) ≡ true → is_some (slew_along d Early from to y) ≡ true
  slew_there from to inside x y h = by (is_driver to.pin) h
    where
      by : (drives : Bool)
          → is_some (if drives then outermost Late (λ arc. Some (look arc.slew x (load_at d Late to.pin))) None (library_arcs d Late from to) else Some (wire_slew d Late (net_name to.pin) from.pin to.pin x)) ≡ true
          → is_some (if drives then outermost Early (λ arc. Some (look arc.slew y (load_at d Early to.pin))) None (library_arcs d Early from to) else Some (wire_slew d Early (net_name to.pin) from.pin to.pin y)) ≡ true
      by false k = refl
      by true k =
          over (λ arc. Some (look arc.slew x (load_at d Late to.pin))) (λ arc. Some (look arc.slew y (load_at d Early to.pin))) (library_arcs d Late from to) (library_arcs d Early from to)
          (λ a c e. let b = early_arc from to inside a c in (b.0, b.1, refl)) k

  raw_there : (from to : Node) → Contains (pins d) to.pin → (x y : ℤ) → is_some (raw_delay d Late from to x) ≡ true → is_some (raw_delay d Early from to y) ≡ true
  raw_there from to inside x y h = by (is_driver to.pin) h
    where
      by : (drives : Bool)
          → is_some (if drives then outermost Late (λ arc. Some (look arc.delay x (load_at d Late to.pin))) None (library_arcs d Late from to) else Some (wire_delay d Late (net_name to.pin) from.pin to.pin)) ≡ true
          → is_some (if drives then outermost Early (λ arc. Some (look arc.delay y (load_at d Early to.pin))) None (library_arcs d Early from to) else Some (wire_delay d Early (net_name to.pin) from.pin to.pin)) ≡ true
      by false k = refl
      by true k =
          over (λ arc. Some (look arc.delay x (load_at d Late to.pin))) (λ arc. Some (look arc.delay y (load_at d Early to.pin))) (library_arcs d Late from to) (library_arcs d Early from to)
          (λ a c e. let b = early_arc from to inside a c in (b.0, b.1, refl)) k

  -- the start of a network node is that of both splits
  same_start : (to : Node) (edge : ℕ × Tran) → is_network d to.pin ≡ true → start_at d Late to edge ≡ start_at d Early to edge
  same_start to edge net = by to.pin.owner refl
    where
      by : (o : Option Inst) → to.pin.owner ≡ o → start_at d Late to edge ≡ start_at d Early to edge
      by None own =
          let port = network_port d to.pin net own in
          let late : start_at d Late to edge ≡ started = ap (λ (b : Bool). begun Late b) port in
          let early : start_at d Early to edge ≡ started = ap (λ (b : Bool). begun Early b) port in
          late ∙ sym early
        where
          begun : Split → Bool → Option ℤ
          begun s b =
              (if not (is_input_port to.pin) then None else
              (if b then (if is_clock_at d.constraints.clocks edge.0 to.pin.own && same_tran edge.1 to.tran then Some (pos 0) else None)
              else (if same_tran edge.1 Rise then input_delay d.constraints.inputs s to edge.0 else None)))

          started : Option ℤ
          started =
              (if not (is_input_port to.pin) then None else
              (if is_clock_at d.constraints.clocks edge.0 to.pin.own && same_tran edge.1 to.tran then Some (pos 0) else None))
      by (Some inst) own =
          let none : is_input_port to.pin ≡ false = ap (λ o. option_map_or (λ (i : Inst). false) o true && is_driver to.pin) own in
          rw none refl

  module _ (edge : ℕ × Tran) (launched : Contains (launch_edges d) edge) where
    record AreBoth (r : NodeRow) : Type 0 where
      slew : is_some (slew_in Late r) ≡ true → is_some (slew_in Early r) ≡ true
      time : is_some (time_on (times_in Late r) edge) ≡ true → is_some (time_on (times_in Early r) edge) ≡ true

    before_net : (from to : Node) → is_network d to.pin ≡ true → Contains (arcs_in d to) from → is_network d from.pin ≡ true
    unfolding arcs_in
    before_net from to net c =
        let h = passes_in (λ (f : Node). not (is_network d to.pin) || is_network d f.pin) (all_arcs_in d to) from c in
        sym (ap (λ (b : Bool). not b || is_network d from.pin) net) ∙ h

    -- of a row that is made of such rows
    module _ (rows : Node → NodeRow) (to : Node) (net : is_network d to.pin ≡ true) (inside : Contains (pins d) to.pin)
        (all : (from : Node) → Contains (arcs_in d to) from → AreBoth (rows from)) where
      made_slew : is_some (slew_of d Late rows to) ≡ true → is_some (slew_of d Early rows to) ≡ true
      made_slew h = by (is_input_port to.pin) h
        where
          each : (from : Node) → Contains (arcs_in d to) from → is_some (option_and_then (slew_along d Late from to) (slew_in Late (rows from))) ≡ true
              → (f : Node) × Contains (arcs_in d to) f × (is_some (option_and_then (slew_along d Early f to) (slew_in Early (rows f))) ≡ true)
          each from c e = (from, c, go (slew_in Late (rows from)) refl e)
            where
              go : (o : Option ℤ) → slew_in Late (rows from) ≡ o → is_some (option_and_then (slew_along d Late from to) o) ≡ true
                  → is_some (option_and_then (slew_along d Early from to) (slew_in Early (rows from))) ≡ true
              go None q k = absurd (false≢true k)
              go (Some x) q k =
                  let y = some_of (slew_in Early (rows from)) ((all from c).slew (ap is_some q)) in
                  ap (λ o. is_some (option_and_then (slew_along d Early from to) o)) y.1 ∙ slew_there from to inside x y.0 k

          by : (b : Bool)
              → is_some (if b then Some (port_slew d.constraints.slews Late to.pin to.tran) else outermost Late (λ from. option_and_then (slew_along d Late from to) (slew_in Late (rows from))) None (arcs_in d to)) ≡ true
              → is_some (if b then Some (port_slew d.constraints.slews Early to.pin to.tran) else outermost Early (λ from. option_and_then (slew_along d Early from to) (slew_in Early (rows from))) None (arcs_in d to)) ≡ true
          by true k = refl
          by false k =
              over (λ from. option_and_then (slew_along d Late from to) (slew_in Late (rows from))) (λ from. option_and_then (slew_along d Early from to) (slew_in Early (rows from))) (arcs_in d to)
              (arcs_in d to) each k

      made_time : is_some (arrival_of d Late rows to edge) ≡ true → is_some (arrival_of d Early rows to edge) ≡ true
      made_time h = by (start_at d Late to edge) (start_at d Early to edge) (same_start to edge net) h
        where
          both_some : (a b : Option ℤ) → is_some (plus_some a b) ≡ true → (is_some a ≡ true) × (is_some b ≡ true)
          both_some None b e = absurd (false≢true e)
          both_some (Some x) None e = absurd (false≢true e)
          both_some (Some x) (Some y) e = (refl, refl)

          sum_some : (a b : Option ℤ) → is_some a ≡ true → is_some b ≡ true → is_some (plus_some a b) ≡ true
          sum_some None b e f = absurd (false≢true e)
          sum_some (Some x) None e f = absurd (false≢true f)
          sum_some (Some x) (Some y) e f = refl

          map_back : (f : ℤ → ℤ) (o : Option ℤ) → is_some (option_map f o) ≡ true → is_some o ≡ true
          map_back f None e = e
          map_back f (Some x) e = refl

          map_on : (f : ℤ → ℤ) (o : Option ℤ) → is_some o ≡ true → is_some (option_map f o) ≡ true
          map_on f None e = e
          map_on f (Some x) e = refl

          delays : (from : Node) → Contains (arcs_in d to) from → is_some (delay_from d Late from to (rows from)) ≡ true → is_some (delay_from d Early from to (rows from)) ≡ true
          delays from c e = go (slew_in Late (rows from)) refl e
            where
              go : (o : Option ℤ) → slew_in Late (rows from) ≡ o → is_some (option_and_then (delay_along d Late from to) o) ≡ true
                  → is_some (option_and_then (delay_along d Early from to) (slew_in Early (rows from))) ≡ true
              go None q k = absurd (false≢true k)
              go (Some x) q k =
                  let y = some_of (slew_in Early (rows from)) ((all from c).slew (ap is_some q)) in
                  ap (λ o. is_some (option_and_then (delay_along d Early from to) o)) y.1
                  ∙ map_on (scaled d Early to) (raw_delay d Early from to y.0) (raw_there from to inside x y.0 (map_back (scaled d Late to) (raw_delay d Late from to x) k))

          each : (from : Node) → Contains (arcs_in d to) from
              → is_some (plus_some (time_on (times_in Late (rows from)) edge) (delay_from d Late from to (rows from))) ≡ true
              → (f : Node) × Contains (arcs_in d to) f × (is_some (plus_some (time_on (times_in Early (rows f)) edge) (delay_from d Early f to (rows f))) ≡ true)
          each from c e =
              let p = both_some (time_on (times_in Late (rows from)) edge) (delay_from d Late from to (rows from)) e in
              (from, c, sum_some (time_on (times_in Early (rows from)) edge) (delay_from d Early from to (rows from)) ((all from c).time p.0) (delays from c p.1))

          by : (a b : Option ℤ) → a ≡ b
              → is_some (option_map_or Some a (outermost Late (λ from. plus_some (time_on (times_in Late (rows from)) edge) (delay_from d Late from to (rows from))) None (arcs_in d to))) ≡ true
              → is_some (option_map_or Some b (outermost Early (λ from. plus_some (time_on (times_in Early (rows from)) edge) (delay_from d Early from to (rows from))) None (arcs_in d to))) ≡ true
          by None None e k =
              over (λ from. plus_some (time_on (times_in Late (rows from)) edge) (delay_from d Late from to (rows from)))
              (λ from. plus_some (time_on (times_in Early (rows from)) edge) (delay_from d Early from to (rows from))) (arcs_in d to) (arcs_in d to) each k
          by None (Some y) e k = refl
          by (Some x) None e k = let bad : Some x ≡ None = e in absurd (cc)
          by (Some x) (Some y) e k = refl

      made : AreBoth (step d rows to)
      made = record {
        slew = λ h. as_fs_on (slew_of d Early rows to) (made_slew (as_fs_back (slew_of d Late rows to) h));
        time = λ h.
            (ap is_some (time_told (arrival_of d Early rows to) edge (launch_edges d) launched)
            ∙ made_time (sym (ap is_some (time_told (arrival_of d Late rows to) edge (launch_edges d) launched)) ∙ h));
      }
        where
          as_fs_back : (o : Option ℤ) → is_some (option_map (λ s. s.0) (as_fs o)) ≡ true → is_some o ≡ true
          as_fs_back None e = e
          as_fs_back (Some x) e = refl

          as_fs_on : (o : Option ℤ) → is_some o ≡ true → is_some (option_map (λ s. s.0) (as_fs o)) ≡ true
          as_fs_on None e = e
          as_fs_on (Some x) e = refl

    within_both : (k : ℕ) (n : Node) → is_network d n.pin ≡ true → Contains (pins d) n.pin → AreBoth (row_within d k n)
    within_both zero n net c = record { slew = λ h. absurd (false≢true h); time = λ h. absurd (false≢true h) }
    within_both (suc k) n net c =
        made (row_within d k) n net c (λ from f. within_both k from (before_net from n net f) (t.before n c from f))

    pub early_there : (n : Node) → is_network d n.pin ≡ true → Contains (pins d) n.pin → is_some (arrival d Late n edge) ≡ true → is_some (arrival d Early n edge) ≡ true
    unfolding row
    early_there n net c h = (within_both (suc (length (nodes d))) n net c).time h
