-- The tests of a node that is no seed, and none of whose clock nodes changed, have the values that they have in the base.

use Rattle.std.proofs.Common.{◌≡◌, ℕ, ℤ, Bool, true, false, not, List, [], ◌∷◌, map, filter, length, Option, None, Some, refl, sym, ap, subst, ◌∙◌, inl, inr, arith, lt-ltb}
use Rattle.std.specs.Prelude.{Contains, find, is_some, nat_lt, option_and_then, option_map, ◌&&◌, ◌||◌, if◌then◌else◌}
use Rattle.std.specs.List.{cons_option, filter_map, flat_map, list_any, list_all}
use Rattle.std.specs.Option.{option_map_or}
use Rattle.std.specs.Str.{bytes_eq}
use Rattle.std.proofs.lemmas.Bool.{cases_Bool, false≢true, true≢false, and_parts, and_from}
use Rattle.std.proofs.lemmas.List.Elements.{Contains-append_right}
use Rattle.sta_units.specs.Numbers.{is_within}
use Rattle.timing_defs.specs.declared.kinds.Split.{Split}
use Rattle.timing_defs.specs.declared.kinds.Split.TheVariants.{Early, Late}
use Rattle.timing_defs.specs.declared.kinds.Kind.{Kind}
use Rattle.timing_defs.specs.declared.kinds.Tran.{Tran}
use Rattle.timing_defs.specs.declared.library.CellPin.{CellPin}
use Rattle.timing_defs.specs.declared.library.CellTest.{CellTest}
use Rattle.timing_defs.specs.declared.constraints.PortDelay.{PortDelay}
use Rattle.timing_defs.specs.declared.netlist.Inst.{Inst}
use Rattle.timing_defs.specs.declared.rows.NodeRow.{NodeRow}
use Rattle.timing_defs.specs.declared.design.Design.{Design}
use Rattle.timing_defs.specs.Lookup.{look}
use Rattle.timing_defs.specs.Netlist.{Node, same_tran, same_split, port_pin, cell_of, cell_pin, cell_pins, inst_pins, pins, both_nodes, nodes, is_driver}
use Rattle.timing_rules.specs.Clocking.{is_network, cell_tests}
use Rattle.timing_rules.specs.Rows.{outermost, launch_edges, is_clock_at, slew, arrival, row}
use Rattle.timing_defs.specs.RowTimes.{slew_in, time_on, times_in}
use Rattle.timing_rules.specs.Checks.{clock_not_tree}
use Rattle.timing_defs.specs.Edits.{same_test}
use Rattle.timing_rules.specs.Tests.{Test, network_walk, first_edge, is_test_of, library_tests, need_at, test_on, test_along, register_tests, output_test, port_tests, tests_at, tests_pin, is_endpoint}
use Rattle.timing_defs.specs.Kinds.{data_split, clock_split, same_kind}
use Rattle.timing_rules.specs.Range.{fine_slew, need_within, is_need_origin_at, is_need_origin}
use Rattle.timing_defs.specs.Touches.{Touch}
use Rattle.timing_rules.specs.Cones.{is_seed, row_differs, tests_by, is_tested_by, has_changed_clock}
use Rattle.timing_defs.proofs.SameNames.{same_is, same_self}
use Rattle.timing_defs.proofs.Members.{first_in, later_in, in_map, in_flat_map, passes_in, kept_in, any_in, any_back, all_in, found_in}
use Rattle.netlist_store.specs.Numbering.{Stored}
use Rattle.netlist_store.specs.Applying.{IsEditOf}
use Rattle.node_rows.proofs.MergeLaws.{AreMatched}
use Rattle.node_tests.proofs.WalkSteps.{off_network}
use Rattle.eco_laws.proofs.EditOf.{base_linked, edited_linked}
use Rattle.calm_laws.specs.Pairs.{ArePairs}
use Rattle.calm_laws.proofs.Calm.{AreAlike}
use Rattle.calm_laws.proofs.PairLaws.{pairs_are, pair_of, pair_from, pairs_made}
use Rattle.calm_laws.proofs.AlikeLaws.{none_too, twin_of, owner_same, own_same, drives_same, cell_same, edges_same}
use Rattle.calm_laws.proofs.CellNodes.{keys, key_node, inst_keys, nodes_keyed, key_pin, tran_is}
use Rattle.calm_laws.proofs.KnownCells.{owner_within}
use Rattle.calm_laws.proofs.InDesign.{node_within, ArePlaces, placed_nodes}
use Rattle.calm_laws.proofs.NoSeeds.{either_none}
use Rattle.calm_laws.proofs.NoSeedCalm.{HasCalm, no_seed_calm}
use Rattle.calm_laws.proofs.Forward.{alike_base, same_as_base}
use Rattle.calm_laws.proofs.BackStep.{AreSameTests}
use Rattle.back_laws.proofs.ClockEdges.{walk_edge, walk_edge_first}

-- tests that may be there
abbrev pub MaySame : Option Test → Option Test → Type 0
MaySame None None = Unit {0}
MaySame None (Some b) = ⊥
MaySame (Some a) None = ⊥
MaySame (Some a) (Some b) = AreSameTests a b

same_more : (a b : Option Test) (us vs : List Test) → MaySame a b → ArePairs AreSameTests us vs → ArePairs AreSameTests (cons_option a us) (cons_option b vs)
same_more None None us vs m r = r
same_more None (Some b) us vs m r = absurd m
same_more (Some a) None us vs m r = absurd m
same_more (Some a) (Some b) us vs m r = (m, r)

tests_of_pairs : {X Y : Type 0} (f : X → Option Test) (g : Y → Option Test) (xs : List X) (ys : List Y) → ArePairs (λ x y. MaySame (f x) (g y)) xs ys
    → ArePairs AreSameTests (filter_map f xs) (filter_map g ys)
tests_of_pairs f g [] [] r = tt
tests_of_pairs f g [] (y ∷ ys) r = absurd r
tests_of_pairs f g (x ∷ xs) [] r = absurd r
tests_of_pairs f g (x ∷ xs) (y ∷ ys) r = same_more (f x) (g y) (filter_map f xs) (filter_map g ys) r.0 (tests_of_pairs f g xs ys r.1)

same_itself : (xs : List Test) → ArePairs AreSameTests xs xs
same_itself [] = tt
same_itself (x ∷ xs) = (record { need = refl; capture = refl; early = refl; late = refl }, same_itself xs)

matched : (xs ys : List Test) → ArePairs AreSameTests xs ys → AreMatched xs ys AreSameTests
matched xs ys r = record {
  there = λ x c. (let p = pair_from AreSameTests xs ys r x c in (p.0, p.1.0, p.1.1));
  back = λ y c. (let p = pair_of AreSameTests xs ys r y c in (p.0, p.1.0, p.1.1));
}

-- tests of the same values along two walks
module _ (clock clock2 : Node) (w w2 : List Node) where
  may_same : (o : Option (ℕ × Tran)) (need : Option ℤ) (early late : ℕ × Tran → Option ℤ)
      → MaySame (option_and_then (λ edge. option_and_then (λ x. option_and_then (λ y. option_map (test_on clock w edge x y) (late edge)) (early edge)) need) o)
      (option_and_then (λ edge. option_and_then (λ x. option_and_then (λ y. option_map (test_on clock2 w2 edge x y) (late edge)) (early edge)) need) o)
  may_same None need early late = tt
  may_same (Some edge) None early late = tt
  may_same (Some edge) (Some x) early late = by (early edge) (late edge)
    where
      by : (a b : Option ℤ) → MaySame (option_and_then (λ y. option_map (test_on clock w edge x y) b) a) (option_and_then (λ y. option_map (test_on clock2 w2 edge x y) b) a)
      by None b = tt
      by (Some y) None = tt
      by (Some y) (Some z) = record { need = refl; capture = refl; early = refl; late = refl }

some_in : {X : Type 0} (xs : List X) → nat_lt 0 (length xs) ≡ true → (x : X) × Contains xs x
some_in [] h = absurd (false≢true h)
some_in (x ∷ xs) h = (x, first_in x xs)

none_at : {X : Type 0} (p : X → Bool) (xs : List X) (x : X) → list_any p xs ≡ false → Contains xs x → p x ≡ false
none_at p xs x none c = elim (cases_Bool (p x)) [
  | inl e ↦ absurd (true≢false (sym (any_in p xs x c e) ∙ none))
  | inr e ↦ e
]

and_left : (a b : Bool) → a ≡ true → (a && b) ≡ false → b ≡ false
and_left true b h e = e
and_left false b h e = absurd (false≢true h)

not_some : {X : Type 0} (o : Option X) → is_some o ≡ false → o ≡ None
not_some None e = refl
not_some (Some x) e = absurd (true≢false e)

-- a test in the terms of both nodes
five : (a b c d e : Bool) → (a && b && c && d && e) ≡ true → (b && c && d && e) ≡ true
five true b c d e h = h
five false b c d e h = absurd (false≢true (never b c d e h))
  where
    never : (b c d e : Bool) → (false && b && c && d && e) ≡ true → false ≡ true
    never b c d e h = h

tests_alike : (target clock : Node) (a b : CellTest) → same_test a b ≡ true → tests_by target clock a ≡ tests_by target clock b
tests_alike target clock a b e =
    let p4 = and_parts (bytes_eq a.pin b.pin && same_tran a.tran b.tran && bytes_eq a.clock b.clock && same_tran a.active b.active) (same_kind a.kind b.kind) e in
    let p3 = and_parts (bytes_eq a.pin b.pin && same_tran a.tran b.tran && bytes_eq a.clock b.clock) (same_tran a.active b.active) p4.0 in
    let p2 = and_parts (bytes_eq a.pin b.pin && same_tran a.tran b.tran) (bytes_eq a.clock b.clock) p3.0 in
    let p1 = and_parts (bytes_eq a.pin b.pin) (same_tran a.tran b.tran) p2.0 in
    let e1 = same_is a.pin b.pin p1.0 in
    let e2 = tran_is a.tran b.tran p1.1 in
    let e3 = same_is a.clock b.clock p2.1 in
    let e4 = tran_is a.active b.active p3.1 in
    λ k. bytes_eq (e1 k) target.pin.own && same_tran (e2 k) target.tran && bytes_eq (e3 k) clock.pin.own && same_tran (e4 k) clock.tran

-- where nothing arrives there is no test
no_test : (d : Design) (kind : Kind) (inst : Inst) (target clock : Node) → ((edge : ℕ × Tran) → Contains (launch_edges d) edge → arrival d Early clock edge ≡ None)
    → option_and_then (test_along d kind inst target clock) (network_walk d clock) ≡ None
no_test d kind inst target clock none = by (network_walk d clock)
  where
    at : (o : Option (ℕ × Tran)) → ((edge : ℕ × Tran) → o ≡ Some edge → Contains (launch_edges d) edge) → (w : List Node)
        → option_and_then (λ edge. option_and_then (λ x. option_and_then (λ y. option_map (test_on clock w edge x y) (arrival d Late clock edge)) (arrival d Early clock edge)) (need_at d kind inst target clock)) o ≡ None
    at None within w = refl
    at (Some edge) within w =
        ap (λ o. option_and_then (λ x. option_and_then (λ y. option_map (test_on clock w edge x y) (arrival d Late clock edge)) o) (need_at d kind inst target clock)) (none edge (within edge refl))
        ∙ never (need_at d kind inst target clock)
      where
        never : (o : Option ℤ) → option_and_then (λ x. option_and_then (λ y. option_map (test_on clock w edge x y) (arrival d Late clock edge)) None) o ≡ None
        never None = refl
        never (Some x) = refl

    launched : (w : List Node) (edge : ℕ × Tran) → first_edge d w ≡ Some edge → Contains (launch_edges d) edge
    launched [] edge e = absurd (cc)
    launched (n ∷ ns) edge e = found_in (λ (x : ℕ × Tran). is_clock_at d.constraints.clocks x.0 n.pin.own && same_tran x.1 n.tran) (launch_edges d) edge e

    by : (o : Option (List Node)) → option_and_then (test_along d kind inst target clock) o ≡ None
    by None = refl
    by (Some w) = at (first_edge d w) (launched w) w

module _ (base : Stored) (touch : Touch) (edited : Stored) (made : IsEditOf base touch edited)
    (place place2 : Node → ℕ) (places : ArePlaces base.design place) (places2 : ArePlaces edited.design place2)
    (tree : clock_not_tree base.design ≡ None) (tree2 : clock_not_tree edited.design ≡ None)
    (n2 : Node) (there : Contains (pins edited.design) n2.pin) (has : HasCalm base.design edited.design n2)
    (rows : row base.design has.node ≡ row edited.design n2) where
  abbrev d : Design
  d = base.design

  abbrev d2 : Design
  d2 = edited.design

  abbrev n : Node
  n = has.node

  alike : AreAlike n n2
  alike = has.calm.kept.alike

  -- a clock node of both with the same row
  record IsClockPair (clock clock2 : Node) : Type 0 where
    within : Contains (pins d) clock.pin
    within2 : Contains (pins d2) clock2.pin
    network : is_network d2 clock2.pin ≡ is_network d clock.pin
    row : row d clock ≡ row d2 clock2

  module _ (inst twin : Inst) (owner : n.pin.owner ≡ Some inst) (owner2 : n2.pin.owner ≡ Some twin) (name : twin.name ≡ inst.name) (cell : twin.cell ≡ inst.cell) where
    abbrev ks : List (CellPin × Tran)
    ks = inst_keys d inst

    abbrev at_old : CellPin × Tran → Node
    at_old = key_node inst

    abbrev at_new : CellPin × Tran → Node
    at_new = key_node twin

    library_same : (kind : Kind) (k : CellPin × Tran) → library_tests d kind inst n (at_old k) ≡ library_tests d2 kind twin n2 (at_new k)
    library_same kind k = λ j.
        filter (λ test. same_kind test.kind kind && bytes_eq test.pin (own_same n n2 alike j) && same_tran test.tran (sym alike.tran j)
        && bytes_eq test.clock k.0.name && same_tran test.active k.1)
        (cell_tests (cell_same d d2 has.calm.framed (data_split kind) inst twin cell j))

    need_same : (kind : Kind) (k : CellPin × Tran) → row d (at_old k) ≡ row d2 (at_new k) → need_at d kind inst n (at_old k) ≡ need_at d2 kind twin n2 (at_new k)
    need_same kind k same = λ j.
        outermost Late
        (λ test. option_and_then (λ x. option_map (look test.need x) (slew_in (data_split kind) (rows j))) (slew_in (clock_split kind) (same j)))
        None (library_same kind k j)

    -- one clock node
    module _ (kind : Kind) (k : CellPin × Tran) (pair : IsClockPair (at_old k) (at_new k)) where
      early_same : (edge : ℕ × Tran) → arrival d Early (at_old k) edge ≡ arrival d2 Early (at_new k) edge
      early_same edge = ap (λ (r : NodeRow). time_on (times_in Early r) edge) pair.row

      late_same : (edge : ℕ × Tran) → arrival d Late (at_old k) edge ≡ arrival d2 Late (at_new k) edge
      late_same edge = ap (λ (r : NodeRow). time_on (times_in Late r) edge) pair.row

      abbrev test_old : Option (List Node) → Option Test
      test_old o = option_and_then (test_along d kind inst n (at_old k)) o

      abbrev test_new : Option (List Node) → Option Test
      test_new o = option_and_then (test_along d2 kind twin n2 (at_new k)) o

      neither : test_old (network_walk d (at_old k)) ≡ None → test_new (network_walk d2 (at_new k)) ≡ None
          → MaySame (test_old (network_walk d (at_old k))) (test_new (network_walk d2 (at_new k)))
      neither e f = subst (λ o. MaySame o (test_new (network_walk d2 (at_new k)))) (sym e) (subst (λ o. MaySame None o) (sym f) tt)

      both_walks : walk_edge d (at_old k) ≡ walk_edge d2 (at_new k) → (o o2 : Option (List Node)) → network_walk d (at_old k) ≡ o → network_walk d2 (at_new k) ≡ o2
          → MaySame (test_old o) (test_new o2)
      both_walks same None None e f = tt
      both_walks same None (Some w2) e f =
          let none : first_edge d2 w2 ≡ None = sym (ap (option_and_then (first_edge d2)) f) ∙ sym same ∙ ap (option_and_then (first_edge d)) e in
          subst (λ o. MaySame None o) (sym (ap (option_and_then (λ edge. option_and_then (λ x. option_and_then (λ y. option_map (test_on (at_new k) w2 edge x y) (arrival d2 Late (at_new k) edge))
          (arrival d2 Early (at_new k) edge)) (need_at d2 kind twin n2 (at_new k)))) none)) tt
      both_walks same (Some w) None e f =
          let none : first_edge d w ≡ None = sym (ap (option_and_then (first_edge d)) e) ∙ same ∙ ap (option_and_then (first_edge d2)) f in
          subst (λ o. MaySame o None) (sym (ap (option_and_then (λ edge. option_and_then (λ x. option_and_then (λ y. option_map (test_on (at_old k) w edge x y) (arrival d Late (at_old k) edge))
          (arrival d Early (at_old k) edge)) (need_at d kind inst n (at_old k)))) none)) tt
      both_walks same (Some w) (Some w2) e f =
          let edge_same : first_edge d w ≡ first_edge d2 w2 = sym (ap (option_and_then (first_edge d)) e) ∙ same ∙ ap (option_and_then (first_edge d2)) f in
          subst (λ o. MaySame (test_along d kind inst n (at_old k) w) o)
          (λ j. option_and_then (λ edge. option_and_then (λ x. option_and_then (λ y. option_map (test_on (at_new k) w2 edge x y) (late_same edge j))
          (early_same edge j)) (need_same kind k pair.row j)) (edge_same j))
          (may_same (at_old k) (at_new k) w w2 (first_edge d w) (need_at d kind inst n (at_old k)) (arrival d Early (at_old k)) (arrival d Late (at_old k)))

      first_same : (e0 : ℕ × Tran) → Contains (launch_edges d) e0 → is_some (arrival d Early (at_old k) e0) ≡ true → is_network d (at_old k).pin ≡ true
          → walk_edge d (at_old k) ≡ walk_edge d2 (at_new k)
      first_same e0 c a net =
          walk_edge_first d tree (λ x. Contains (pins d) x.pin) place (placed_nodes d (base_linked base touch edited made) place places) places.short (λ x m. m) Early e0 c (at_old k) pair.within net a
          ∙ (λ j. find (λ edge. is_some (early_same edge j)) (edges_same d d2 has.calm.framed j))
          ∙ sym (walk_edge_first d2 tree2 (λ x. Contains (pins d2) x.pin) place2 (placed_nodes d2 (edited_linked base touch edited made) place2 places2) places2.short (λ x m. m) Early e0
          (subst (λ es. Contains es e0) (edges_same d d2 has.calm.framed) c) (at_new k) pair.within2 (pair.network ∙ net) (sym (ap is_some (early_same e0)) ∙ a))

      test_same : MaySame (test_old (network_walk d (at_old k))) (test_new (network_walk d2 (at_new k)))
      test_same = elim (cases_Bool (is_network d (at_old k).pin)) [
        | inr off ↦ neither (ap test_old (off_network d (at_old k) off)) (ap test_new (off_network d2 (at_new k) (pair.network ∙ off)))
        | inl net ↦ elim (cases_Bool (list_any (λ edge. is_some (arrival d Early (at_old k) edge)) (launch_edges d))) [
          | inl some ↦
              let r = any_back (λ edge. is_some (arrival d Early (at_old k) edge)) (launch_edges d) some in
              both_walks (first_same r.item r.within r.passes net) (network_walk d (at_old k)) (network_walk d2 (at_new k)) refl refl
          | inr none ↦
              neither
              (no_test d kind inst n (at_old k) (λ edge c. not_some (arrival d Early (at_old k) edge) (none_at (λ e. is_some (arrival d Early (at_old k) e)) (launch_edges d) edge none c)))
              (no_test d2 kind twin n2 (at_new k) (λ edge c. sym (early_same edge)
              ∙ not_some (arrival d Early (at_old k) edge) (none_at (λ e. is_some (arrival d Early (at_old k) e)) (launch_edges d) edge none (subst (λ es. Contains es edge) (sym (edges_same d d2 has.calm.framed)) c))))
        ]
      ]

    -- the nodes of the instance are those of the designs
    node_old : (k : CellPin × Tran) → Contains ks k → Contains (pins d) (at_old k).pin
    node_old k c =
        let inside = in_map (cell_pin inst) (cell_pins (cell_of d Late inst)) k.0 (key_pin (cell_pins (cell_of d Late inst)) k c) in
        Contains-append_right (map port_pin d.ports) (flat_map (inst_pins d) d.insts) (cell_pin inst k.0)
        (in_flat_map (inst_pins d) d.insts inst (cell_pin inst k.0) (owner_within d (base_linked base touch edited made) n.pin inst has.within owner) inside)

    node_new : (k : CellPin × Tran) → Contains ks k → Contains (pins d2) (at_new k).pin
    node_new k c =
        let listed = subst (λ o. Contains (cell_pins o) k.0) (cell_same d d2 has.calm.framed Late inst twin cell) (key_pin (cell_pins (cell_of d Late inst)) k c) in
        let inside = in_map (cell_pin twin) (cell_pins (cell_of d2 Late twin)) k.0 listed in
        Contains-append_right (map port_pin d2.ports) (flat_map (inst_pins d2) d2.insts) (cell_pin twin k.0)
        (in_flat_map (inst_pins d2) d2.insts twin (cell_pin twin k.0) (owner_within d2 (edited_linked base touch edited made) n2.pin twin there owner2) inside)

    -- where some library test stands, the clock node is asked for
    late_of : (split : Split) (k : CellPin × Tran) (test : CellTest) → Contains (cell_tests (cell_of d split inst)) test → tests_by n (at_old k) test ≡ true
        → list_any (tests_by n (at_old k)) (cell_tests (cell_of d Late inst)) ≡ true
    late_of Late k test c e = any_in (tests_by n (at_old k)) (cell_tests (cell_of d Late inst)) test c e
    late_of Early k test c e =
        let r = any_back (same_test test) (cell_tests (cell_of d Late inst))
        (all_in (λ x. list_any (same_test x) (cell_tests (cell_of d Late inst))) (cell_tests (cell_of d Early inst)) test (has.calm.cells inst owner).tested c) in
        any_in (tests_by n (at_old k)) (cell_tests (cell_of d Late inst)) r.item r.within (sym (tests_alike n (at_old k) test r.item r.passes) ∙ e)

    asked : (kind : Kind) (k : CellPin × Tran) → nat_lt 0 (length (library_tests d kind inst n (at_old k))) ≡ true → is_tested_by d2 n2 (at_new k) twin ≡ true
    asked kind k e =
        let t = some_in (library_tests d kind inst n (at_old k)) e in
        let passes = passes_in (is_test_of kind n (at_old k)) (cell_tests (cell_of d (data_split kind) inst)) t.0 t.1 in
        let by = five (same_kind t.0.kind kind) (bytes_eq t.0.pin n.pin.own) (same_tran t.0.tran n.tran) (bytes_eq t.0.clock k.0.name) (same_tran t.0.active k.1) passes in
        let old = late_of (data_split kind) k t.0 (kept_in (is_test_of kind n (at_old k)) (cell_tests (cell_of d (data_split kind) inst)) t.0 t.1) by in
        and_from (bytes_eq twin.name twin.name) (list_any (tests_by n2 (at_new k)) (cell_tests (cell_of d2 Late twin))) (same_self twin.name)
        (sym (λ j. list_any (λ test. bytes_eq test.pin (own_same n n2 alike j) && same_tran test.tran (sym alike.tran j)
        && bytes_eq test.clock k.0.name && same_tran test.active k.1) (cell_tests (cell_same d d2 has.calm.framed Late inst twin cell j))) ∙ old)

    module _ (unchanged : has_changed_clock d d2 touch n2 ≡ false) where
      clock_pair : (kind : Kind) (k : CellPin × Tran) → Contains ks k → nat_lt 0 (length (library_tests d kind inst n (at_old k))) ≡ true → IsClockPair (at_old k) (at_new k)
      clock_pair kind k c e =
          let changes = λ (inst : Inst). list_any (λ clock. is_tested_by d2 n2 clock inst && (is_seed d d2 touch clock || row_differs d d2 clock)) (nodes d2) in
          let none : list_any (λ clock. is_tested_by d2 n2 clock twin && (is_seed d d2 touch clock || row_differs d d2 clock)) (nodes d2) ≡ false =
          sym (ap (λ o. option_map_or changes o false) owner2) ∙ unchanged in
          let at = none_at (λ clock. is_tested_by d2 n2 clock twin && (is_seed d d2 touch clock || row_differs d d2 clock)) (nodes d2) (at_new k) none
          (node_within d2 (at_new k) (node_new k c)) in
          let parts = either_none (is_seed d d2 touch (at_new k)) (row_differs d d2 (at_new k))
          (and_left (is_tested_by d2 n2 (at_new k) twin) (is_seed d d2 touch (at_new k) || row_differs d d2 (at_new k)) (asked kind k e) at) in
          let h = no_seed_calm base touch edited made (at_new k) (node_new k c) parts.0 in
          let same : h.node ≡ at_old k =
          alike_base base touch edited made (at_old k) (at_new k) (node_old k c)
          (record { pin = λ j. record { owner = Some (name j, cell j); own = k.0.name; dir = k.0.dir }; tran = refl }) h.node h.told in
          record {
            within = node_old k c;
            within2 = node_new k c;
            network = h.calm.network ∙ ap (λ (x : Node). is_network d x.pin) same;
            row = ap (row d) (sym same) ∙ same_as_base base touch edited made (at_new k) h.node h.told parts.1;
          }

      abbrev tested_old : Kind → Node → Bool
      tested_old kind clock = nat_lt 0 (length (library_tests d kind inst n clock))

      abbrev tested_new : Kind → Node → Bool
      tested_new kind clock = nat_lt 0 (length (library_tests d2 kind twin n2 clock))

      register_same : (kind : Kind) → ArePairs AreSameTests (register_tests d kind n inst) (register_tests d2 kind n2 twin)
      register_same kind =
          tests_of_pairs (λ clock. option_and_then (test_along d kind inst n clock) (network_walk d clock)) (λ clock. option_and_then (test_along d2 kind twin n2 clock) (network_walk d2 clock))
          (filter (tested_old kind) (flat_map both_nodes (inst_pins d inst))) (filter (tested_new kind) (flat_map both_nodes (inst_pins d2 twin)))
          (pairs_are (λ x y. MaySame (option_and_then (test_along d kind inst n x) (network_walk d x)) (option_and_then (test_along d2 kind twin n2 y) (network_walk d2 y)))
          (filter (tested_old kind) (flat_map both_nodes (inst_pins d inst))) (filter (tested_old kind) (map at_old ks))
          (filter (tested_new kind) (flat_map both_nodes (inst_pins d2 twin))) (filter (tested_new kind) (map at_new ks))
          (ap (filter (tested_old kind)) (nodes_keyed inst (cell_pins (cell_of d Late inst))))
          (ap (filter (tested_new kind)) (nodes_keyed twin (cell_pins (cell_of d2 Late twin))
          ∙ ap (λ o. map at_new (keys (cell_pins o))) (sym (cell_same d d2 has.calm.framed Late inst twin cell))))
          (pairs_made (λ x y. MaySame (option_and_then (test_along d kind inst n x) (network_walk d x)) (option_and_then (test_along d2 kind twin n2 y) (network_walk d2 y)))
          at_old at_new (tested_old kind) (tested_new kind) ks
          (λ k c. ap (λ xs. nat_lt 0 (length xs)) (library_same kind k))
          (λ k c e f. test_same kind k (clock_pair kind k c e))))

  port_same : (kind : Kind) → port_tests d kind n ≡ port_tests d2 kind n2
  port_same kind = λ j.
      map (output_test kind)
      (filter (λ (o : PortDelay). bytes_eq o.port (own_same n n2 alike j) && same_split o.split (data_split kind) && same_tran o.tran (sym alike.tran j)) (sym has.calm.framed.constraints j).outputs)

  -- whether the node is an endpoint
  pub end_same : is_endpoint d n.pin ≡ is_endpoint d2 n2.pin
  end_same = λ j. not (drives_same n n2 alike j) && by n.pin.owner refl j
    where
      by : (o : Option Inst) → n.pin.owner ≡ o → option_map_or (tests_pin d n.pin.own) n.pin.owner true ≡ option_map_or (tests_pin d2 n2.pin.own) n2.pin.owner true
      by None e =
          ap (λ o. option_map_or (tests_pin d n.pin.own) o true) e
          ∙ sym (ap (λ o. option_map_or (tests_pin d2 n2.pin.own) o true) (none_too n.pin.owner n2.pin.owner (owner_same n n2 alike) e))
      by (Some inst) e =
          let t = twin_of n.pin.owner n2.pin.owner (owner_same n n2 alike) inst e in
          ap (λ o. option_map_or (tests_pin d n.pin.own) o true) e
          ∙ (λ j. list_any (λ test. bytes_eq test.pin (own_same n n2 alike j)) (cell_tests (cell_same d d2 has.calm.framed Late inst t.twin t.cell j)))
          ∙ sym (ap (λ o. option_map_or (tests_pin d2 n2.pin.own) o true) t.owner)

  -- its tests
  module _ (unchanged : has_changed_clock d d2 touch n2 ≡ false) (kind : Kind) where
    test_pairs : ArePairs AreSameTests (tests_at d kind n) (tests_at d2 kind n2)
    unfolding tests_at
    test_pairs = elim (cases_Bool (is_driver n.pin)) [
      | inl e ↦
          pairs_are AreSameTests (tests_at d kind n) [] (tests_at d2 kind n2) []
          (ap (λ (b : Bool). if b then [] else option_map_or (register_tests d kind n) n.pin.owner (port_tests d kind n)) e)
          (ap (λ (b : Bool). if b then [] else option_map_or (register_tests d2 kind n2) n2.pin.owner (port_tests d2 kind n2)) (sym (drives_same n n2 alike) ∙ e)) tt
      | inr e ↦ by e n.pin.owner refl
    ]
      where
        by : is_driver n.pin ≡ false → (o : Option Inst) → n.pin.owner ≡ o → ArePairs AreSameTests (tests_at d kind n) (tests_at d2 kind n2)
        by sinks None e =
            pairs_are AreSameTests (tests_at d kind n) (port_tests d kind n) (tests_at d2 kind n2) (port_tests d kind n)
            (ap (λ (b : Bool). if b then [] else option_map_or (register_tests d kind n) n.pin.owner (port_tests d kind n)) sinks
            ∙ ap (λ o. option_map_or (register_tests d kind n) o (port_tests d kind n)) e)
            (ap (λ (b : Bool). if b then [] else option_map_or (register_tests d2 kind n2) n2.pin.owner (port_tests d2 kind n2)) (sym (drives_same n n2 alike) ∙ sinks)
            ∙ ap (λ o. option_map_or (register_tests d2 kind n2) o (port_tests d2 kind n2)) (none_too n.pin.owner n2.pin.owner (owner_same n n2 alike) e)
            ∙ sym (port_same kind)) (same_itself (port_tests d kind n))
        by sinks (Some inst) e =
            let t = twin_of n.pin.owner n2.pin.owner (owner_same n n2 alike) inst e in
            pairs_are AreSameTests (tests_at d kind n) (register_tests d kind n inst) (tests_at d2 kind n2) (register_tests d2 kind n2 t.twin)
            (ap (λ (b : Bool). if b then [] else option_map_or (register_tests d kind n) n.pin.owner (port_tests d kind n)) sinks
            ∙ ap (λ o. option_map_or (register_tests d kind n) o (port_tests d kind n)) e)
            (ap (λ (b : Bool). if b then [] else option_map_or (register_tests d2 kind n2) n2.pin.owner (port_tests d2 kind n2)) (sym (drives_same n n2 alike) ∙ sinks)
            ∙ ap (λ o. option_map_or (register_tests d2 kind n2) o (port_tests d2 kind n2)) t.owner)
            (register_same inst t.twin e t.owner t.name t.cell unchanged kind)

    pub tests_kept : AreMatched (tests_at d kind n) (tests_at d2 kind n2) AreSameTests
    tests_kept = matched (tests_at d kind n) (tests_at d2 kind n2) test_pairs

  -- no setup or hold time leaves its limit where none does in the base, whose slews are fine
  module _ (unchanged : has_changed_clock d d2 touch n2 ≡ false) (kind : Kind) (fine : (split : Split) (x : Node) → Contains (pins d) x.pin → fine_slew d split x ≡ true)
      (none : is_need_origin d kind n ≡ false) where
    module _ (inst twin : Inst) (owner : n.pin.owner ≡ Some inst) (owner2 : n2.pin.owner ≡ Some twin) (name : twin.name ≡ inst.name) (cell : twin.cell ≡ inst.cell) where
      within_same : (k : CellPin × Tran) → row d (key_node inst k) ≡ row d2 (key_node twin k) → need_within d kind n (key_node inst k) inst ≡ need_within d2 kind n2 (key_node twin k) twin
      within_same k same = λ j.
          list_all (λ test. option_map_or (λ x. option_map_or (λ y. is_within (look test.need x y)) (slew_in (data_split kind) (rows j)) true) (slew_in (clock_split kind) (same j)) true)
          (library_same inst twin owner owner2 name cell kind k j)

      none_old : (k : CellPin × Tran) → Contains (inst_keys d inst) k → is_need_origin_at d kind n inst (key_node inst k) ≡ false
      none_old k c =
          none_at (is_need_origin_at d kind n inst) (flat_map both_nodes (inst_pins d inst)) (key_node inst k)
          (sym (ap (λ o. option_map_or (λ i. list_any (is_need_origin_at d kind n i) (flat_map both_nodes (inst_pins d i))) o false) owner) ∙ none)
          (subst (λ xs. Contains xs (key_node inst k)) (sym (nodes_keyed inst (cell_pins (cell_of d Late inst)))) (in_map (key_node inst) (inst_keys d inst) k c))

      four : (a b c e : Bool) → b ≡ true → c ≡ true → (a && b && c && not e) ≡ false → (x y : Bool) → (a && x && y && not e) ≡ false
      four false b c e h k l x y = refl
      four true b c e h k l x y = never x y e (sym (λ j. true && h j && k j && not e) ∙ l)
        where
          never : (x y e : Bool) → (true && true && true && not e) ≡ false → (true && x && y && not e) ≡ false
          never x y true l = and_false (true && x && y)
            where
              and_false : (z : Bool) → (z && false) ≡ false
              and_false true = refl
              and_false false = refl
          never x y false l = absurd (true≢false l)

      none_new : (k : CellPin × Tran) → Contains (inst_keys d inst) k → is_need_origin_at d2 kind n2 twin (key_node twin k) ≡ false
      none_new k c = elim (cases_Bool (nat_lt 0 (length (library_tests d kind inst n (key_node inst k))))) [
        | inl e ↦
            let pair = clock_pair inst twin owner owner2 name cell unchanged kind k c e in
            let slew_t = fine (data_split kind) n has.within in
            let slew_c = fine (clock_split kind) (key_node inst k) pair.within in
            let old = four (is_network d (key_node inst k).pin) (fine_slew d (data_split kind) n) (fine_slew d (clock_split kind) (key_node inst k)) (need_within d kind n (key_node inst k) inst)
            slew_t slew_c (none_old k c) (fine_slew d2 (data_split kind) n2) (fine_slew d2 (clock_split kind) (key_node twin k)) in
            (λ j. pair.network j && fine_slew d2 (data_split kind) n2 && fine_slew d2 (clock_split kind) (key_node twin k) && not (sym (within_same k pair.row) j)) ∙ old
        | inr e ↦
            let empty : library_tests d2 kind twin n2 (key_node twin k) ≡ [] = sym (library_same inst twin owner owner2 name cell kind k) ∙ no_items (library_tests d kind inst n (key_node inst k)) e in
            let all : need_within d2 kind n2 (key_node twin k) twin ≡ true =
            ap (list_all (λ test. option_map_or (λ x. option_map_or (λ y. is_within (look test.need x y)) (slew d2 (data_split kind) n2) true) (slew d2 (clock_split kind) (key_node twin k)) true)) empty in
            and_never (is_network d2 (key_node twin k).pin && fine_slew d2 (data_split kind) n2 && fine_slew d2 (clock_split kind) (key_node twin k)) (need_within d2 kind n2 (key_node twin k) twin) all
      ]
        where
          no_items : {X : Type 0} (xs : List X) → nat_lt 0 (length xs) ≡ false → xs ≡ []
          no_items [] h = refl
          no_items (x ∷ xs) h = absurd (true≢false (sym (lt-ltb 0 (length (x ∷ xs)) (omega arith)) ∙ h))

          and_never : (a b : Bool) → b ≡ true → (a && not b) ≡ false
          and_never true b h = ap not h
          and_never false b h = refl

      none_there : list_any (is_need_origin_at d2 kind n2 twin) (flat_map both_nodes (inst_pins d2 twin)) ≡ false
      none_there =
          ap (list_any (is_need_origin_at d2 kind n2 twin)) (nodes_keyed twin (cell_pins (cell_of d2 Late twin))
          ∙ ap (λ o. map (key_node twin) (keys (cell_pins o))) (sym (cell_same d d2 has.calm.framed Late inst twin cell)))
          ∙ none_mapped (is_need_origin_at d2 kind n2 twin) (key_node twin) (inst_keys d inst) none_new
        where
          none_mapped : {X Y : Type 0} (p : Y → Bool) (f : X → Y) (xs : List X) → ((x : X) → Contains xs x → p (f x) ≡ false) → list_any p (map f xs) ≡ false
          none_mapped p f [] each = refl
          none_mapped p f (x ∷ xs) each = let e = each x (first_in x xs) in rw e (none_mapped p f xs (λ y c. each y (later_in x xs y c)))

    pub need_kept : is_need_origin d2 kind n2 ≡ false
    need_kept = by n.pin.owner refl
      where
        by : (o : Option Inst) → n.pin.owner ≡ o → is_need_origin d2 kind n2 ≡ false
        by None e =
            ap (λ o. option_map_or (λ i. list_any (is_need_origin_at d2 kind n2 i) (flat_map both_nodes (inst_pins d2 i))) o false)
            (none_too n.pin.owner n2.pin.owner (owner_same n n2 alike) e)
        by (Some inst) e =
            let t = twin_of n.pin.owner n2.pin.owner (owner_same n n2 alike) inst e in
            ap (λ o. option_map_or (λ i. list_any (is_need_origin_at d2 kind n2 i) (flat_map both_nodes (inst_pins d2 i))) o false) t.owner
            ∙ none_there inst t.twin e t.owner t.name t.cell
