-- The tests of an endpoint that an edit leaves, with the clock nodes of its tests, ask the same in both designs.

use Rattle.std.proofs.Common.{◌≡◌, ◌⊎◌, ℕ, zero, suc, ◌<◌, ℤ, pos, Bool, true, false, List, [], ◌∷◌, ◌++◌, map, filter, length, Option, None, Some, refl, sym, ap, subst, ◌∙◌, inl, inr, arith}
use Rattle.std.specs.Prelude.{Contains, find, nat_lt, ◌&&◌, option_map, option_and_then, if◌then◌else◌}
use Rattle.std.specs.List.{filter_map, flat_map}
use Rattle.std.specs.Option.{option_map_or}
use Rattle.std.specs.Str.{bytes_eq}
use Rattle.std.proofs.lemmas.Bool.{cases_Bool}
use Rattle.std.proofs.lemmas.List.Elements.{Contains-append_right}
use Rattle.timing_defs.specs.declared.kinds.Split.{Split}
use Rattle.timing_defs.specs.declared.kinds.Split.TheVariants.{Early, Late}
use Rattle.timing_defs.specs.declared.kinds.Tran.{Tran}
use Rattle.timing_defs.specs.declared.kinds.Kind.{Kind}
use Rattle.timing_defs.specs.declared.library.Cell.{Cell}
use Rattle.timing_defs.specs.declared.library.CellPin.{CellPin}
use Rattle.timing_defs.specs.declared.library.CellTest.{CellTest}
use Rattle.timing_defs.specs.declared.constraints.Constraints.{Constraints}
use Rattle.timing_defs.specs.declared.constraints.PortDelay.{PortDelay}
use Rattle.timing_defs.specs.declared.netlist.Inst.{Inst}
use Rattle.timing_defs.specs.declared.rows.NodeRow.{NodeRow}
use Rattle.timing_defs.specs.declared.design.Design.{Design}
use Rattle.timing_defs.specs.Lookup.{look}
use Rattle.timing_defs.specs.Netlist.{Pin, Node, name_of, same_tran, same_split, cell_of, cell_pin, cell_pins, inst_pins, both_nodes, port_pin, pins, nodes, is_driver}
use Rattle.timing_defs.specs.Wires.{first_some}
use Rattle.timing_rules.specs.Clocking.{cell_tests, is_network, is_clock_port}
use Rattle.timing_rules.specs.Rows.{arcs_in, row, outermost, slew, arrival, launch_edges, is_clock_at}
use Rattle.timing_defs.specs.RowTimes.{slew_in, times_in, time_on}
use Rattle.timing_rules.specs.Tests.{Test, walk_within, network_walk, edge_of_port, first_edge, is_test_of, library_tests, need_at, test_on, test_along, register_tests, output_test, port_tests, tests_at}
use Rattle.timing_defs.specs.Kinds.{data_split, clock_split, same_kind}
use Rattle.timing_rules.specs.Paths.{Named, named, node_named, is_network_named}
use Rattle.timing_rules.proofs.RowLaws.{ArePlacedNodes, stable, first_in, later_in}
use Rattle.timing_defs.proofs.Members.{some_is, in_map, in_cases, in_flat_map}
use Rattle.netlist_store.specs.Linked.{IsLinked}
use Rattle.calm_laws.specs.Pairs.{ArePairs}
use Rattle.calm_laws.specs.Quiet.{IsSameTest, AreSameTests, tests_named, IsQuietEnd}
use Rattle.calm_laws.proofs.Calm.{AreAlike, IsArcPair, IsCalm}
use Rattle.calm_laws.proofs.AlikeLaws.{HasTwin, none_too, twin_of, own_same, name_same, owner_same, drives_same, edges_same, clock_port_same, cell_same}
use Rattle.calm_laws.proofs.CellNodes.{keys, key_node, inst_keys, nodes_keyed, key_pin}
use Rattle.calm_laws.proofs.KnownCells.{owner_within}
use Rattle.calm_laws.proofs.ArcsKept.{arcs_kept}
use Rattle.calm_laws.proofs.InDesign.{one_node}
use Rattle.calm_laws.proofs.QuietNodes.{Stands, IsQuietNode, AreQuietNodes, told_node, named_in, before_in, after_in, pair_quiet, from_is, from2_is, rows_same, arrival_same}

-- two values that may be there, and stand in a relation where they are
abbrev pub MayBe : {X Y : Type 0} → (X → Y → Type 0) → Option X → Option Y → Type 0
MayBe r None None = Unit {0}
MayBe r None (Some y) = ⊥
MayBe r (Some x) None = ⊥
MayBe r (Some x) (Some y) = r x y

module _ {X Y P Q : Type 0} (r : X → Y → Type 0) (s : P → Q → Type 0) (f : X → Option P) (g : Y → Option Q) where
  first_pairs : (xs : List X) (ys : List Y) → ArePairs r xs ys → ((x : X) (y : Y) → Contains xs x → Contains ys y → r x y → MayBe s (f x) (g y)) → MayBe s (first_some f xs) (first_some g ys)
  first_pairs [] [] h each = tt
  first_pairs [] (y ∷ ys) h each = absurd h
  first_pairs (x ∷ xs) [] h each = absurd h
  first_pairs (x ∷ xs) (y ∷ ys) h each =
      by (f x) (g y) (each x y (first_in x xs) (first_in y ys) h.0) (first_pairs xs ys h.1 (λ a b ca cb p. each a b (later_in x xs a ca) (later_in y ys b cb) p))
    where
      by : (o : Option P) (p : Option Q) → MayBe s o p → MayBe s (first_some f xs) (first_some g ys) → MayBe s (option_map_or Some o (first_some f xs)) (option_map_or Some p (first_some g ys))
      by None None m rest = rest
      by None (Some b) m rest = absurd m
      by (Some a) None m rest = absurd m
      by (Some a) (Some b) m rest = m

-- walks of alike nodes
abbrev AreAlikeWalks : List Node → List Node → Type 0
AreAlikeWalks v w = ArePairs AreAlike v w

alike_named : (n n2 : Node) → AreAlike n n2 → named n2 ≡ named n
alike_named n n2 alike = λ k. (sym (name_same n n2 alike) k, alike.tran k)

walk_named : (v w : List Node) → AreAlikeWalks v w → map named w ≡ map named v
walk_named [] [] h = refl
walk_named [] (y ∷ ys) h = absurd h
walk_named (x ∷ xs) [] h = absurd h
walk_named (x ∷ xs) (y ∷ ys) h = λ k. alike_named x y h.0 k ∷ walk_named xs ys h.1 k

walk_longer : (v w : List Node) (n n2 : Node) → AreAlikeWalks v w → AreAlike n n2 → AreAlikeWalks (v ++ n ∷ []) (w ++ n2 ∷ [])
walk_longer [] [] n n2 h alike = (alike, tt)
walk_longer [] (y ∷ ys) n n2 h alike = absurd h
walk_longer (x ∷ xs) [] n n2 h alike = absurd h
walk_longer (x ∷ xs) (y ∷ ys) n n2 h alike = (h.0, walk_longer xs ys n n2 h.1 alike)

abbrev pub longer : Node → Option (List Node) → Option (List Node)
longer node walk = option_map (λ w. w ++ node ∷ []) walk

longer_pairs : (o p : Option (List Node)) (n n2 : Node) → MayBe AreAlikeWalks o p → AreAlike n n2 → MayBe AreAlikeWalks (longer n o) (longer n2 p)
longer_pairs None None n n2 m alike = tt
longer_pairs None (Some w) n n2 m alike = absurd m
longer_pairs (Some v) None n n2 m alike = absurd m
longer_pairs (Some v) (Some w) n n2 m alike = walk_longer v w n n2 m alike

first_agree : {X Y : Type 0} (f g : X → Option Y) (xs : List X) → ((x : X) → Contains xs x → f x ≡ g x) → first_some f xs ≡ first_some g xs
first_agree f g [] same = refl
first_agree f g (x ∷ xs) same = λ k. option_map_or Some (same x (first_in x xs) k) (first_agree f g xs (λ y c. same y (later_in x xs y c)) k)

abbrev pub next : Design → (Node → Option (List Node)) → Node → Option (List Node)
next d f node = (if is_clock_port d node.pin then Some (node ∷ []) else first_some (λ from. longer node (f from)) (arcs_in d node))

next_agree : (d : Design) (f g : Node → Option (List Node)) (to : Node) → ((from : Node) → Contains (arcs_in d to) from → f from ≡ g from) → next d f to ≡ next d g to
next_agree d f g to same =
    ap (λ o. if is_clock_port d to.pin then Some (to ∷ []) else o)
    (first_agree (λ from. longer to (f from)) (λ from. longer to (g from)) (arcs_in d to) (λ from c. ap (longer to) (same from c)))

module _ (d : Design) (place : Node → ℕ) (placed : ArePlacedNodes d (Stands d) place) (short : (n : Node) → Stands d n → place n < length (nodes d)) where
  pub walk_is : (n : Node) → Stands d n → walk_within d (length (nodes d)) n ≡ next d (walk_within d (length (nodes d))) n
  walk_is n s =
      stable (next d) (arcs_in d) (Stands d) place (λ f g to same. next_agree d f g to same) placed.closed placed.rising (walk_within d) (λ k m. refl)
      (length (nodes d)) n s (short n s)

-- a node of a clock pin is left, or is of the clock network in neither design
abbrev pub IsLeftClock : Design → Design → (Named → Bool) → Named → Type 0
IsLeftClock d d2 quiet n = (quiet n ≡ true) ⊎ ((is_network_named d n ≡ false) × (is_network_named d2 n ≡ false))

-- no walk leads to a node off the network
pub off_walk : (e : Design) (linked : IsLinked e) (n : Node) → Contains (pins e) n.pin → is_network_named e (named n) ≡ false → network_walk e n ≡ None
unfolding network_walk
off_walk e linked n c off =
    ap (λ (b : Bool). if b then walk_within e (length (nodes e)) n else None)
    (ap (λ o. option_map_or (λ (m : Node). is_network e m.pin) o false) (sym (told_node e linked n c)) ∙ off)

module _ (d d2 : Design) (place place2 : Node → ℕ) (quiet : Named → Bool) (are : AreQuietNodes d d2 place place2 quiet)
    (short : (n : Node) → Stands d n → place n < length (nodes d)) (short2 : (n : Node) → Stands d2 n → place2 n < length (nodes d2)) where
  abbrev was : (n : Named) → quiet n ≡ true → Node
  was n q = (are.nodes n q).before

  abbrev now : (n : Named) → quiet n ≡ true → Node
  now n q = (are.nodes n q).after

  abbrev walk : Node → Option (List Node)
  walk n = walk_within d (length (nodes d)) n

  abbrev walk2 : Node → Option (List Node)
  walk2 n = walk_within d2 (length (nodes d2)) n

  walks_within : (k : ℕ) (n : Named) (q : quiet n ≡ true) → place (was n q) < k → MayBe AreAlikeWalks (walk (was n q)) (walk2 (now n q))
  walks_within zero n q low = absurd (omega (arith, low))
  walks_within (suc k) n q low =
      subst (λ o. MayBe AreAlikeWalks o (walk2 (now n q))) (sym (walk_is d place are.placed short (was n q) (before_in d d2 place place2 quiet are n q)))
      (subst (MayBe AreAlikeWalks (next d walk (was n q))) (sym (walk_is d2 place2 are.placed2 short2 (now n q) (after_in d d2 place place2 quiet are n q)))
      (by (is_clock_port d (was n q).pin) refl
      (first_pairs (IsArcPair d d2 (was n q) (now n q)) AreAlikeWalks (λ from. longer (was n q) (walk from)) (λ from. longer (now n q) (walk2 from)) (arcs_in d (was n q)) (arcs_in d2 (now n q))
      (arcs_kept d d2 (was n q) (now n q) (are.nodes n q).calm)
      (λ from from2 c c2 pair.
      let up = are.placed.rising (was n q) (before_in d d2 place place2 quiet are n q) from pair.before in
      let q2 = pair_quiet d d2 place place2 quiet are n q from from2 pair in
      let is = from_is d d2 place place2 quiet are n q from from2 pair in
      let under : place (was (named from2) q2) < k = subst (λ (x : Node). place x < k) (sym is) (omega (arith, up, low)) in
      longer_pairs (walk from) (walk2 from2) (was n q) (now n q)
      (subst (λ (x : Node). MayBe AreAlikeWalks (walk x) (walk2 from2)) is
      (subst (λ (x : Node). MayBe AreAlikeWalks (walk (was (named from2) q2)) (walk2 x)) (from2_is d d2 place place2 quiet are n q from from2 pair)
      (walks_within k (named from2) q2 under)))
      (are.nodes n q).calm.kept.alike))))
    where
      by : (b : Bool) → is_clock_port d (was n q).pin ≡ b
          → MayBe AreAlikeWalks (first_some (λ from. longer (was n q) (walk from)) (arcs_in d (was n q))) (first_some (λ from. longer (now n q) (walk2 from)) (arcs_in d2 (now n q)))
          → MayBe AreAlikeWalks (next d walk (was n q)) (next d2 walk2 (now n q))
      by true e rest = rw (e, sym (clock_port_same d d2 are.framed (was n q) (now n q) (are.nodes n q).calm.kept.alike) ∙ e) ((are.nodes n q).calm.kept.alike, tt)
      by false e rest = rw (e, sym (clock_port_same d d2 are.framed (was n q) (now n q) (are.nodes n q).calm.kept.alike) ∙ e) rest

  -- the walk of a clock
  network_walks : (n : Named) (q : quiet n ≡ true) → MayBe AreAlikeWalks (network_walk d (was n q)) (network_walk d2 (now n q))
  unfolding network_walk
  network_walks n q = elim (cases_Bool (is_network d (was n q).pin)) [
    | inl e ↦ rw (e, (are.nodes n q).calm.network ∙ e) (walks_within (suc (place (was n q))) n q (omega arith))
    | inr e ↦ rw (e, (are.nodes n q).calm.network ∙ e) tt
  ]

  edge_same : (v w : List Node) → AreAlikeWalks v w → first_edge d2 w ≡ first_edge d v
  edge_same [] [] h = refl
  edge_same [] (y ∷ ys) h = absurd h
  edge_same (x ∷ xs) [] h = absurd h
  edge_same (x ∷ xs) (y ∷ ys) h = λ k.
      find (λ edge. is_clock_at (are.framed.constraints k).clocks edge.0 (sym (own_same x y h.0) k) && same_tran edge.1 (h.0.tran k)) (sym (edges_same d d2 are.framed) k)

  -- a test by a clock's node, with its walk, edge, need and arrivals
  abbrev made_of : Node → List Node → Option (ℕ × Tran) → Option ℤ → (Split → ℕ × Tran → Option ℤ) → Option Test
  made_of clock walk edges needs arrives =
      option_and_then (λ edge.
      option_and_then (λ need.
      option_and_then (λ early.
      option_map (test_on clock walk edge need early) (arrives Late edge))
      (arrives Early edge))
      needs)
      edges

  module _ (c c2 : Node) (v w : List Node) (walks : AreAlikeWalks v w) (arrives : Split → ℕ × Tran → Option ℤ) where
    made_early : (edge : ℕ × Tran) (need : ℤ) (o p : Option ℤ)
        → MayBe IsSameTest (option_and_then (λ early. option_map (test_on c v edge need early) p) o) (option_and_then (λ early. option_map (test_on c2 w edge need early) p) o)
    made_early edge need None p = tt
    made_early edge need (Some early) None = tt
    made_early edge need (Some early) (Some late) = record { need = refl; capture = refl; early = refl; late = refl; walk = walk_named v w walks }

    made_same : (edges : Option (ℕ × Tran)) (needs : Option ℤ) → MayBe IsSameTest (made_of c v edges needs arrives) (made_of c2 w edges needs arrives)
    made_same None needs = tt
    made_same (Some edge) None = tt
    made_same (Some edge) (Some need) = made_early edge need (arrives Early edge) (arrives Late edge)

  -- a node of an endpoint in both designs: of one pin, with the slew that its tests ask for; `clocks` tells that the nodes it is tested by are left
  module _ (x y : Node) (alike : AreAlike x y) (x_in : Stands d x) (y_in : Stands d2 y) (kind : Kind)
      (slews : slew_in (data_split kind) (row d2 y) ≡ slew_in (data_split kind) (row d x)) (i j : Inst) (cell : j.cell ≡ i.cell)
      (owner : x.pin.owner ≡ Some i) (owner2 : y.pin.owner ≡ Some j) (name : j.name ≡ i.name)
      (clocks : (clock : Node) → Contains (flat_map both_nodes (inst_pins d i)) clock → nat_lt 0 (length (library_tests d kind i x clock)) ≡ true → IsLeftClock d d2 quiet (named clock)) where
    i_there : Contains d.insts i
    i_there = owner_within d are.linked x.pin i x_in owner

    j_there : Contains d2.insts j
    j_there = owner_within d2 are.linked2 y.pin j y_in owner2

    module _ (key : CellPin × Tran) (c : Contains (inst_keys d i) key) where
      lib_same : library_tests d kind i x (key_node i key) ≡ library_tests d2 kind j y (key_node j key)
      lib_same = λ k.
          filter (λ test. same_kind test.kind kind && bytes_eq test.pin (own_same x y alike k) && same_tran test.tran (sym alike.tran k)
          && bytes_eq test.clock key.0.name && same_tran test.active key.1)
          (cell_tests (cell_same d d2 are.framed (data_split kind) i j cell k))

      abbrev clock : Node
      clock = key_node i key

      abbrev clock2 : Node
      clock2 = key_node j key

      clock_in : Contains (flat_map both_nodes (inst_pins d i)) clock
      clock_in =
          subst (λ (xs : List Node). Contains xs clock) (sym (nodes_keyed i (cell_pins (cell_of d Late i)))) (in_map (key_node i) (inst_keys d i) key c)

      named2 : named clock2 ≡ named clock
      named2 = λ k. (name k ++ 58 ∷ key.0.name, key.1)

      pin_in : Contains (pins d) clock.pin
      pin_in =
          Contains-append_right (map port_pin d.ports) (flat_map (inst_pins d) d.insts) clock.pin
          (in_flat_map (inst_pins d) d.insts i clock.pin i_there (in_map (cell_pin i) (cell_pins (cell_of d Late i)) key.0 (key_pin (cell_pins (cell_of d Late i)) key c)))

      pin2_in : Contains (pins d2) clock2.pin
      pin2_in =
          Contains-append_right (map port_pin d2.ports) (flat_map (inst_pins d2) d2.insts) clock2.pin
          (in_flat_map (inst_pins d2) d2.insts j clock2.pin j_there
          (in_map (cell_pin j) (cell_pins (cell_of d2 Late j)) key.0
          (subst (λ (o : Option Cell). Contains (cell_pins o) key.0) (cell_same d d2 are.framed Late i j cell) (key_pin (cell_pins (cell_of d Late i)) key c))))

      module _ (qc : quiet (named clock) ≡ true) where
        was_is : was (named clock) qc ≡ clock
        was_is =
            let it = named_in d (named clock) (was (named clock) qc) (are.nodes (named clock) qc).told in
            one_node d are.linked (was (named clock) qc) clock it.0 pin_in it.1.0 it.1.1

        now_is : now (named clock) qc ≡ clock2
        now_is =
            let it = named_in d2 (named clock) (now (named clock) qc) (are.nodes (named clock) qc).told2 in
            one_node d2 are.linked2 (now (named clock) qc) clock2 it.0 pin2_in (it.1.0 ∙ sym (ap (λ (m : Named). m.0) named2)) (it.1.1 ∙ sym (ap (λ (m : Named). m.1) named2))

        rows_clock : row d2 clock2 ≡ row d clock
        rows_clock = ap (row d2) (sym now_is) ∙ sym (rows_same d d2 place place2 quiet are (named clock) qc) ∙ ap (row d) was_is

        need_same : need_at d2 kind j y clock2 ≡ need_at d kind i x clock
        need_same = λ k.
            outermost Late
            (λ test. option_and_then (λ s. option_map (look test.need s) (slews k))
            (slew_in (clock_split kind) (rows_clock k)))
            None (sym lib_same k)

        arrive_same : (split : Split) (edge : ℕ × Tran) → arrival d2 split clock2 edge ≡ arrival d split clock edge
        arrive_same split edge = ap (λ (r : NodeRow). time_on (times_in split r) edge) rows_clock

        along : (v w : List Node) → AreAlikeWalks v w → MayBe IsSameTest (test_along d kind i x clock v) (test_along d2 kind j y clock2 w)
        along v w h =
            subst (MayBe IsSameTest (test_along d kind i x clock v))
            (λ k. made_of clock2 w (sym (edge_same v w h) k) (sym need_same k) (λ split edge. sym (arrive_same split edge) k))
            (made_same clock clock2 v w h (λ split edge. arrival d split clock edge) (first_edge d v) (need_at d kind i x clock))

        walked_by : (o p : Option (List Node)) → MayBe AreAlikeWalks o p
            → MayBe IsSameTest (option_and_then (test_along d kind i x clock) o) (option_and_then (test_along d2 kind j y clock2) p)
        walked_by None None m = tt
        walked_by None (Some w) m = absurd m
        walked_by (Some v) None m = absurd m
        walked_by (Some v) (Some w) m = along v w m

        quiet_test : MayBe IsSameTest (option_and_then (test_along d kind i x clock) (network_walk d clock)) (option_and_then (test_along d2 kind j y clock2) (network_walk d2 clock2))
        quiet_test =
            walked_by (network_walk d clock) (network_walk d2 clock2)
            (subst (λ (m : Node). MayBe AreAlikeWalks (network_walk d m) (network_walk d2 clock2)) was_is
            (subst (λ (m : Node). MayBe AreAlikeWalks (network_walk d (was (named clock) qc)) (network_walk d2 m)) now_is (network_walks (named clock) qc)))

      off_test : (is_network_named d (named clock) ≡ false) × (is_network_named d2 (named clock) ≡ false)
          → MayBe IsSameTest (option_and_then (test_along d kind i x clock) (network_walk d clock)) (option_and_then (test_along d2 kind j y clock2) (network_walk d2 clock2))
      off_test off =
          rw (off_walk d are.linked clock pin_in off.0, off_walk d2 are.linked2 clock2 pin2_in (ap (is_network_named d2) named2 ∙ off.1)) tt

      pub key_test : nat_lt 0 (length (library_tests d kind i x clock)) ≡ true
          → MayBe IsSameTest (option_and_then (test_along d kind i x clock) (network_walk d clock)) (option_and_then (test_along d2 kind j y clock2) (network_walk d2 clock2))
      key_test tests = elim (clocks clock clock_in tests) [ inl qc ↦ quiet_test qc | inr off ↦ off_test off ]

    abbrev tested : Node → Bool
    tested clock = nat_lt 0 (length (library_tests d kind i x clock))

    abbrev tested2 : Node → Bool
    tested2 clock = nat_lt 0 (length (library_tests d2 kind j y clock))

    abbrev test1 : Node → Option Test
    test1 clock = option_and_then (test_along d kind i x clock) (network_walk d clock)

    abbrev test2 : Node → Option Test
    test2 clock = option_and_then (test_along d2 kind j y clock) (network_walk d2 clock)

    keyed : (ks : List (CellPin × Tran)) → ((key : CellPin × Tran) → Contains ks key → Contains (inst_keys d i) key)
        → AreSameTests (filter_map test1 (filter tested (map (key_node i) ks))) (filter_map test2 (filter tested2 (map (key_node j) ks)))
    keyed [] all = tt
    keyed (key ∷ ks) all = elim (cases_Bool (tested (key_node i key))) [
      | inl e ↦
          let e2 : tested2 (key_node j key) ≡ true = ap (λ tests. nat_lt 0 (length tests)) (sym (lib_same key (all key (first_in key ks)))) ∙ e in
          rw (e, e2) (more (test1 (key_node i key)) (test2 (key_node j key)) refl refl (key_test key (all key (first_in key ks)) e) (keyed ks (λ k c. all k (later_in key ks k c))))
      | inr e ↦
          let e2 : tested2 (key_node j key) ≡ false = ap (λ tests. nat_lt 0 (length tests)) (sym (lib_same key (all key (first_in key ks)))) ∙ e in
          rw (e, e2) (keyed ks (λ k c. all k (later_in key ks k c)))
    ]
      where
        more : (o p : Option Test) → test1 (key_node i key) ≡ o → test2 (key_node j key) ≡ p → MayBe IsSameTest o p
            → AreSameTests (filter_map test1 (filter tested (map (key_node i) ks))) (filter_map test2 (filter tested2 (map (key_node j) ks)))
            → AreSameTests (filter_map test1 (key_node i key ∷ filter tested (map (key_node i) ks))) (filter_map test2 (key_node j key ∷ filter tested2 (map (key_node j) ks)))
        more None None f g m rest = rw (f, g) rest
        more None (Some b) f g m rest = absurd m
        more (Some a) None f g m rest = absurd m
        more (Some a) (Some b) f g m rest = rw (f, g) (m, rest)

    pub registers : AreSameTests (register_tests d kind x i) (register_tests d2 kind y j)
    registers =
        subst (λ (xs : List Node). AreSameTests (filter_map test1 (filter tested xs)) (register_tests d2 kind y j)) (sym (nodes_keyed i (cell_pins (cell_of d Late i))))
        (subst (λ (xs : List Node). AreSameTests (filter_map test1 (filter tested (map (key_node i) (inst_keys d i)))) (filter_map test2 (filter tested2 xs)))
        (ap (λ (o : Option Cell). map (key_node j) (keys (cell_pins o))) (cell_same d d2 are.framed Late i j cell) ∙ sym (nodes_keyed j (cell_pins (cell_of d2 Late j))))
        (keyed (inst_keys d i) (λ key c. c)))

  -- an output delay
  outputs : (x y : Node) → AreAlike x y → (kind : Kind) → AreSameTests (port_tests d kind x) (port_tests d2 kind y)
  outputs x y alike kind =
      subst (AreSameTests (port_tests d kind x))
      (λ k. map (output_test kind)
      (filter (λ o. bytes_eq o.port (own_same x y alike k) && same_split o.split (data_split kind) && same_tran o.tran (sym alike.tran k)) (sym are.framed.constraints k).outputs))
      (same_self_tests (port_tests d kind x))
    where
      same_self_tests : (xs : List Test) → AreSameTests xs xs
      same_self_tests [] = tt
      same_self_tests (x ∷ xs) = (record { need = refl; capture = refl; early = refl; late = refl; walk = refl }, same_self_tests xs)

  -- the nodes of the clock pins that a node of an endpoint is tested by
  pub record AreLeftClocks (x : Node) (kind : Kind) : Type 0 where
    pub clocks : (inst : Inst) → x.pin.owner ≡ Some inst → (clock : Node) → Contains (flat_map both_nodes (inst_pins d inst)) clock
        → nat_lt 0 (length (library_tests d kind inst x clock)) ≡ true → IsLeftClock d d2 quiet (named clock)

  pub tests_left : (x y : Node) → AreAlike x y → Stands d x → Stands d2 y → (kind : Kind) → slew_in (data_split kind) (row d2 y) ≡ slew_in (data_split kind) (row d x)
      → AreLeftClocks x kind → AreSameTests (tests_at d kind x) (tests_at d2 kind y)
  unfolding tests_at
  tests_left x y alike x_in y_in kind slews clocks = elim (cases_Bool (is_driver x.pin)) [
    | inl e ↦ rw (e, sym (drives_same x y alike) ∙ e) tt
    | inr e ↦ rw (e, sym (drives_same x y alike) ∙ e) (by x.pin.owner refl)
  ]
    where
      both : (o p : Option Inst) → x.pin.owner ≡ o → y.pin.owner ≡ p → AreSameTests (option_map_or (register_tests d kind x) o (port_tests d kind x)) (option_map_or (register_tests d2 kind y) p (port_tests d2 kind y))
          → AreSameTests (option_map_or (register_tests d kind x) x.pin.owner (port_tests d kind x)) (option_map_or (register_tests d2 kind y) y.pin.owner (port_tests d2 kind y))
      both o p e f h =
          subst (λ (v : Option Inst). AreSameTests (option_map_or (register_tests d kind x) v (port_tests d kind x)) (option_map_or (register_tests d2 kind y) y.pin.owner (port_tests d2 kind y))) (sym e)
          (subst (λ (w : Option Inst). AreSameTests (option_map_or (register_tests d kind x) o (port_tests d kind x)) (option_map_or (register_tests d2 kind y) w (port_tests d2 kind y))) (sym f) h)

      by : (o : Option Inst) → x.pin.owner ≡ o
          → AreSameTests (option_map_or (register_tests d kind x) x.pin.owner (port_tests d kind x)) (option_map_or (register_tests d2 kind y) y.pin.owner (port_tests d2 kind y))
      by None e =
          let e2 = none_too x.pin.owner y.pin.owner (owner_same x y alike) e in
          both None None e e2 (outputs x y alike kind)
      by (Some i) e =
          let t = twin_of x.pin.owner y.pin.owner (owner_same x y alike) i e in
          both (Some i) (Some t.twin) e t.owner (registers x y alike x_in y_in kind slews i t.twin t.cell e t.owner t.name (clocks.clocks i e))

  abbrev pub AreQuietClocks : (n : Named) → quiet n ≡ true → Kind → Type 0
  AreQuietClocks n q kind = AreLeftClocks (was n q) kind

  pub tests_same : (n : Named) (q : quiet n ≡ true) (kind : Kind) → AreQuietClocks n q kind → AreSameTests (tests_at d kind (was n q)) (tests_at d2 kind (now n q))
  tests_same n q kind clocks =
      tests_left (was n q) (now n q) (are.nodes n q).calm.kept.alike (before_in d d2 place place2 quiet are n q) (after_in d d2 place place2 quiet are n q) kind
      (λ k. slew_in (data_split kind) (sym (rows_same d d2 place place2 quiet are n q) k)) clocks

  -- an endpoint of such nodes
  pub quiet_end : (kind : Kind) (pin : List ℕ) (end : (tran : Tran) → quiet (pin, tran) ≡ true)
      → ((tran : Tran) → AreQuietClocks (pin, tran) (end tran) kind) → IsQuietEnd d d2 quiet kind pin
  quiet_end kind pin end clocks = record {
    end = end;
    tests = λ tran.
        subst (λ (xs : List Test). AreSameTests xs (tests_named d2 kind (pin, tran))) (sym (told_tests d (pin, tran) (was (pin, tran) (end tran)) (are.nodes (pin, tran) (end tran)).told))
        (subst (AreSameTests (tests_at d kind (was (pin, tran) (end tran)))) (sym (told_tests d2 (pin, tran) (now (pin, tran) (end tran)) (are.nodes (pin, tran) (end tran)).told2))
        (tests_same (pin, tran) (end tran) kind (clocks tran)));
  }
    where
      told_tests : (e : Design) (n : Named) (a : Node) → node_named e n ≡ Some a → tests_named e kind n ≡ tests_at e kind a
      told_tests e n a h = ap (λ o. option_map_or (tests_at e kind) o []) h
