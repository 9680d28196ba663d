-- The credit of a path with a test depends on its launch node and the test alone.

use Rattle.std.proofs.Common.{◌≡◌, ◌⊎◌, ℕ, zero, suc, ℤ, pos, Bool, true, false, List, [], ◌∷◌, ◌++◌, map, filter, Option, None, Some, refl, sym, ap, subst, ◌∙◌, inl, inr, arith}
use Rattle.std.specs.Prelude.{Contains, ◌&&◌, ◌||◌, nat_lt, length, if◌then◌else◌, option_map, option_and_then}
use Rattle.std.specs.List.{list_any, list_all, flat_map}
use Rattle.std.specs.Option.{option_map_or}
use Rattle.std.proofs.lemmas.Bool.{cases_Bool, true≢false, and_parts, and_from}
use Rattle.std.proofs.lemmas.List.{append_assoc}
use Rattle.timing_defs.specs.declared.kinds.Split.{Split}
use Rattle.timing_defs.specs.declared.kinds.Split.TheVariants.{Early, Late}
use Rattle.timing_defs.specs.declared.kinds.Tran.{Tran}
use Rattle.timing_defs.specs.declared.kinds.Kind.{Kind}
use Rattle.timing_defs.specs.declared.netlist.Inst.{Inst}
use Rattle.timing_defs.specs.declared.constraints.PortDelay.{PortDelay}
use Rattle.timing_defs.specs.declared.design.Design.{Design}
use Rattle.timing_defs.specs.Netlist.{Pin, Node, pins, inst_pins, both_nodes, is_driver, same_split, same_tran}
use Rattle.timing_rules.specs.Rows.{arrival}
use Rattle.timing_rules.specs.Tests.{Test, network_walk, first_edge, library_tests, need_at, test_on, test_along, register_tests, port_tests, output_test, tests_at}
use Rattle.timing_defs.specs.Kinds.{data_split}
use Rattle.timing_rules.specs.Paths.{Named, named, is_network_named, same_named, last_common, spread_at, credit}
use Rattle.std.specs.Str.{bytes_eq}
use Rattle.timing_defs.proofs.Members.{none_in, in_map_back, in_flat_map_back, in_filter_map_back, kept_in}
use Rattle.store_pins.proofs.PinLaws.{own_in, own_back, own_pins}
use Rattle.pin_graph.proofs.JoinLaws.{then_back, mapped_back}
use Rattle.path_search.specs.Runs.{AreSteps, IsTimed}
use Rattle.path_search.specs.Launches.{IsByWalk, IsAlone, IsParted, walk_names}
use Rattle.path_search.proofs.Prefixes.{walk_is_told, off_walk}
use Rattle.path_search.proofs.NodeNames.{named_is, network_named, network_of}

either_none : (a b : Bool) → (a || b) ≡ false → (a ≡ false) × (b ≡ false)
either_none false b h = (refl, h)
either_none true b h = absurd (true≢false h)

module _ (d : Design) where
  -- a node outside the clock network is not one of it
  apart : (a b : Named) → is_network_named d a ≡ false → is_network_named d b ≡ true → same_named a b ≡ false
  apart a b out net = elim (cases_Bool (same_named a b)) [
    | inr e ↦ e
    | inl e ↦ absurd (true≢false (sym net ∙ ap (is_network_named d) (sym (named_is a b e)) ∙ out))
  ]

  -- nodes outside the network have no part in what is common with nodes of it
  pub common_cut : (last : Option Named) (xs ys bs : List Named) → list_any (is_network_named d) ys ≡ false → list_all (is_network_named d) bs ≡ true
      → last_common last (xs ++ ys) bs ≡ last_common last xs bs
  common_cut last [] [] bs out net = refl
  common_cut last [] (y ∷ ys) [] out net = refl
  common_cut last [] (y ∷ ys) (b ∷ bs) out net =
      let o = either_none (is_network_named d y) (list_any (is_network_named d) ys) out in
      let n = and_parts (is_network_named d b) (list_all (is_network_named d) bs) net in
      ap (λ (e : Bool). if e then last_common (Some y) ys bs else last) (apart y b o.0 n.0)
  common_cut last (x ∷ xs) ys [] out net = refl
  common_cut last (x ∷ xs) ys (b ∷ bs) out net =
      let n = and_parts (is_network_named d b) (list_all (is_network_named d) bs) net in
      ap (λ (o : Option Named). if same_named x b then o else last) (common_cut (Some x) xs ys bs out n.1)

  -- up to the launch node
  pub common_launch : (pre : List Named) (launch : Named) (post bs : List Named) → list_any (is_network_named d) post ≡ false → list_all (is_network_named d) bs ≡ true
      → last_common None (pre ++ launch ∷ post) bs ≡ last_common None (pre ++ launch ∷ []) bs
  common_launch pre launch post bs out net =
      ap (λ (xs : List Named). last_common None xs bs) (sym (append_assoc pre (launch ∷ []) post)) ∙ common_cut None (pre ++ launch ∷ []) post bs out net

  -- none where the launch node is outside the network
  pub common_none : (launch : Named) (post bs : List Named) → is_network_named d launch ≡ false → list_any (is_network_named d) post ≡ false → list_all (is_network_named d) bs ≡ true
      → last_common None (launch ∷ post) bs ≡ None
  common_none launch post bs out beyond net =
      common_cut None [] (launch ∷ post) bs (rw out beyond) net

-- the walk of a test
sinks_tests : (d : Design) (kind : Kind) (target : Node) (test : Test) → Contains (tests_at d kind target) test
    → Contains (option_map_or (register_tests d kind target) target.pin.owner (port_tests d kind target)) test
unfolding tests_at
sinks_tests d kind target test c = by (is_driver target.pin) c
  where
    by : (b : Bool) → Contains (if b then [] else option_map_or (register_tests d kind target) target.pin.owner (port_tests d kind target)) test
        → Contains (option_map_or (register_tests d kind target) target.pin.owner (port_tests d kind target)) test
    by true h = absurd (none_in test h)
    by false h = h

walk_of_test : (clock : Node) (walk : List Node) (edge : ℕ × Tran) (need early late : ℤ) (test : Test) → test_on clock walk edge need early late ≡ test → test.walk ≡ walk
walk_of_test clock walk edge need early late test e = sym (ap (λ (x : Test). x.walk) e)

walk_along : (d : Design) (kind : Kind) (inst : Inst) (target clock : Node) (walk : List Node) (test : Test) → test_along d kind inst target clock walk ≡ Some test → test.walk ≡ walk
walk_along d kind inst target clock walk test e =
    let a = then_back (λ edge. option_and_then (λ need. option_and_then (λ early. option_map (test_on clock walk edge need early) (arrival d Late clock edge)) (arrival d Early clock edge))
    (need_at d kind inst target clock)) (first_edge d walk) test e in
    let b = then_back (λ need. option_and_then (λ early. option_map (test_on clock walk a.0 need early) (arrival d Late clock a.0)) (arrival d Early clock a.0)) (need_at d kind inst target clock) test a.2 in
    let c = then_back (λ early. option_map (test_on clock walk a.0 b.0 early) (arrival d Late clock a.0)) (arrival d Early clock a.0) test b.2 in
    let f = mapped_back (test_on clock walk a.0 b.0 c.0) (arrival d Late clock a.0) test c.2 in
    walk_of_test clock walk a.0 b.0 c.0 f.0 test f.2

both_pin : (pin : Pin) (node : Node) → Contains (both_nodes pin) node → node.pin ≡ pin
both_pin pin node (zero, low, is) = ap (λ (n : Node). n.pin) (sym is)
both_pin pin node (suc zero, low, is) = ap (λ (n : Node). n.pin) (sym is)
both_pin pin node (suc (suc i), low, is) = absurd (omega (arith, low))

module _ (d : Design) (t : IsTimed d) where
  inside_steps : (n : Node) (ms : List Node) → AreSteps d n ms → list_all (is_network_named d) (map named ms) ≡ true
  inside_steps n [] s = refl
  inside_steps n (m ∷ ms) s =
      and_from (is_network_named d (named m)) (list_all (is_network_named d) (map named ms)) (network_of d t m s.0.within ∙ s.0.network) (inside_steps m ms s.1)

  walk_inside : (n : Node) → Contains (pins d) n.pin → (w : List Node) → network_walk d n ≡ Some w → list_all (is_network_named d) (map named w) ≡ true
  walk_inside n there w e =
      let r = walk_is_told d t n there w e in
      ap (λ (xs : List Node). list_all (is_network_named d) (map named xs)) r.begins
      ∙ and_from (is_network_named d (named r.first)) (list_all (is_network_named d) (map named r.rest)) (network_of d t r.first r.within ∙ r.network) (inside_steps r.first r.rest r.steps)

  pub test_inside : (kind : Kind) (target : Node) → Contains (pins d) target.pin → (test : Test) → Contains (tests_at d kind target) test
      → list_all (is_network_named d) (map named test.walk) ≡ true
  test_inside kind target there test c = by target.pin.owner refl (sinks_tests d kind target test c)
    where
      by : (o : Option Inst) → target.pin.owner ≡ o → Contains (option_map_or (register_tests d kind target) o (port_tests d kind target)) test
          → list_all (is_network_named d) (map named test.walk) ≡ true
      by None own h =
          let m = in_map_back (output_test kind) (filter (λ (o : PortDelay). bytes_eq o.port target.pin.own && same_split o.split (data_split kind) && same_tran o.tran target.tran) d.constraints.outputs) test h in
          ap (λ (x : Test). list_all (is_network_named d) (map named x.walk)) (sym m.same)
      by (Some inst) own h =
          let m = in_filter_map_back (λ clock. option_and_then (test_along d kind inst target clock) (network_walk d clock))
          (filter (λ clock. nat_lt 0 (length (library_tests d kind inst target clock))) (flat_map both_nodes (inst_pins d inst))) test h in
          let w = then_back (test_along d kind inst target m.item) (network_walk d m.item) test m.same in
          let near = in_flat_map_back both_nodes (inst_pins d inst) m.item (kept_in (λ clock. nat_lt 0 (length (library_tests d kind inst target clock))) (flat_map both_nodes (inst_pins d inst)) m.item m.within) in
          let mine = own_back d t.linked target.pin inst there own in
          let its = own_pins d t.linked inst near.item mine.inst near.within in
          let inside : Contains (pins d) m.item.pin =
          subst (λ (q : Pin). Contains (pins d) q) (sym its.same ∙ sym (both_pin near.item m.item near.inside)) (own_in d t.linked inst its.pin mine.inst its.within) in
          ap (λ (xs : List Node). list_all (is_network_named d) (map named xs)) (walk_along d kind inst target m.item w.0 test w.2)
          ∙ walk_inside m.item inside w.0 w.1

-- the credit of a path in parts
module _ (d : Design) (t : IsTimed d) (split : Split) (edge : ℕ × Tran) (path : List Named) (launch : Named) (size : ℤ) (p : IsParted d split edge path launch size)
    (bs : List Named) (net : list_all (is_network_named d) bs ≡ true) where
  pub common_told : last_common None path bs ≡ last_common None (walk_names d launch) bs
  common_told =
      ap (λ (xs : List Named). last_common None xs bs) p.nodes ∙ by p.begins
    where
      by : IsByWalk d edge p.node p.pre launch ⊎ IsAlone d split edge p.time p.node p.pre launch
          → last_common None (p.pre ++ launch ∷ p.post) bs ≡ last_common None (walk_names d launch) bs
      by (inl walk) =
          let names : walk_names d launch ≡ p.pre ++ launch ∷ [] =
          ap (λ o. option_map_or (λ node. option_map_or (map named) (network_walk d node) []) o []) p.its
          ∙ ap (λ o. option_map_or (map named) o []) walk.told ∙ walk.names in
          common_launch d p.pre launch p.post bs p.outside net ∙ ap (λ (xs : List Named). last_common None xs bs) (sym names)
      by (inr alone) =
          let names : walk_names d launch ≡ [] =
          ap (λ o. option_map_or (λ node. option_map_or (map named) (network_walk d node) []) o []) p.its
          ∙ ap (λ o. option_map_or (map named) o []) (off_walk d p.node alone.outside) in
          ap (λ (xs : List Named). last_common None (xs ++ launch ∷ p.post) bs) alone.none
          ∙ common_none d launch p.post bs (network_named d t launch p.node p.its ∙ alone.outside) p.outside net
          ∙ ap (λ (xs : List Named). last_common None xs bs) (sym names)

pub credit_told : (d : Design) (t : IsTimed d) (split : Split) (edge : ℕ × Tran) (path : List Named) (launch : Named) (size : ℤ) → IsParted d split edge path launch size
    → (test : Test) → list_all (is_network_named d) (map named test.walk) ≡ true → credit d path edge test ≡ credit d (walk_names d launch) edge test
credit_told d t split edge path launch size p test net =
    ap (λ o. option_map_or (spread_at d edge) o (pos 0)) (common_told d t split edge path launch size p (map named test.walk) net)
