-- The nodes of the walk to a clock node that an edit leaves are left too.

use Rattle.std.proofs.Common.{◌≡◌, ◌⊎◌, ℕ, zero, suc, ◌<◌, Bool, true, false, List, [], ◌∷◌, ◌++◌, map, filter, length, Option, None, Some, refl, sym, ap, subst, ◌∙◌, inl, inr, arith}
use Rattle.std.specs.Prelude.{Contains, ◌&&◌, nat_lt, option_map, option_and_then, if◌then◌else◌}
use Rattle.std.specs.List.{filter_map, flat_map}
use Rattle.std.specs.Str.{bytes_eq}
use Rattle.std.proofs.lemmas.List.Elements.{Contains-append_right}
use Rattle.std.specs.Option.{option_map_or}
use Rattle.timing_defs.specs.declared.design.Design.{Design}
use Rattle.timing_defs.specs.declared.kinds.Split.TheVariants.{Early, Late}
use Rattle.timing_defs.specs.declared.kinds.Tran.TheVariants.{Rise, Fall}
use Rattle.timing_defs.specs.declared.kinds.Kind.{Kind}
use Rattle.timing_defs.specs.declared.netlist.Inst.{Inst}
use Rattle.timing_defs.specs.Netlist.{Pin, Node, nodes, pins, inst_pins, both_nodes, port_pin, is_driver, same_split, same_tran}
use Rattle.timing_defs.specs.Wires.{first_some}
use Rattle.timing_rules.specs.Clocking.{is_network, is_clock_port}
use Rattle.timing_rules.specs.Rows.{arcs_in, arrival}
use Rattle.timing_rules.specs.Tests.{Test, walk_within, network_walk, first_edge, library_tests, need_at, test_on, test_along, register_tests, output_test, port_tests, tests_at}
use Rattle.timing_defs.specs.Kinds.{data_split}
use Rattle.timing_rules.specs.Paths.{Named, named}
use Rattle.timing_rules.proofs.RowLaws.{ArePlacedNodes}
use Rattle.timing_defs.proofs.Members.{some_is, none_in, in_cases, first_in, later_in, in_map_back, in_flat_map, in_flat_map_back, in_filter_map_back, kept_in, passes_in}
use Rattle.calm_laws.proofs.Calm.{IsArcPair}
use Rattle.calm_laws.proofs.PairLaws.{pair_from}
use Rattle.calm_laws.proofs.AlikeLaws.{name_same}
use Rattle.calm_laws.proofs.ArcsKept.{arcs_kept}
use Rattle.calm_laws.proofs.KnownCells.{owner_within}
use Rattle.calm_laws.proofs.InDesign.{one_node}
use Rattle.calm_laws.proofs.QuietNodes.{Stands, IsQuietNode, AreQuietNodes, named_in, before_in, pair_quiet, from_is}
use Rattle.calm_laws.proofs.TestsKept.{longer, next, walk_is, off_walk, AreLeftClocks}

module _ {X Y : Type 0} (f : X → Option Y) where
  first_back : (xs : List X) (y : Y) → first_some f xs ≡ Some y → (x : X) × Contains xs x × (f x ≡ Some y)
  first_back [] y e = absurd (cc)
  first_back (x ∷ xs) y e = by (f x) refl e (first_back xs y)
    where
      by : (o : Option Y) → f x ≡ o → option_map_or Some o (first_some f xs) ≡ Some y → (first_some f xs ≡ Some y → (z : X) × Contains xs z × (f z ≡ Some y))
          → (z : X) × Contains (x ∷ xs) z × (f z ≡ Some y)
      by None h g again = let r = again g in (r.0, later_in x xs r.0 r.1, r.2)
      by (Some w) h g again = (x, first_in x xs, h ∙ g)

-- a walk with one node more
longer_back : (n : Node) (o : Option (List Node)) (v : List Node) → longer n o ≡ Some v → (u : List Node) × (o ≡ Some u) × (u ++ n ∷ [] ≡ v)
longer_back n None v e = absurd (cc)
longer_back n (Some u) v e = (u, refl, some_is e)

in_longer : (u : List Node) (n : Node) (m : Named) → Contains (map named (u ++ n ∷ [])) m → Contains (map named u) m ⊎ (named n ≡ m)
in_longer [] n m c = elim (in_cases (named n) [] m c) [ inl e ↦ inr e | inr d ↦ absurd (none_in m d) ]
in_longer (x ∷ u) n m c = elim (in_cases (named x) (map named (u ++ n ∷ [])) m c) [
  | inl e ↦ inl (subst (λ (y : Named). Contains (named x ∷ map named u) y) e (first_in (named x) (map named u)))
  | inr d ↦ elim (in_longer u n m d) [ inl here ↦ inl (later_in (named x) (map named u) m here) | inr last ↦ inr last ]
]

module _ (d d2 : Design) (place place2 : Node → ℕ) (quiet : Named → Bool) (are : AreQuietNodes d d2 place place2 quiet)
    (short : (n : Node) → Stands d n → place n < length (nodes d)) where
  abbrev walk : Node → Option (List Node)
  walk n = walk_within d (length (nodes d)) n

  abbrev was : (n : Named) → quiet n ≡ true → Node
  was n q = (are.nodes n q).before

  was_named : (n : Named) (q : quiet n ≡ true) → named (are.nodes n q).before ≡ n
  was_named n q = let it = named_in d n (are.nodes n q).before (are.nodes n q).told in (λ k. (it.1.0 k, it.1.1 k))

  within_quiet : (k : ℕ) (n : Named) (q : quiet n ≡ true) → place (are.nodes n q).before < k → (v : List Node) → walk (are.nodes n q).before ≡ Some v
      → (m : Named) → Contains (map named v) m → quiet m ≡ true
  within_quiet zero n q low v e m c = absurd (omega (arith, low))
  within_quiet (suc k) n q low v e m c =
      by (λ l p under u f w i. within_quiet k l p under u f w i) (is_clock_port d (was n q).pin) (sym (walk_is d place are.placed short (was n q) (before_in d d2 place place2 quiet are n q)) ∙ e)
    where
      self : (m : Named) → named (was n q) ≡ m → quiet m ≡ true
      self m same = ap quiet (sym (sym (was_named n q) ∙ same)) ∙ q

      by : ((l : Named) (p : quiet l ≡ true) → place (are.nodes l p).before < k → (u : List Node) → walk (are.nodes l p).before ≡ Some u → (m : Named) → Contains (map named u) m → quiet m ≡ true)
          → (b : Bool) → (if b then Some ((was n q) ∷ []) else first_some (λ from. longer (was n q) (walk from)) (arcs_in d (was n q))) ≡ Some v → quiet m ≡ true
      by again true f = elim (in_cases (named (was n q)) [] m (subst (λ (w : List Node). Contains (map named w) m) (sym (some_is f)) c)) [
        | inl same ↦ self m same
        | inr none ↦ absurd (none_in m none)
      ]
      by again false f =
          let from = first_back (λ from. longer (was n q) (walk from)) (arcs_in d (was n q)) v f in
          let u = longer_back (was n q) (walk from.0) v from.2 in
          let p = pair_from (IsArcPair d d2 (was n q) (are.nodes n q).after) (arcs_in d (was n q)) (arcs_in d2 (are.nodes n q).after) (arcs_kept d d2 (was n q) (are.nodes n q).after (are.nodes n q).calm) from.0 from.1 in
          let q2 = pair_quiet d d2 place place2 quiet are n q from.0 p.0 p.1.1 in
          let is = from_is d d2 place place2 quiet are n q from.0 p.0 p.1.1 in
          let up = are.placed.rising (was n q) (before_in d d2 place place2 quiet are n q) from.0 from.1 in
          elim (in_longer u.0 (was n q) m (subst (λ (w : List Node). Contains (map named w) m) (sym u.2) c)) [
            | inl here ↦
                again (named p.0) q2 (subst (λ (y : Node). place y < k) (sym is) (omega (arith, up, low))) u.0 (ap walk is ∙ u.1) m here
            | inr last ↦ self m last
          ]

  -- the nodes of the walk to a clock node
  pub walk_quiet : (n : Named) (q : quiet n ≡ true) (v : List Node) → network_walk d (are.nodes n q).before ≡ Some v → (m : Named) → Contains (map named v) m → quiet m ≡ true
  unfolding network_walk
  walk_quiet n q v e m c = within_quiet (suc (place (are.nodes n q).before)) n q (omega arith) v (on (is_network d (are.nodes n q).before.pin) e) m c
    where
      on : (b : Bool) → (if b then walk (are.nodes n q).before else None) ≡ Some v → walk (are.nodes n q).before ≡ Some v
      on true f = f
      on false f = absurd (cc)

-- what stands where both of two are there
then_back : {X Y : Type 0} (f : X → Option Y) (o : Option X) (y : Y) → option_and_then f o ≡ Some y → (x : X) × (o ≡ Some x) × (f x ≡ Some y)
then_back f None y e = absurd (cc)
then_back f (Some x) y e = (x, refl, e)

map_back : {X Y : Type 0} (f : X → Y) (o : Option X) (y : Y) → option_map f o ≡ Some y → (x : X) × (o ≡ Some x) × (f x ≡ y)
map_back f None y e = absurd (cc)
map_back f (Some x) y e = (x, refl, some_is e)

-- a test has the walk that it is made along
walk_of : (d : Design) (kind : Kind) (i : Inst) (target clock : Node) (v : List Node) (a : Test) → test_along d kind i target clock v ≡ Some a → a.walk ≡ v
walk_of d kind i target clock v a e =
    let edge = then_back (λ edge. option_and_then (λ need. option_and_then (λ early. option_map (test_on clock v edge need early) (arrival d Late clock edge)) (arrival d Early clock edge)) (need_at d kind i target clock)) (first_edge d v) a e in
    let need = then_back (λ need. option_and_then (λ early. option_map (test_on clock v edge.0 need early) (arrival d Late clock edge.0)) (arrival d Early clock edge.0)) (need_at d kind i target clock) a edge.2 in
    let early = then_back (λ early. option_map (test_on clock v edge.0 need.0 early) (arrival d Late clock edge.0)) (arrival d Early clock edge.0) a need.2 in
    let late = map_back (test_on clock v edge.0 need.0 early.0) (arrival d Late clock edge.0) a early.2 in
    sym (ap (λ (t : Test). t.walk) late.2)

module _ (d d2 : Design) (place place2 : Node → ℕ) (quiet : Named → Bool) (are : AreQuietNodes d d2 place place2 quiet)
    (short : (n : Node) → Stands d n → place n < length (nodes d)) (short2 : (n : Node) → Stands d2 n → place2 n < length (nodes d2)) where
  module _ (x : Node) (x_in : Stands d x) (kind : Kind) (left : AreLeftClocks d d2 place place2 quiet are short short2 x kind) where
    registers_quiet : (i : Inst) → x.pin.owner ≡ Some i → (a : Test) → Contains (register_tests d kind x i) a → (m : Named) → Contains (map named a.walk) m → quiet m ≡ true
    registers_quiet i owner a c m inside =
        let r = in_filter_map_back (λ clock. option_and_then (test_along d kind i x clock) (network_walk d clock))
        (filter (λ clock. nat_lt 0 (length (library_tests d kind i x clock))) (flat_map both_nodes (inst_pins d i))) a c in
        let all = kept_in (λ clock. nat_lt 0 (length (library_tests d kind i x clock))) (flat_map both_nodes (inst_pins d i)) r.item r.within in
        let tested = passes_in (λ clock. nat_lt 0 (length (library_tests d kind i x clock))) (flat_map both_nodes (inst_pins d i)) r.item r.within in
        let b = in_flat_map_back both_nodes (inst_pins d i) r.item all in
        let pin : b.item ≡ r.item.pin = sym (of_both b.item r.item b.inside) in
        let there : Stands d r.item =
        subst (λ (p : Pin). Contains (pins d) p) pin
        (Contains-append_right (map port_pin d.ports) (flat_map (inst_pins d) d.insts) b.item (in_flat_map (inst_pins d) d.insts i b.item (owner_within d are.linked x.pin i x_in owner) b.within)) in
        let v = then_back (test_along d kind i x r.item) (network_walk d r.item) a r.same in
        elim (left.clocks i owner r.item all tested) [
          | inl q ↦
              let it = named_in d (named r.item) (are.nodes (named r.item) q).before (are.nodes (named r.item) q).told in
              let is : (are.nodes (named r.item) q).before ≡ r.item = one_node d are.linked (are.nodes (named r.item) q).before r.item it.0 there it.1.0 it.1.1 in
              walk_quiet d d2 place place2 quiet are short (named r.item) q v.0 (ap (network_walk d) is ∙ v.1) m
              (subst (λ (w : List Node). Contains (map named w) m) (walk_of d kind i x r.item v.0 a v.2) inside)
          | inr off ↦ absurd (never v.0 (sym (off_walk d are.linked r.item there off.0) ∙ v.1))
        ]
      where
        never : (w : List Node) → None ≡ Some w → ⊥
        never w e = cc

        of_both : (p : Pin) (n : Node) → Contains (both_nodes p) n → n.pin ≡ p
        of_both p n c = elim (in_cases (record { pin = p; tran = Rise }) (record { pin = p; tran = Fall } ∷ []) n c) [
          | inl e ↦ ap (λ (y : Node). y.pin) (sym e)
          | inr e ↦ elim (in_cases (record { pin = p; tran = Fall }) [] n e) [ inl f ↦ ap (λ (y : Node). y.pin) (sym f) | inr none ↦ absurd (none_in n none) ]
        ]

    ports_quiet : (a : Test) → Contains (port_tests d kind x) a → (m : Named) → Contains (map named a.walk) m → quiet m ≡ true
    ports_quiet a c m inside =
        let r = in_map_back (output_test kind) (filter (λ o. bytes_eq o.port x.pin.own && same_split o.split (data_split kind) && same_tran o.tran x.tran) d.constraints.outputs) a c in
        absurd (none_in m (subst (λ (t : Test). Contains (map named t.walk) m) (sym r.same) inside))

    -- the nodes of the walks of an endpoint's tests
    pub tests_quiet : (a : Test) → Contains (tests_at d kind x) a → (m : Named) → Contains (map named a.walk) m → quiet m ≡ true
    unfolding tests_at
    tests_quiet a c m inside = by (is_driver x.pin) c
      where
        owned : (o : Option Inst) → x.pin.owner ≡ o → Contains (option_map_or (register_tests d kind x) o (port_tests d kind x)) a → quiet m ≡ true
        owned None e k = ports_quiet a k m inside
        owned (Some i) e k = registers_quiet i e a k m inside

        by : (b : Bool) → Contains (if b then [] else option_map_or (register_tests d kind x) x.pin.owner (port_tests d kind x)) a → quiet m ≡ true
        by true k = absurd (none_in a k)
        by false k = owned x.pin.owner refl k
