-- The common beginning of a path and a walk by numbers is that by names, and so is the credit.

use Rattle.std.proofs.Common.{◌≡◌, ℕ, zero, suc, ◌+◌, ◌<◌, ◌≤◌, ℤ, pos, ◌-ℤ◌, Bool, true, false, List, [], ◌∷◌, map, length, drop, get_or, Option, None, Some, refl, sym, ap, subst, ◌∙◌, inl, inr, arith}
use Rattle.std.specs.Prelude.{All, Contains, IfSome, nat_eq, ◌&&◌, if◌then◌else◌, option_map, option_and_then}
use Rattle.std.specs.Option.{option_map_or}
use Rattle.std.specs.Str.{bytes_eq}
use Rattle.std.proofs.lemmas.Bool.{cases_Bool, false≢true, and_from, eqb-true, eq-eqb}
use Rattle.std.proofs.lemmas.List.Elements.{All-nil, All-cons}
use Rattle.timing_defs.specs.declared.kinds.Split.TheVariants.{Early, Late}
use Rattle.timing_defs.specs.declared.kinds.Tran.{Tran}
use Rattle.timing_defs.specs.declared.design.Design.{Design}
use Rattle.timing_defs.specs.Netlist.{Pin, Node, name_of, same_tran, pin_named, pins}
use Rattle.timing_defs.specs.RowTimes.{time_on, times_in}
use Rattle.timing_defs.proofs.Members.{some_is, found_passes}
use Rattle.timing_defs.proofs.SameNames.{same_is, same_self}
use Rattle.timing_rules.specs.Rows.{row, empty_row, arrival}
use Rattle.timing_rules.specs.Tests.{Test}
use Rattle.timing_rules.specs.Paths.{Named, named, node_named, same_named, last_common, spread_at, credit}
use Rattle.netlist_store.specs.Linked.{IsLinked}
use Rattle.netlist_store.specs.Numbering.{Stored, IsNumbered}
use Rattle.node_tests.specs.declared.node_test.NodeTest.{NodeTest}
use Rattle.pin_graph.specs.Nodes.{node_at, node_number, tran_under}
use Rattle.pin_graph.proofs.JoinLaws.{mapped_back}
use Rattle.pin_graph.proofs.NodeLaws.{HasNode, has_node}
use Rattle.path_search.proofs.NodeNames.{named_is}
use Rattle.store_pins.proofs.PinLaws.{pin_found}
use Rattle.timed_paths.specs.Numbers.{number_named}
use Rattle.timed_paths.specs.TestNumbers.{walk_of, test_of, same_number, last_same, spread_of, time_numbered, spread_numbered}
use Rattle.timed_paths.proofs.NumberLaws.{tran_self, numbered_node}

-- a node of a name has it
name_found : (d : Design) (x : Named) (n : Node) → node_named d x ≡ Some n → named n ≡ x
name_found d x n e =
    let m = mapped_back (λ (pin : Pin). record { pin = pin; tran = x.1 }) (pin_named d x.0) n e in
    let pin : m.0 ≡ n.pin = ap (λ (a : Node). a.pin) m.2 in
    let tran : x.1 ≡ n.tran = ap (λ (a : Node). a.tran) m.2 in
    let name : name_of n.pin ≡ x.0 =
    ap name_of (sym pin) ∙ same_is (name_of m.0) x.0 (found_passes (λ (q : Pin). bytes_eq (name_of q) x.0) (pins d) m.0 m.1) in
    let back : n.tran ≡ x.1 = sym tran in
    λ k. (name k, back k)

module _ (s : Stored) (num : IsNumbered s) (linked : IsLinked s.design) where
  -- a node has its number by its name
  number_back : (k : ℕ) (node : Node) → node_at s k ≡ Some node → number_named s (named node) ≡ Some k
  number_back k node e =
      let h = has_node s num linked k node e in
      ap (option_map (λ pin. node_number pin node.tran)) h.has.number ∙ ap Some (sym h.number)

  named_there : (k : ℕ) (node : Node) → node_at s k ≡ Some node → node_named s.design (named node) ≡ Some node
  named_there k node e =
      let h = has_node s num linked k node e in
      ap (option_map (λ (pin : Pin). record { pin = pin; tran = node.tran })) (pin_found s num linked node.pin h.has.within)

  self_named : (a : Named) → same_named a a ≡ true
  self_named a = and_from (bytes_eq a.0 a.0) (same_tran a.1 a.1) (same_self a.0) (tran_self a.1)

  -- one node, by number and by name
  both_same : (a : Named) (b : ℕ) (node : Node) → node_at s b ≡ Some node → (more last : Option ℕ)
      → same_number (number_named s a) b more last ≡ (if same_named a (named node) then more else last)
  both_same a b node e more last = elim (cases_Bool (same_named a (named node))) [
    | inl alike ↦
        let n : number_named s a ≡ Some b = ap (number_named s) (named_is a (named node) alike) ∙ number_back b node e in
        ap (λ o. same_number o b more last) n
        ∙ ap (λ t. if t then more else last) (eq-eqb b b refl)
        ∙ sym (ap (λ t. if t then more else last) alike)
    | inr differ ↦ by differ (number_named s a) refl ∙ sym (ap (λ t. if t then more else last) differ)
  ]
    where
      by : same_named a (named node) ≡ false → (o : Option ℕ) → number_named s a ≡ o → same_number (number_named s a) b more last ≡ last
      by differ None f = ap (λ o. same_number o b more last) f
      by differ (Some k) f = ap (λ o. same_number o b more last) f ∙ at (nat_eq k b) refl
        where
          at : (t : Bool) → nat_eq k b ≡ t → (if nat_eq k b then more else last) ≡ last
          at false g = ap (λ t. if t then more else last) g
          at true g =
              let k_is : k ≡ b = eqb-true k b g in
              let its : node_named s.design a ≡ Some node = sym (numbered_node s a k f) ∙ ap (node_at s) k_is ∙ e in
              let m : a ≡ named node = sym (name_found s.design a node its) in
              absurd (false≢true (sym differ ∙ ap (λ x. same_named x (named node)) m ∙ self_named (named node)))

  -- the common beginning
  common_is : (path : List Named) (ks : List ℕ) (walk : List Node) → map (node_at s) ks ≡ map Some walk → (last : Option ℕ) (name : Option Named)
      → name ≡ option_and_then (λ k. option_map named (node_at s k)) last
      → last_common name path (map named walk) ≡ option_and_then (λ k. option_map named (node_at s k)) (last_same last (map (number_named s) path) ks)
  common_is [] ks walk e last name had = had
  common_is (a ∷ path) [] [] e last name had = had
  common_is (a ∷ path) [] (w ∷ walk) e last name had = absurd (cc)
  common_is (a ∷ path) (k ∷ ks) [] e last name had = absurd (cc)
  common_is (a ∷ path) (k ∷ ks) (w ∷ walk) e last name had =
      let here : node_at s k ≡ Some w = cc in
      let rest : map (node_at s) ks ≡ map Some walk = cc in
      by (same_named a (named w)) refl here
      (common_is path ks walk rest (Some k) (Some a))
    where
      by : (t : Bool) → same_named a (named w) ≡ t → node_at s k ≡ Some w
          → (Some a ≡ option_map named (node_at s k) → last_common (Some a) path (map named walk) ≡ option_and_then (λ k. option_map named (node_at s k)) (last_same (Some k) (map (number_named s) path) ks))
          → (if same_named a (named w) then last_common (Some a) path (map named walk) else name)
          ≡ option_and_then (λ k. option_map named (node_at s k)) (same_number (number_named s a) k (last_same (Some k) (map (number_named s) path) ks) last)
      by true f here more =
          let its : Some a ≡ option_map named (node_at s k) = ap Some (named_is a (named w) f) ∙ sym (ap (option_map named) here) in
          ap (λ t. if t then last_common (Some a) path (map named walk) else name) f
          ∙ more its
          ∙ sym (ap (option_and_then (λ k. option_map named (node_at s k))) (both_same a k w here (last_same (Some k) (map (number_named s) path) ks) last
          ∙ ap (λ t. if t then last_same (Some k) (map (number_named s) path) ks else last) f))
      by false f here more =
          ap (λ t. if t then last_common (Some a) path (map named walk) else name) f
          ∙ had
          ∙ sym (ap (option_and_then (λ k. option_map named (node_at s k))) (both_same a k w here (last_same (Some k) (map (number_named s) path) ks) last
          ∙ ap (λ t. if t then last_same (Some k) (map (number_named s) path) ks else last) f))

  -- the last of it stands in the walk
  same_in : (path : List (Option ℕ)) (ks : List ℕ) (P : ℕ → Type 0) → All P ks → (last : Option ℕ) → IfSome last P → IfSome (last_same last path ks) P
  same_in [] ks P fine last h = h
  same_in (a ∷ path) [] P fine last h = h
  same_in (a ∷ path) (k ∷ ks) P fine last h = by a (same_in path ks P (λ i d l. fine (suc i) d (omega (arith, l))) (Some k) (fine 0 k (omega arith)))
    where
      by : (o : Option ℕ) → IfSome (last_same (Some k) path ks) P → IfSome (same_number o k (last_same (Some k) path ks) last) P
      by None more = h
      by (Some x) more = at (nat_eq x k)
        where
          at : (t : Bool) → IfSome (if t then last_same (Some k) path ks else last) P
          at true = more
          at false = h

  -- each number of the walk is of a node
  all_nodes : (ks : List ℕ) (ns : List Node) → map (node_at s) ks ≡ map Some ns → All (λ k. (n : Node) × (node_at s k ≡ Some n)) ks
  all_nodes [] ns e = All-nil (λ k. (n : Node) × (node_at s k ≡ Some n))
  all_nodes (k ∷ ks) [] e = absurd (cc)
  all_nodes (k ∷ ks) (n ∷ ns) e =
      let here : node_at s k ≡ Some n = cc in
      let rest : map (node_at s) ks ≡ map Some ns = cc in
      All-cons (λ k. (n : Node) × (node_at s k ≡ Some n)) k ks (n, here) (all_nodes ks ns rest)

  pub common_low : (path : List (Option ℕ)) (ks : List ℕ) (P : ℕ → Type 0) → All P ks → (k : ℕ) → last_same None path ks ≡ Some k → P k
  common_low path ks P fine k e = subst (λ o. IfSome o P) e (same_in path ks P fine None tt)

  -- late less early arrival
  spread_is : (edge : ℕ × Tran) (k : ℕ) (node : Node) → node_at s k ≡ Some node → spread_numbered s edge k ≡ spread_at s.design edge (named node)
  spread_is edge k node e =
      ap (λ o. spread_of (time_on (times_in Late (option_map_or (row s.design) o empty_row)) edge) (time_on (times_in Early (option_map_or (row s.design) o empty_row)) edge)) e
      ∙ by (arrival s.design Late node edge) (arrival s.design Early node edge)
      ∙ sym (ap (λ o. option_map_or (λ n. option_map_or (λ late. option_map_or (λ early. late -ℤ early) (arrival s.design Early n edge) (pos 0)) (arrival s.design Late n edge) (pos 0)) o (pos 0))
      (named_there k node e))
    where
      by : (late early : Option ℤ) → spread_of late early ≡ option_map_or (λ l. option_map_or (λ m. l -ℤ m) early (pos 0)) late (pos 0)
      by None early = refl
      by (Some l) None = refl
      by (Some l) (Some m) = refl

  -- the credit
  module _ (told : NodeTest) (ks : List ℕ) (walk : map (node_at s) ks ≡ map Some (walk_of s told.clock)) (edge : ℕ × Tran) (path : List (Option ℕ)) (last : Option ℕ)
      (found : last ≡ last_same None path ks) where
    common_here : (names : List Named) → path ≡ map (number_named s) names
        → last_common None names (map named (walk_of s told.clock)) ≡ option_and_then (λ k. option_map named (node_at s k)) last
    common_here names e =
        common_is names ks (walk_of s told.clock) walk None None refl
        ∙ ap (option_and_then (λ k. option_map named (node_at s k))) (ap (λ xs. last_same None xs ks) (sym e) ∙ sym found)

    pub credit_none : last ≡ None → (names : List Named) → path ≡ map (number_named s) names → pos 0 ≡ credit s.design names edge (test_of s told)
    credit_none f names e =
        sym (ap (λ o. option_map_or (spread_at s.design edge) o (pos 0)) (common_here names e ∙ ap (option_and_then (λ k. option_map named (node_at s k))) f))

    pub credit_some : (k : ℕ) → last ≡ Some k → (value : ℤ) → value ≡ spread_numbered s edge k
        → (names : List Named) → path ≡ map (number_named s) names → value ≡ credit s.design names edge (test_of s told)
    credit_some k f value v names e =
        let node = common_low path ks (λ x. (n : Node) × (node_at s x ≡ Some n)) (all_nodes ks (walk_of s told.clock) walk) k (sym found ∙ f) in
        v ∙ spread_is edge k node.0 node.1
        ∙ sym (ap (λ o. option_map_or (spread_at s.design edge) o (pos 0))
        (common_here names e ∙ ap (option_and_then (λ k. option_map named (node_at s k))) f ∙ ap (option_map named) node.1))

-- a walk that is over
drop_past : (ys : List ℕ) (i : ℕ) → length ys ≤ i → drop i ys ≡ []
drop_past [] zero low = refl
drop_past [] (suc i) low = refl
drop_past (y ∷ ys) zero low = absurd (omega (arith, low))
drop_past (y ∷ ys) (suc i) low = drop_past ys i (omega (arith, low))

pub common_short : (last : Option ℕ) (xs : List (Option ℕ)) (ys : List ℕ) (i : ℕ) → length ys ≤ i → last_same last xs (drop i ys) ≡ last
common_short last xs ys i low = ap (last_same last xs) (drop_past ys i low) ∙ by xs
  where
    by : (zs : List (Option ℕ)) → last_same last zs [] ≡ last
    by [] = refl
    by (z ∷ zs) = refl
