-- The first nodes by their numbers: each is a backward one, and every node is among them that is evaluated whatever lies behind it.

use Rattle.std.proofs.Common.{◌≡◌, ◌⊎◌, ℕ, ◌<◌, ◌==◌, Bool, true, false, ◌&&◌, ◌||◌, List, [], ◌∷◌, get_or, All, Option, None, Some, refl, sym, ap, subst, ◌∙◌, inl, inr}
use Rattle.std.specs.Prelude.{Contains, find, is_some, nat_eq, nat_lt, option_map, option_and_then}
use Rattle.std.specs.List.{list_any}
use Rattle.std.specs.Option.{option_map_or}
use Rattle.std.specs.Str.{bytes_eq}
use Rattle.std.proofs.lemmas.Bool.{cases_eq, or_cases, and_parts, and_from, eq-eqb, ne_eqb, eqb-true, lt-ltb, ltb-true, true≢false}
use Rattle.std.proofs.lemmas.List.Elements.{All-contains_itself}
use Rattle.timing_defs.specs.declared.kinds.Split.TheVariants.{Late}
use Rattle.timing_defs.specs.declared.kinds.Tran.{Tran}
use Rattle.timing_defs.specs.declared.kinds.Dir.TheVariants.{Input}
use Rattle.timing_defs.specs.declared.library.Cell.{Cell}
use Rattle.timing_defs.specs.declared.library.CellPin.{CellPin}
use Rattle.timing_defs.specs.declared.library.CellTest.{CellTest}
use Rattle.timing_defs.specs.declared.netlist.Inst.{Inst}
use Rattle.timing_defs.specs.declared.design.Design.{Design}
use Rattle.timing_defs.specs.Netlist.{Pin, Node, name_of, full_name, same_dir, same_tran, cell_of, cell_pin, cell_pins, pins, nodes}
use Rattle.timing_rules.specs.Clocking.{cell_tests}
use Rattle.timing_rules.specs.Rows.{arcs_in}
use Rattle.timing_rules.specs.Required.{arcs_out}
use Rattle.timing_defs.specs.Lookup.{is_well_formed}
use Rattle.timing_defs.specs.Documents.{is_cell_test, has_pin, is_pin_of}
use Rattle.timing_rules.specs.Paths.{named, node_named, same_named}
use Rattle.timing_defs.specs.Touches.{Touch}
use Rattle.timing_rules.specs.Cones.{is_seed, row_differs, back_differs, led_to_before, leads_to_seed, tests_by, is_tested_by, has_changed_clock, is_backward}
use Rattle.timing_defs.proofs.SameNames.{same_is, same_self}
use Rattle.timing_defs.proofs.Members.{some_is, none_in, any_in, any_back, all_in, found_in, found_passes}
use Rattle.timing_defs.specs.Edits.{inst_named}
use Rattle.netlist_store.specs.Linked.{IsLinked}
use Rattle.netlist_store.specs.Numbering.{Stored, IsNumbered, number_of, name_at, is_number, inst_numbered, owner_number, pin_numbered}
use Rattle.netlist_store.specs.Applying.{IsEditOf}
use Rattle.eco_laws.proofs.EditOf.{numbers_kept}
use Rattle.calm_laws.proofs.CellNodes.{tran_is}
use Rattle.calm_laws.proofs.InDesign.{self_tran, node_within, pin_within}
use Rattle.pin_graph.specs.Nodes.{node_at, node_bound, node_number, number_at, pin_under, tran_under}
use Rattle.pin_graph.specs.Graphs.{Graphed, IsGraph, fan_at, of_node}
use Rattle.pin_graph.specs.Seeds.{AreSeeds}
use Rattle.store_pins.proofs.PinLaws.{HasNumber, pin_found, pin_told, pin_at_number, inst_found, inst_told, inst_of_number, own_in, own_back, clocking}
use Rattle.store_pins.proofs.PinNames.{tests_good}
use Rattle.pin_graph.proofs.JoinLaws.{then_back}
use Rattle.pin_graph.proofs.NodeLaws.{HasNode, under_number, tran_of_number, has_node, node_told, node_below, same_node_at, one_number}
use Rattle.required_engine.specs.Updated.{AreThose, AreFirst, is_first, is_in, is_tail, is_tail_at, is_tail_of, is_own, is_data, is_data_by, is_clocked_at, is_clocked_of, is_first_of}
use Rattle.required_engine.proofs.BackLaws.{in_out}
use Rattle.required_engine.proofs.BackCone.{stood, was_linked, now_linked, base_node, onto}

same_eq : (a b : ℕ) → nat_eq a b ≡ (b == a)
same_eq a b = elim (cases_eq a b) [
  | inl e ↦ rw (eq-eqb a b e, eq-eqb b a (sym e)) refl
  | inr other ↦ rw (ne_eqb a b other, ne_eqb b a (λ e. other (sym e))) refl
]

pub in_told : (n : ℕ) (xs : List ℕ) → list_any (nat_eq n) xs ≡ is_in xs n
in_told n [] = refl
in_told n (x ∷ xs) = (λ k. same_eq n x k || in_told n xs k)

one_in : (xs : List ℕ) (n : ℕ) → is_in xs n ≡ true → Contains xs n
one_in xs n e = let r = any_back (λ y. y == n) xs e in subst (λ x. Contains xs x) (eqb-true r.item n r.passes) r.within

in_one : (xs : List ℕ) (n : ℕ) → Contains xs n → is_in xs n ≡ true
in_one xs n c = any_in (λ y. y == n) xs n c (eq-eqb n n refl)

or_left : (a b : Bool) → a ≡ true → (a || b) ≡ true
or_left true b e = refl
or_left false b e = absurd (true≢false (sym e))

or_right : (a b : Bool) → b ≡ true → (a || b) ≡ true
or_right true b e = refl
or_right false b e = e

six : (a b c d e f : Bool) → (b ≡ true) ⊎ ((c ≡ true) ⊎ ((d ≡ true) ⊎ ((e ≡ true) ⊎ (f ≡ true)))) → (a || b || c || d || e || f) ≡ true
six true b c d e f x = refl
six false true c d e f x = refl
six false false true d e f x = refl
six false false false true e f x = refl
six false false false false true f x = refl
six false false false false false f (inl x) = absurd (true≢false (sym x))
six false false false false false f (inr (inl x)) = absurd (true≢false (sym x))
six false false false false false f (inr (inr (inl x))) = absurd (true≢false (sym x))
six false false false false false f (inr (inr (inr (inl x)))) = absurd (true≢false (sym x))
six false false false false false f (inr (inr (inr (inr x)))) = x

four : (a b c e : Bool) → a ≡ true → b ≡ true → c ≡ true → e ≡ true → (a && b && c && e) ≡ true
four a b c e f g h i = rw (f, g, h, i) refl

module _ (s : Stored) (num : IsNumbered s) (linked : IsLinked s.design) where
  abbrev d : Design
  d = s.design

  -- what a test of the nodes of a store says of a number
  pub node_of : (p : Node → Bool) (n : ℕ) → of_node s p n ≡ true → (node : Node) × ((node_at s n ≡ Some node) × (p node ≡ true))
  node_of p n e = by (node_at s n) refl
    where
      by : (o : Option Node) → node_at s n ≡ o → (node : Node) × ((node_at s n ≡ Some node) × (p node ≡ true))
      by None f = absurd (true≢false (sym e ∙ ap (λ o. option_map_or p o false) f))
      by (Some node) f = (node, (f, sym (ap (λ o. option_map_or p o false) f) ∙ e))

  pub of_told : (p : Node → Bool) (n : ℕ) (node : Node) → node_at s n ≡ Some node → of_node s p n ≡ p node
  of_told p n node f = ap (λ o. option_map_or p o false) f

  pub number_there : (n : ℕ) (node : Node) → node_at s n ≡ Some node → is_number s.pins (pin_under n) ≡ true
  number_there n node e =
      let h = has_node s num linked n node e in
      ap (λ k. is_number s.pins (pin_under k)) h.number ∙ ap (is_number s.pins) (under_number h.pin node.tran) ∙ ap is_some h.has.name

  pub node_there : (n : ℕ) → is_number s.pins (pin_under n) ≡ true → (node : Node) × (node_at s n ≡ Some node)
  node_there n e =
      let p = pin_at_number s num linked (pin_under n) e in
      (record { pin = p.0; tran = tran_under n }, ap (option_map (λ (q : Pin). record { pin = q; tran = tran_under n })) p.1.pin)

  -- the node of an instance, by the name of its pin in the cell
  own_told : (inst : Inst) → Contains d.insts inst → (q : CellPin) → Contains (cell_pins (cell_of d Late inst)) q → (own : List ℕ) → q.name ≡ own → (tran : Tran) (n : ℕ)
      → is_own s inst n own tran ≡ true → node_at s n ≡ Some (record { pin = cell_pin inst q; tran = tran })
  own_told inst there q c own name tran n e = by (number_at s (full_name (Some inst) own) tran) refl
    where
      at : (k : ℕ) × HasNumber s (cell_pin inst q) k
      at = pin_told s num linked (cell_pin inst q) (own_in d linked inst q there c)

      by : (o : Option ℕ) → number_at s (full_name (Some inst) own) tran ≡ o → node_at s n ≡ Some (record { pin = cell_pin inst q; tran = tran })
      by None f = absurd (true≢false (sym e ∙ ap (λ o. option_map_or (λ k. k == n) o false) f))
      by (Some k) f =
          let same : k ≡ n = eqb-true k n (sym (ap (λ o. option_map_or (λ j. j == n) o false) f) ∙ e) in
          let told : number_at s (full_name (Some inst) own) tran ≡ Some (node_number at.0 tran) =
          ap (λ w. option_map (λ (pin : ℕ). node_number pin tran) (number_of s.pins (full_name (Some inst) w))) (sym name)
          ∙ ap (option_map (λ (pin : ℕ). node_number pin tran)) at.1.number in
          node_told s (record { pin = cell_pin inst q; tran = tran }) n (record { pin = at.0; has = at.1; number = sym same ∙ some_is (sym f ∙ told) })

  told_own : (inst : Inst) (node : Node) → node.pin.owner ≡ Some inst → (n : ℕ) → node_at s n ≡ Some node → is_own s inst n node.pin.own node.tran ≡ true
  told_own inst node own n e =
      let h = has_node s num linked n node e in
      let named_so : full_name (Some inst) node.pin.own ≡ name_of node.pin = ap (λ o. full_name o node.pin.own) (sym own) in
      ap (λ o. option_map_or (λ k. k == n) o false)
      (ap (λ w. option_map (λ (pin : ℕ). node_number pin node.tran) (number_of s.pins w)) named_so
      ∙ ap (option_map (λ (pin : ℕ). node_number pin node.tran)) h.has.number)
      ∙ eq-eqb (node_number h.pin node.tran) n (sym h.number)

  -- the pins of a test's nodes
  test_cell : (inst : Inst) (test : CellTest) → Contains (cell_tests (cell_of d Late inst)) test → (cell : Cell) × ((cell_of d Late inst ≡ Some cell) × Contains cell.tests test)
  test_cell inst test c = by (cell_of d Late inst) refl
    where
      by : (o : Option Cell) → cell_of d Late inst ≡ o → (cell : Cell) × ((cell_of d Late inst ≡ Some cell) × Contains cell.tests test)
      by None e = absurd (none_in test (subst (λ o. Contains (cell_tests o) test) e c))
      by (Some cell) e = (cell, (e, subst (λ o. Contains (cell_tests o) test) e c))

  clock_pin : (inst : Inst) (test : CellTest) → Contains (cell_tests (cell_of d Late inst)) test → (q : CellPin) × (Contains (cell_pins (cell_of d Late inst)) q × (q.name ≡ test.clock))
  clock_pin inst test c =
      let k = test_cell inst test c in
      let q = clocking d linked inst k.0 test k.1.0 k.1.1 in
      (q.0, (subst (λ o. Contains (cell_pins o) q.0) (sym k.1.0) q.1, q.2))

  data_pin : (inst : Inst) (test : CellTest) → Contains (cell_tests (cell_of d Late inst)) test → (q : CellPin) × (Contains (cell_pins (cell_of d Late inst)) q × (q.name ≡ test.pin))
  data_pin inst test c =
      let k = test_cell inst test c in
      let good : is_cell_test k.0 test ≡ true = all_in (is_cell_test k.0) k.0.tests test (tests_good d.late linked.late k.0 inst.cell k.1.0) k.1.1 in
      let one = and_parts (has_pin k.0 Input test.pin && is_pin_of k.0 test.clock) (is_well_formed test.need) good in
      let two = and_parts (has_pin k.0 Input test.pin) (is_pin_of k.0 test.clock) one.0 in
      let q = pointed (find (λ (p : CellPin). bytes_eq p.name test.pin) k.0.pins) two.0 in
      (q.0, (subst (λ o. Contains (cell_pins o) q.0) (sym k.1.0) (found_in (λ (p : CellPin). bytes_eq p.name test.pin) k.0.pins q.0 q.1), same_is q.0.name test.pin (found_passes (λ (p : CellPin). bytes_eq p.name test.pin) k.0.pins q.0 q.1)))
    where
      pointed : (o : Option CellPin) → option_map_or (same_dir Input) (option_map (λ p. p.dir) o) false ≡ true → (p : CellPin) × (o ≡ Some p)
      pointed None h = absurd (true≢false (sym h))
      pointed (Some p) h = (p, refl)

  -- the instance of a node, by the node's number
  owner_of : (n : ℕ) (node : Node) → node_at s n ≡ Some node → (inst : Inst) → node.pin.owner ≡ Some inst
      → option_and_then (inst_numbered s) (owner_number s (pin_under n)) ≡ Some inst
  owner_of n node e inst own =
      let h = has_node s num linked n node e in
      let it = own_back d linked node.pin inst h.has.within own in
      let i = inst_told s num linked inst it.inst in
      let at : pin_numbered s (pin_under n) ≡ Some node.pin = ap (λ k. pin_numbered s (pin_under k)) h.number ∙ ap (pin_numbered s) (under_number h.pin node.tran) ∙ h.has.pin in
      ap (λ o. option_and_then (inst_numbered s) (option_and_then (λ (j : Inst). number_of s.insts j.name) (option_and_then (λ (p : Pin). p.owner) o))) at
      ∙ ap (λ o. option_and_then (inst_numbered s) (option_and_then (λ (j : Inst). number_of s.insts j.name) o)) own
      ∙ ap (option_and_then (inst_numbered s)) i.1.number ∙ i.1.inst

  -- a data node and its clock node, by their numbers
  pub record IsClocked (n m : ℕ) : Type 0 where
    pub target : Node
    pub target_told : node_at s n ≡ Some target
    pub clock : Node
    pub clock_told : node_at s m ≡ Some clock
    pub inst : Inst
    pub owned : target.pin.owner ≡ Some inst
    pub tested : is_tested_by d target clock inst ≡ true

  pub clocked_is : (n m : ℕ) → is_clocked_at s n m ≡ true → IsClocked n m
  clocked_is n m e = by (option_and_then (inst_numbered s) (owner_number s (pin_under m))) refl
    where
      by : (o : Option Inst) → option_and_then (inst_numbered s) (owner_number s (pin_under m)) ≡ o → IsClocked n m
      by None f = absurd (true≢false (sym e ∙ ap (λ o. option_map_or (is_data_by s m n) o false) f))
      by (Some inst) f =
          let i = then_back (inst_numbered s) (owner_number s (pin_under m)) inst f in
          let there = inst_of_number s num linked i.0 inst i.2 in
          let t = any_back (is_data s inst m n) (cell_tests (cell_of d Late inst)) (sym (ap (λ o. option_map_or (is_data_by s m n) o false) f) ∙ e) in
          let parts = and_parts (is_own s inst m t.item.clock t.item.active) (is_own s inst n t.item.pin t.item.tran) t.passes in
          let q = clock_pin inst t.item t.within in
          let r = data_pin inst t.item t.within in
          record {
            target = record { pin = cell_pin inst r.0; tran = t.item.tran };
            target_told = own_told inst there.within r.0 r.1.0 t.item.pin r.1.1 t.item.tran n parts.1;
            clock = record { pin = cell_pin inst q.0; tran = t.item.active };
            clock_told = own_told inst there.within q.0 q.1.0 t.item.clock q.1.1 t.item.active m parts.0;
            inst = inst;
            owned = refl;
            tested =
                and_from (bytes_eq inst.name inst.name) (list_any (tests_by (record { pin = cell_pin inst r.0; tran = t.item.tran }) (record { pin = cell_pin inst q.0; tran = t.item.active })) (cell_tests (cell_of d Late inst)))
                (same_self inst.name)
                (any_in (tests_by (record { pin = cell_pin inst r.0; tran = t.item.tran }) (record { pin = cell_pin inst q.0; tran = t.item.active })) (cell_tests (cell_of d Late inst)) t.item t.within
                (four (bytes_eq t.item.pin r.0.name) (same_tran t.item.tran t.item.tran) (bytes_eq t.item.clock q.0.name) (same_tran t.item.active t.item.active)
                (ap (bytes_eq t.item.pin) r.1.1 ∙ same_self t.item.pin) (self_tran t.item.tran) (ap (bytes_eq t.item.clock) q.1.1 ∙ same_self t.item.clock) (self_tran t.item.active)));
          }

  pub is_clocked : (n m : ℕ) (target clock : Node) (inst : Inst) → node_at s n ≡ Some target → node_at s m ≡ Some clock → target.pin.owner ≡ Some inst → is_tested_by d target clock inst ≡ true
      → is_clocked_at s n m ≡ true
  is_clocked n m target clock inst target_told clock_told owned e = by clock.pin.owner refl
    where
      parts : (option_map_or (λ (owner : Inst). bytes_eq owner.name inst.name) clock.pin.owner false ≡ true) × (list_any (tests_by target clock) (cell_tests (cell_of d Late inst)) ≡ true)
      parts = and_parts (option_map_or (λ (owner : Inst). bytes_eq owner.name inst.name) clock.pin.owner false) (list_any (tests_by target clock) (cell_tests (cell_of d Late inst))) e

      by : (o : Option Inst) → clock.pin.owner ≡ o → is_clocked_at s n m ≡ true
      by None f = absurd (true≢false (sym parts.0 ∙ ap (λ o. option_map_or (λ (owner : Inst). bytes_eq owner.name inst.name) o false) f))
      by (Some owner) f =
          let c = has_node s num linked m clock clock_told in
          let a = has_node s num linked n target target_told in
          let own = own_back d linked clock.pin owner c.has.within f in
          let mine = own_back d linked target.pin inst a.has.within owned in
          let name : owner.name ≡ inst.name = same_is owner.name inst.name (sym (ap (λ o. option_map_or (λ (i : Inst). bytes_eq i.name inst.name) o false) f) ∙ parts.0) in
          let same : owner ≡ inst =
          some_is (sym (inst_found s num linked owner own.inst) ∙ ap (inst_named d.insts) name ∙ inst_found s num linked inst mine.inst) in
          let owner_told : option_and_then (inst_numbered s) (owner_number s (pin_under m)) ≡ Some inst = owner_of m clock clock_told owner f ∙ ap Some same in
          let t = any_back (tests_by target clock) (cell_tests (cell_of d Late inst)) parts.1 in
          let three = and_parts (bytes_eq t.item.pin target.pin.own && same_tran t.item.tran target.tran && bytes_eq t.item.clock clock.pin.own) (same_tran t.item.active clock.tran) t.passes in
          let two = and_parts (bytes_eq t.item.pin target.pin.own && same_tran t.item.tran target.tran) (bytes_eq t.item.clock clock.pin.own) three.0 in
          let one = and_parts (bytes_eq t.item.pin target.pin.own) (same_tran t.item.tran target.tran) two.0 in
          let pin = same_is t.item.pin target.pin.own one.0 in
          let tran = tran_is t.item.tran target.tran one.1 in
          let clock_name = same_is t.item.clock clock.pin.own two.1 in
          let active = tran_is t.item.active clock.tran three.1 in
          ap (λ o. option_map_or (is_data_by s m n) o false) owner_told
          ∙ any_in (is_data s inst m n) (cell_tests (cell_of d Late inst)) t.item t.within
          (and_from (is_own s inst m t.item.clock t.item.active) (is_own s inst n t.item.pin t.item.tran)
          ((λ k. is_own s inst m (clock_name k) (active k)) ∙ told_own inst clock (f ∙ ap Some same) m clock_told)
          ((λ k. is_own s inst n (pin k) (tran k)) ∙ told_own inst target owned n target_told))

-- a base, and what an ECO made of it
module _ (b g : Graphed) (touch : Touch) (made : IsEditOf b.stored touch g.stored) (num : IsNumbered b.stored) (num2 : IsNumbered g.stored)
    (was_is : IsGraph b) (is : IsGraph g) (seeds changed : List ℕ) (seeds_are : AreSeeds b.stored g.stored touch seeds)
    (changed_are : AreThose g.stored (row_differs b.stored.design g.stored.design) changed) where
  abbrev e : Design
  e = b.stored.design

  abbrev e2 : Design
  e2 = g.stored.design

  abbrev linked : IsLinked e
  linked = was_linked b g touch made num num2 was_is is

  abbrev linked2 : IsLinked e2
  linked2 = now_linked b g touch made num num2 was_is is

  seed_told : (n : ℕ) → is_in seeds n ≡ of_node g.stored (is_seed e e2 touch) n
  seed_told n = sym (in_told n seeds) ∙ seeds_are.each n

  changed_told : (n : ℕ) → is_in changed n ≡ of_node g.stored (row_differs e e2) n
  changed_told n = sym (in_told n changed) ∙ changed_are n

  -- the parts of a backward node
  back_seed : (node : Node) → is_seed e e2 touch node ≡ true → is_backward e e2 touch node ≡ true
  back_seed node h =
      or_left (is_seed e e2 touch node || row_differs e e2 node || leads_to_seed e e2 touch node || list_any (back_differs e e2) (arcs_out e2 node)) (has_changed_clock e e2 touch node)
      (or_left (is_seed e e2 touch node || row_differs e e2 node || leads_to_seed e e2 touch node) (list_any (back_differs e e2) (arcs_out e2 node))
      (or_left (is_seed e e2 touch node || row_differs e e2 node) (leads_to_seed e e2 touch node)
      (or_left (is_seed e e2 touch node) (row_differs e e2 node) h)))

  back_row_too : (node : Node) → row_differs e e2 node ≡ true → is_backward e e2 touch node ≡ true
  back_row_too node h =
      or_left (is_seed e e2 touch node || row_differs e e2 node || leads_to_seed e e2 touch node || list_any (back_differs e e2) (arcs_out e2 node)) (has_changed_clock e e2 touch node)
      (or_left (is_seed e e2 touch node || row_differs e e2 node || leads_to_seed e e2 touch node) (list_any (back_differs e e2) (arcs_out e2 node))
      (or_left (is_seed e e2 touch node || row_differs e e2 node) (leads_to_seed e e2 touch node)
      (or_right (is_seed e e2 touch node) (row_differs e e2 node) h)))

  back_leads : (node : Node) → leads_to_seed e e2 touch node ≡ true → is_backward e e2 touch node ≡ true
  back_leads node h =
      or_left (is_seed e e2 touch node || row_differs e e2 node || leads_to_seed e e2 touch node || list_any (back_differs e e2) (arcs_out e2 node)) (has_changed_clock e e2 touch node)
      (or_left (is_seed e e2 touch node || row_differs e e2 node || leads_to_seed e e2 touch node) (list_any (back_differs e e2) (arcs_out e2 node))
      (or_right (is_seed e e2 touch node || row_differs e e2 node) (leads_to_seed e e2 touch node) h))

  back_clock : (node : Node) → has_changed_clock e e2 touch node ≡ true → is_backward e e2 touch node ≡ true
  back_clock node h =
      or_right (is_seed e e2 touch node || row_differs e e2 node || leads_to_seed e e2 touch node || list_any (back_differs e e2) (arcs_out e2 node)) (has_changed_clock e e2 touch node) h

  -- the node of a seed's number
  seed_node : (m : ℕ) → Contains seeds m → (to : Node) × ((node_at g.stored m ≡ Some to) × (is_seed e e2 touch to ≡ true))
  seed_node m c = node_of g.stored num2 linked2 (is_seed e e2 touch) m (sym (seed_told m) ∙ in_one seeds m c)

  -- an arc of the edited design leads to a seed
  tail_leads : (n : ℕ) → is_tail_of g g.stored seeds n ≡ true → of_node g.stored (is_backward e e2 touch) n ≡ true
  tail_leads n h =
      let m = any_back (is_tail_at g g.stored n) seeds h in
      let t = seed_node m.item m.within in
      let low = and_parts (nat_lt m.item (node_bound g.stored)) (list_any (is_tail g.stored n) (fan_at g.ins m.item)) m.passes in
      let a = any_back (is_tail g.stored n) (fan_at g.ins m.item) low.1 in
      let o = (is.ins m.item (ltb-true m.item (node_bound g.stored) low.0)).sound a.item a.within in
      let from : a.item.from ≡ n = eqb-true a.item.from n (and_parts (is_number g.stored.pins (pin_under a.item.from)) (a.item.from == n) a.passes).1 in
      let same : o.0.to ≡ t.0 = same_node_at g.stored o.0.to t.0 m.item (ap (node_at g.stored) (sym o.1) ∙ o.0.to_number) t.1.0 in
      let out : Contains (arcs_out e2 o.0.from) t.0 =
      in_out g num2 linked2 is t.0 (m.item, has_node g.stored num2 linked2 m.item t.0 t.1.0) o.0.from (subst (λ x. Contains (arcs_in e2 x) o.0.from) same o.0.within) in
      of_told g.stored num2 linked2 (is_backward e e2 touch) n o.0.from (ap (node_at g.stored) (sym from) ∙ o.0.from_number)
      ∙ back_leads o.0.from
      (or_left (list_any (is_seed e e2 touch) (arcs_out e2 o.0.from)) (list_any (λ to. is_seed e e2 touch to && led_to_before e o.0.from to) (nodes e2))
      (any_in (is_seed e e2 touch) (arcs_out e2 o.0.from) t.0 out t.1.1))

  -- nodes of both designs with one number have one name
  one_name : (n : ℕ) (old new : Node) → node_at b.stored n ≡ Some old → node_at g.stored n ≡ Some new → named new ≡ named old
  one_name n old new f h =
      let x = has_node b.stored num linked n old f in
      let y = has_node g.stored num2 linked2 n new h in
      let u : pin_under n ≡ x.pin = ap pin_under x.number ∙ under_number x.pin old.tran in
      let v : pin_under n ≡ y.pin = ap pin_under y.number ∙ under_number y.pin new.tran in
      let name : name_of old.pin ≡ name_of new.pin =
      (numbers_kept b.stored touch g.stored made).pins.names (pin_under n) (name_of old.pin) (name_of new.pin)
      (ap (name_at b.stored.pins) u ∙ x.has.name) (ap (name_at g.stored.pins) v ∙ y.has.name) in
      let t : tran_under n ≡ old.tran = ap tran_under x.number ∙ tran_of_number x.pin old.tran in
      let w : tran_under n ≡ new.tran = ap tran_under y.number ∙ tran_of_number y.pin new.tran in
      λ k. (sym name k, (sym w ∙ t) k)

  self_named : (old : Node) → Contains (pins e) old.pin → node_named e (named old) ≡ Some old
  self_named old c = ap (option_map (λ (pin : Pin). record { pin = pin; tran = old.tran })) (pin_found b.stored num linked old.pin c)

  -- an arc of the base leads to a seed's number
  tail_led : (n : ℕ) → is_tail_of b g.stored seeds n ≡ true → of_node g.stored (is_backward e e2 touch) n ≡ true
  tail_led n h =
      let m = any_back (is_tail_at b g.stored n) seeds h in
      let t = seed_node m.item m.within in
      let low = and_parts (nat_lt m.item (node_bound b.stored)) (list_any (is_tail g.stored n) (fan_at b.ins m.item)) m.passes in
      let a = any_back (is_tail g.stored n) (fan_at b.ins m.item) low.1 in
      let o = (was_is.ins m.item (ltb-true m.item (node_bound b.stored) low.0)).sound a.item a.within in
      let both = and_parts (is_number g.stored.pins (pin_under a.item.from)) (a.item.from == n) a.passes in
      let from : a.item.from ≡ n = eqb-true a.item.from n both.1 in
      let there = node_there g.stored num2 linked2 n (ap (λ k. is_number g.stored.pins (pin_under k)) (sym from) ∙ both.0) in
      let old_from : node_at b.stored n ≡ Some o.0.from = ap (node_at b.stored) (sym from) ∙ o.0.from_number in
      let old_to : node_at b.stored m.item ≡ Some o.0.to = ap (node_at b.stored) (sym o.1) ∙ o.0.to_number in
      let f = has_node b.stored num linked n o.0.from old_from in
      let z = has_node b.stored num linked m.item o.0.to old_to in
      let out : Contains (arcs_out e o.0.from) o.0.to = in_out b num linked was_is o.0.to (m.item, z) o.0.from o.0.within in
      let told : node_named e (named there.0) ≡ Some o.0.from = ap (node_named e) (one_name n o.0.from there.0 old_from there.1) ∙ self_named o.0.from f.has.within in
      let names = one_name m.item o.0.to t.0 old_to t.1.0 in
      let next : same_named (named o.0.to) (named t.0) ≡ true =
      ap (same_named (named o.0.to)) names ∙ and_from (bytes_eq (name_of o.0.to.pin) (name_of o.0.to.pin)) (same_tran o.0.to.tran o.0.to.tran) (same_self (name_of o.0.to.pin)) (self_tran o.0.to.tran) in
      let led : led_to_before e there.0 t.0 ≡ true =
      ap (λ w. option_map_or (λ before. list_any (λ x. same_named (named x) (named t.0)) (arcs_out e before)) w false) told
      ∙ any_in (λ x. same_named (named x) (named t.0)) (arcs_out e o.0.from) o.0.to out next in
      let to_has = has_node g.stored num2 linked2 m.item t.0 t.1.0 in
      of_told g.stored num2 linked2 (is_backward e e2 touch) n there.0 there.1
      ∙ back_leads there.0
      (or_right (list_any (is_seed e e2 touch) (arcs_out e2 there.0)) (list_any (λ to. is_seed e e2 touch to && led_to_before e there.0 to) (nodes e2))
      (any_in (λ to. is_seed e e2 touch to && led_to_before e there.0 to) (nodes e2) t.0 (node_within e2 t.0 to_has.has.within)
      (and_from (is_seed e e2 touch t.0) (led_to_before e there.0 t.0) t.1.1 led)))

  -- the clock node of a test is a seed, or has another row
  clock_leads : (n : ℕ) (clocks : List ℕ) → ((m : ℕ) → Contains clocks m → of_node g.stored (λ c. is_seed e e2 touch c || row_differs e e2 c) m ≡ true)
      → is_clocked_of g.stored clocks n ≡ true → of_node g.stored (is_backward e e2 touch) n ≡ true
  clock_leads n clocks turned h =
      let m = any_back (is_clocked_at g.stored n) clocks h in
      let k = clocked_is g.stored num2 linked2 n m.item m.passes in
      let t = sym (of_told g.stored num2 linked2 (λ c. is_seed e e2 touch c || row_differs e e2 c) m.item k.clock k.clock_told) ∙ turned m.item m.within in
      let has = has_node g.stored num2 linked2 m.item k.clock k.clock_told in
      of_told g.stored num2 linked2 (is_backward e e2 touch) n k.target k.target_told
      ∙ back_clock k.target
      (ap (λ w. option_map_or (λ inst. list_any (λ clock. is_tested_by e2 k.target clock inst && (is_seed e e2 touch clock || row_differs e e2 clock)) (nodes e2)) w false) k.owned
      ∙ any_in (λ clock. is_tested_by e2 k.target clock k.inst && (is_seed e e2 touch clock || row_differs e e2 clock)) (nodes e2) k.clock (node_within e2 k.clock has.has.within)
      (and_from (is_tested_by e2 k.target k.clock k.inst) (is_seed e e2 touch k.clock || row_differs e e2 k.clock) k.tested t))

  seed_clock : (m : ℕ) → Contains seeds m → of_node g.stored (λ c. is_seed e e2 touch c || row_differs e e2 c) m ≡ true
  seed_clock m c =
      let t = seed_node m c in
      of_told g.stored num2 linked2 (λ c. is_seed e e2 touch c || row_differs e e2 c) m t.0 t.1.0 ∙ or_left (is_seed e e2 touch t.0) (row_differs e e2 t.0) t.1.1

  changed_clock : (m : ℕ) → Contains changed m → of_node g.stored (λ c. is_seed e e2 touch c || row_differs e e2 c) m ≡ true
  changed_clock m c =
      let t = node_of g.stored num2 linked2 (row_differs e e2) m (sym (changed_told m) ∙ in_one changed m c) in
      of_told g.stored num2 linked2 (λ c. is_seed e e2 touch c || row_differs e e2 c) m t.0 t.1.0 ∙ or_right (is_seed e e2 touch t.0) (row_differs e e2 t.0) t.1.1

  first_sound : (n : ℕ) → is_first_of b g seeds changed n ≡ true → of_node g.stored (is_backward e e2 touch) n ≡ true
  first_sound n h = elim (or_cases (is_in seeds n || is_in changed n || is_tail_of g g.stored seeds n || is_tail_of b g.stored seeds n || is_clocked_of g.stored seeds n) (is_clocked_of g.stored changed n) h) [
    | inr x ↦ clock_leads n changed changed_clock x
    | inl h ↦ elim (or_cases (is_in seeds n || is_in changed n || is_tail_of g g.stored seeds n || is_tail_of b g.stored seeds n) (is_clocked_of g.stored seeds n) h) [
      | inr x ↦ clock_leads n seeds seed_clock x
      | inl h ↦ elim (or_cases (is_in seeds n || is_in changed n || is_tail_of g g.stored seeds n) (is_tail_of b g.stored seeds n) h) [
        | inr x ↦ tail_led n x
        | inl h ↦ elim (or_cases (is_in seeds n || is_in changed n) (is_tail_of g g.stored seeds n) h) [
          | inr x ↦ tail_leads n x
          | inl h ↦ elim (or_cases (is_in seeds n) (is_in changed n) h) [
            | inl x ↦
                let t = node_of g.stored num2 linked2 (is_seed e e2 touch) n (sym (seed_told n) ∙ x) in
                of_told g.stored num2 linked2 (is_backward e e2 touch) n t.0 t.1.0 ∙ back_seed t.0 t.1.1
            | inr x ↦
                let t = node_of g.stored num2 linked2 (row_differs e e2) n (sym (changed_told n) ∙ x) in
                of_told g.stored num2 linked2 (is_backward e e2 touch) n t.0 t.1.0 ∙ back_row_too t.0 t.1.1
          ]
        ]
      ]
    ]
  ]

  -- and all of them
  first_parts : (n : ℕ) → (is_in seeds n ≡ true) ⊎ ((is_in changed n ≡ true) ⊎ ((is_tail_of g g.stored seeds n ≡ true) ⊎ ((is_tail_of b g.stored seeds n ≡ true)
      ⊎ ((is_clocked_of g.stored seeds n ≡ true) ⊎ (is_clocked_of g.stored changed n ≡ true))))) → is_first_of b g seeds changed n ≡ true
  first_parts n (inl x) = rw x refl
  first_parts n (inr (inl x)) = six (is_in seeds n) (is_in changed n) (is_tail_of g g.stored seeds n) (is_tail_of b g.stored seeds n) (is_clocked_of g.stored seeds n) (is_clocked_of g.stored changed n) (inl x)
  first_parts n (inr (inr x)) = six (is_in seeds n) (is_in changed n) (is_tail_of g g.stored seeds n) (is_tail_of b g.stored seeds n) (is_clocked_of g.stored seeds n) (is_clocked_of g.stored changed n) (inr x)

  module _ (n : ℕ) (node : Node) (told : node_at g.stored n ≡ Some node) where
    own : HasNode g.stored node n
    own = has_node g.stored num2 linked2 n node told

    number_of_seed : (to : Node) → Contains (pins e2) to.pin → is_seed e e2 touch to ≡ true → (m : ℕ) × ((node_at g.stored m ≡ Some to) × Contains seeds m)
    number_of_seed to c h =
        let t = stood g num2 linked2 is to c in
        let at = node_told g.stored to t.0 t.1 in
        (t.0, (at, one_in seeds t.0 (seed_told t.0 ∙ of_told g.stored num2 linked2 (is_seed e e2 touch) t.0 to at ∙ h)))

    -- an arc leads to a seed
    leads_tail : list_any (is_seed e e2 touch) (arcs_out e2 node) ≡ true → is_tail_of g g.stored seeds n ≡ true
    leads_tail h =
        let t = any_back (is_seed e e2 touch) (arcs_out e2 node) h in
        let o = onto g num2 linked2 is n (node_below g.stored node n own) node told t.item t.within in
        let s = number_of_seed t.item o.stands.1.has.within t.passes in
        let same : s.0 ≡ o.arc.to =
        one_number g.stored num2 linked2 s.0 o.arc.to t.item (has_node g.stored num2 linked2 s.0 t.item s.1.0) (has_node g.stored num2 linked2 o.arc.to t.item o.told) in
        let low = node_below g.stored t.item o.arc.to (has_node g.stored num2 linked2 o.arc.to t.item o.told) in
        let a = (is.outs n (node_below g.stored node n own)).sound o.arc o.within in
        any_in (is_tail_at g g.stored n) seeds o.arc.to (subst (λ x. Contains seeds x) same s.1.1)
        (and_from (nat_lt o.arc.to (node_bound g.stored)) (list_any (is_tail g.stored n) (fan_at g.ins o.arc.to)) (lt-ltb o.arc.to (node_bound g.stored) low)
        (any_in (is_tail g.stored n) (fan_at g.ins o.arc.to) o.arc ((is.ins o.arc.to low).all o.arc a.0 refl)
        (and_from (is_number g.stored.pins (pin_under o.arc.from)) (o.arc.from == n) (number_there g.stored num2 linked2 o.arc.from node (ap (node_at g.stored) a.1 ∙ told)) (eq-eqb o.arc.from n a.1))))

    -- an arc of the base led to a seed
    led_tail : list_any (λ to. is_seed e e2 touch to && led_to_before e node to) (nodes e2) ≡ true → is_tail_of b g.stored seeds n ≡ true
    led_tail h =
        let t = any_back (λ to. is_seed e e2 touch to && led_to_before e node to) (nodes e2) h in
        let parts = and_parts (is_seed e e2 touch t.item) (led_to_before e node t.item) t.passes in
        let s = number_of_seed t.item (pin_within e2 t.item t.within) parts.0 in
        by s.0 t.item s.1.0 s.1.1 (node_named e (named node)) refl parts.1
      where
        by : (m : ℕ) (to : Node) → node_at g.stored m ≡ Some to → Contains seeds m → (o : Option Node) → node_named e (named node) ≡ o → led_to_before e node to ≡ true → is_tail_of b g.stored seeds n ≡ true
        by m to at c None f led = absurd (true≢false (sym led ∙ ap (λ w. option_map_or (λ before. list_any (λ next. same_named (named next) (named to)) (arcs_out e before)) w false) f))
        by m to at c (Some before) f led =
            let x = any_back (λ next. same_named (named next) (named to)) (arcs_out e before)
            (sym (ap (λ w. option_map_or (λ before. list_any (λ next. same_named (named next) (named to)) (arcs_out e before)) w false) f) ∙ led) in
            let from_told = base_node b g touch made num num2 was_is is n node before told f in
            let from_has = has_node b.stored num linked n before from_told in
            let o = onto b num linked was_is n (node_below b.stored before n from_has) before from_told x.item x.within in
            let names = and_parts (bytes_eq (name_of x.item.pin) (name_of to.pin)) (same_tran x.item.tran to.tran) x.passes in
            let name : named to ≡ named x.item = λ k. (sym (same_is (name_of x.item.pin) (name_of to.pin) names.0) k, sym (tran_is x.item.tran to.tran names.1) k) in
            let to_told : node_named e (named to) ≡ Some x.item = ap (node_named e) name ∙ self_named x.item o.stands.1.has.within in
            let m_told = base_node b g touch made num num2 was_is is m to x.item at to_told in
            let same : o.arc.to ≡ m = one_number b.stored num linked o.arc.to m x.item (has_node b.stored num linked o.arc.to x.item o.told) (has_node b.stored num linked m x.item m_told) in
            let low = node_below b.stored x.item m (has_node b.stored num linked m x.item m_told) in
            let a = (was_is.outs n (node_below b.stored before n from_has)).sound o.arc o.within in
            any_in (is_tail_at b g.stored n) seeds m c
            (and_from (nat_lt m (node_bound b.stored)) (list_any (is_tail g.stored n) (fan_at b.ins m)) (lt-ltb m (node_bound b.stored) low)
            (any_in (is_tail g.stored n) (fan_at b.ins m) o.arc ((was_is.ins m low).all o.arc a.0 same)
            (and_from (is_number g.stored.pins (pin_under o.arc.from)) (o.arc.from == n) (number_there g.stored num2 linked2 o.arc.from node (ap (node_at g.stored) a.1 ∙ told)) (eq-eqb o.arc.from n a.1))))

    -- a clock node changed
    clock_in : has_changed_clock e e2 touch node ≡ true → (is_clocked_of g.stored seeds n ≡ true) ⊎ (is_clocked_of g.stored changed n ≡ true)
    clock_in h = by node.pin.owner refl
      where
        by : (o : Option Inst) → node.pin.owner ≡ o → (is_clocked_of g.stored seeds n ≡ true) ⊎ (is_clocked_of g.stored changed n ≡ true)
        by None f = absurd (true≢false (sym h ∙ ap (λ w. option_map_or (λ inst. list_any (λ clock. is_tested_by e2 node clock inst && (is_seed e e2 touch clock || row_differs e e2 clock)) (nodes e2)) w false) f))
        by (Some inst) f =
            let t = any_back (λ clock. is_tested_by e2 node clock inst && (is_seed e e2 touch clock || row_differs e e2 clock)) (nodes e2)
            (sym (ap (λ w. option_map_or (λ inst. list_any (λ clock. is_tested_by e2 node clock inst && (is_seed e e2 touch clock || row_differs e e2 clock)) (nodes e2)) w false) f) ∙ h) in
            let parts = and_parts (is_tested_by e2 node t.item inst) (is_seed e e2 touch t.item || row_differs e e2 t.item) t.passes in
            let s = stood g num2 linked2 is t.item (pin_within e2 t.item t.within) in
            let at = node_told g.stored t.item s.0 s.1 in
            let here = is_clocked g.stored num2 linked2 n s.0 node t.item inst told at f parts.0 in
            elim (or_cases (is_seed e e2 touch t.item) (row_differs e e2 t.item) parts.1) [
              | inl x ↦ inl (any_in (is_clocked_at g.stored n) seeds s.0 (one_in seeds s.0 (seed_told s.0 ∙ of_told g.stored num2 linked2 (is_seed e e2 touch) s.0 t.item at ∙ x)) here)
              | inr x ↦ inr (any_in (is_clocked_at g.stored n) changed s.0 (one_in changed s.0 (changed_told s.0 ∙ of_told g.stored num2 linked2 (row_differs e e2) s.0 t.item at ∙ x)) here)
            ]

    first_all : is_first e e2 touch node ≡ true → is_first_of b g seeds changed n ≡ true
    first_all h = elim (or_cases (is_seed e e2 touch node || row_differs e e2 node || leads_to_seed e e2 touch node) (has_changed_clock e e2 touch node) h) [
      | inr x ↦ elim (clock_in x) [
        | inl y ↦ first_parts n (inr (inr (inr (inr (inl y)))))
        | inr y ↦ first_parts n (inr (inr (inr (inr (inr y)))))
      ]
      | inl h ↦ elim (or_cases (is_seed e e2 touch node || row_differs e e2 node) (leads_to_seed e e2 touch node) h) [
        | inr x ↦ elim (or_cases (list_any (is_seed e e2 touch) (arcs_out e2 node)) (list_any (λ to. is_seed e e2 touch to && led_to_before e node to) (nodes e2)) x) [
          | inl y ↦ first_parts n (inr (inr (inl (leads_tail y))))
          | inr y ↦ first_parts n (inr (inr (inr (inl (led_tail y)))))
        ]
        | inl h ↦ elim (or_cases (is_seed e e2 touch node) (row_differs e e2 node) h) [
          | inl x ↦ first_parts n (inl (seed_told n ∙ of_told g.stored num2 linked2 (is_seed e e2 touch) n node told ∙ x))
          | inr x ↦ first_parts n (inr (inl (changed_told n ∙ of_told g.stored num2 linked2 (row_differs e e2) n node told ∙ x)))
        ]
      ]
    ]

  pub are_first : (first : List ℕ) → ((n : ℕ) → is_in first n ≡ is_first_of b g seeds changed n) → AreFirst b.stored g.stored touch first
  are_first first told = record {
    sound = λ n h. first_sound n (sym (told n) ∙ h);
    all = λ n h. (let t = node_of g.stored num2 linked2 (is_first e e2 touch) n h in told n ∙ first_all n t.0 t.1.0 t.1.1);
  }

  -- the numbers of changed nodes are of nodes
  pub changed_low : All (λ n. n < node_bound g.stored) changed
  changed_low = λ i d within.
      let t = node_of g.stored num2 linked2 (row_differs e e2) (get_or changed i d)
      (sym (changed_told (get_or changed i d)) ∙ in_one changed (get_or changed i d) (All-contains_itself changed i d within)) in
      node_below g.stored t.0 (get_or changed i d) (has_node g.stored num2 linked2 (get_or changed i d) t.0 t.1.0)
