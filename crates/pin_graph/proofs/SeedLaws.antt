-- Seeds by numbers are those of the definition.

use Rattle.std.proofs.Common.{◌≡◌, ℕ, ◌<◌, ◌==◌, Bool, true, false, not, List, [], ◌∷◌, ◌++◌, length, get_or, Option, None, Some, refl, sym, ap, subst, ◌∙◌, inl, inr, arith}
use Rattle.std.specs.Prelude.{is_some, nat_eq, option_and_then, option_map, ◌&&◌, ◌||◌, if◌then◌else◌, Contains}
use Rattle.std.specs.List.{list_any, list_all, filter_map, flat_map, range_with_len, dedup}
use Rattle.std.specs.List.Retain.{IsFiltered, DiffersFromLast}
use Rattle.std.specs.List.Sorted.{IsPermutation, IsSorted, IsStrictlyIncreasing}
use Rattle.std.specs.Ordering.{nat_cmp}
use Rattle.std.specs.Option.{option_map_or}
use Rattle.std.specs.Str.{bytes_eq}
use Rattle.std.proofs.lemmas.Bool.{cases_Bool, false≢true, and_parts, and_from, eqb-true, eq-eqb, false_from_ne_true}
use Rattle.std.proofs.lemmas.Option.{cond_some}
use Rattle.std.proofs.lemmas.List.Elements.{Contains-get_or}
use Rattle.std.proofs.lemmas.List.Folds.{list_any-append}
use Rattle.std.proofs.lemmas.List.Kept.{Contains-dedup_nat, Contains-from_dedup}
use Rattle.std.proofs.lemmas.List.Filters.{dedup_is}
use Rattle.std.proofs.lemmas.List.Sorted.{list_any-IsPermutation}
use Rattle.std.proofs.lemmas.Map.Keys.{IsStrictlyIncreasing-dedup}
use Rattle.timing_defs.specs.declared.kinds.Split.TheVariants.{Late}
use Rattle.timing_defs.specs.declared.kinds.Tran.{Tran}
use Rattle.timing_defs.specs.declared.kinds.Tran.TheVariants.{Rise, Fall}
use Rattle.timing_defs.specs.declared.design.Design.{Design}
use Rattle.timing_defs.specs.Netlist.{Pin, Node, name_of, same_tran, pin_named, is_driver}
use Rattle.timing_defs.specs.Kinds.{is_comb}
use Rattle.timing_rules.specs.Clocking.{is_network}
use Rattle.timing_rules.specs.Rows.{library_arcs, arcs_in}
use Rattle.timing_rules.specs.Paths.{named, node_named, same_named}
use Rattle.timing_defs.specs.NetChecks.{net_fault}
use Rattle.timing_defs.specs.Touches.{Touch}
use Rattle.timing_rules.specs.Cones.{same_truth, same_sort, same_arcs, is_seed, has_comb_arc, has_register_arc}
use Rattle.netlist_store.specs.Linked.{IsLinked}
use Rattle.netlist_store.specs.Numbering.{Stored, name_at, number_of, is_number, pin_numbered, IsNumbered, AreKept}
use Rattle.eco_laws.specs.Kept.{is_touched_pin}
use Rattle.pin_graph.specs.declared.arcs.GraphKind.{GraphKind}
use Rattle.pin_graph.specs.declared.arcs.GraphKind.TheVariants.{Net as net_kind, Cell as cell_kind, Register}
use Rattle.pin_graph.specs.declared.arcs.GraphArc.{GraphArc}
use Rattle.pin_graph.specs.NodeArcs.{is_cell}
use Rattle.pin_graph.specs.Nodes.{node_number, node_at, node_bound, pin_under, tran_under}
use Rattle.pin_graph.specs.Graphs.{Graphed, fan_at, network_at, of_node, kind_between, IsArc, IsGraph}
use Rattle.pin_graph.specs.Seeds.{is_touched_at, numbers_of, same_graph_arc, same_fans, is_turned, is_turned_at, turned_at, AreSeeds}
use Rattle.pin_graph.specs.Kept.{IsKeptGraph, HaveSameLinks}
use Rattle.timing_defs.proofs.SameNames.{same_is, same_self}
use Rattle.timing_defs.proofs.Members.{first_in, later_in, in_cases, none_in, any_in, any_back, all_in, in_flat_map, in_flat_map_back, in_filter_map, in_filter_map_back, number_in}
use Rattle.store_pins.proofs.PinLaws.{told_at, there, HasNumber, pin_of_number, pin_at_number}
use Rattle.pin_graph.proofs.WalkLaws.{both_same}
use Rattle.pin_graph.proofs.NodeLaws.{HasNode, node_told, node_below, has_node, same_node_at, under_number, tran_of_number, number_again}
use Rattle.pin_graph.proofs.GraphRows.{placed}
use Rattle.pin_graph.proofs.KeptLaws.{graph_again}

abbrev node_as : ℕ → Pin → Node
node_as node pin = record { pin = pin; tran = tran_under node }

truth_self : (a : Bool) → same_truth a a ≡ true
truth_self true = refl
truth_self false = refl

all_from : {X : Type 0} (p : X → Bool) (xs : List X) → ((x : X) → Contains xs x → p x ≡ true) → list_all p xs ≡ true
all_from p [] h = refl
all_from p (x ∷ xs) h = and_from (p x) (list_all p xs) (h x (first_in x xs)) (all_from p xs (λ y c. h y (later_in x xs y c)))

-- lists whose items stand for each other
module _ {X Y : Type 0} (R : X → Y → Type 0) (xs : List X) (ys : List Y)
    (forth : (x : X) → Contains xs x → (y : Y) × (Contains ys y × R x y)) (back : (y : Y) → Contains ys y → (x : X) × (Contains xs x × R x y))
    (p : X → Bool) (q : Y → Bool) (agree : (x : X) (y : Y) → Contains xs x → Contains ys y → R x y → p x ≡ q y) where
  any_same : list_any p xs ≡ list_any q ys
  any_same =
      both_same (list_any p xs) (list_any q ys)
      (λ e. let r = any_back p xs e in let y = forth r.item r.within in any_in q ys y.0 y.1.0 (sym (agree r.item y.0 r.within y.1.0 y.1.1) ∙ r.passes))
      (λ e. let r = any_back q ys e in let x = back r.item r.within in any_in p xs x.0 x.1.0 (agree x.0 r.item x.1.0 r.within x.1.1 ∙ r.passes))

  all_same : list_all p xs ≡ list_all q ys
  all_same =
      both_same (list_all p xs) (list_all q ys)
      (λ e. all_from q ys (λ y c. let x = back y c in sym (agree x.0 y x.1.0 c x.1.1) ∙ all_in p xs x.0 e x.1.0))
      (λ e. all_from p xs (λ x c. let y = forth x c in agree x y.0 c y.1.0 y.1.1 ∙ all_in q ys y.0 e y.1.0))

-- the sorts of an arc
comb_sort : (d : Design) (from to : Node) (kind : GraphKind) → kind ≡ kind_between d from to → has_comb_arc d from to ≡ is_cell kind
comb_sort d from to kind e = by (is_driver to.pin) (has_comb_arc d from to) refl refl ∙ sym (ap is_cell e)
  where
    by : (b c : Bool) → is_driver to.pin ≡ b → has_comb_arc d from to ≡ c → has_comb_arc d from to ≡ is_cell (kind_between d from to)
    by true true f g = g ∙ sym (ap (λ x. is_cell (if x then (if has_comb_arc d from to then cell_kind else Register) else net_kind)) f ∙ ap (λ x. is_cell (if x then cell_kind else Register)) g)
    by true false f g = g ∙ sym (ap (λ x. is_cell (if x then (if has_comb_arc d from to then cell_kind else Register) else net_kind)) f ∙ ap (λ x. is_cell (if x then cell_kind else Register)) g)
    by false true f g = absurd (false≢true (sym (ap (λ x. x && list_any is_comb (library_arcs d Late from to)) f) ∙ g))
    by false false f g = g ∙ sym (ap (λ x. is_cell (if x then (if has_comb_arc d from to then cell_kind else Register) else net_kind)) f)

module _ (g : Graphed) (num : IsNumbered g.stored) (linked : IsLinked g.stored.design) (is : IsGraph g) where
  -- an arc of the graph for each node before a node, and a node for each arc
  record IsInto (arc : GraphArc) (from to : Node) : Type 0 where
    from_has : HasNode g.stored from arc.from
    within : Contains (arcs_in g.stored.design to) from
    comb : has_comb_arc g.stored.design from to ≡ is_cell arc.kind
    edge : has_register_arc g.stored.design from to ≡ arc.edge

  into_of : (node : ℕ) (to : Node) → HasNode g.stored to node → (arc : GraphArc) → Contains (fan_at g.ins node) arc
      → (from : Node) × (Contains (arcs_in g.stored.design to) from × IsInto arc from to)
  into_of node to h arc c =
      let a = (is.ins node (node_below g.stored to node h)).sound arc c in
      let same : a.0.to ≡ to = same_node_at g.stored a.0.to to node (ap (node_at g.stored) (sym a.1) ∙ a.0.to_number) (node_told g.stored to node h) in
      subst (λ (t : Node). (from : Node) × (Contains (arcs_in g.stored.design t) from × IsInto arc from t)) same (
        a.0.from,
        (
          a.0.within,
          record {
            from_has = has_node g.stored num linked arc.from a.0.from a.0.from_number;
            within = a.0.within;
            comb = comb_sort g.stored.design a.0.from a.0.to arc.kind a.0.kind;
            edge = sym a.0.edge;
          },
        ),
      )

  arc_of : (node : ℕ) (to : Node) → HasNode g.stored to node → (from : Node) → Contains (arcs_in g.stored.design to) from
      → (arc : GraphArc) × (Contains (fan_at g.ins node) arc × IsInto arc from to)
  arc_of node to h from c =
      let f = (placed g num linked is).closed to (node, h) from c in
      let arc : GraphArc = record { from = f.0; to = node; kind = kind_between g.stored.design from to; edge = has_register_arc g.stored.design from to } in
      let arc_is : IsArc g.stored arc = record {
        from = from;
        from_number = node_told g.stored from f.0 f.1;
        to = to;
        to_number = node_told g.stored to node h;
        within = c;
        kind = refl;
        edge = refl;
      } in (
        arc,
        (
          (is.ins node (node_below g.stored to node h)).all arc arc_is refl,
          record {
            from_has = f.1;
            within = c;
            comb = comb_sort g.stored.design from to arc.kind refl;
            edge = refl;
          },
        ),
      )

-- a graph, and that of a store that an edit made of its store
module _ (g g2 : Graphed) (num : IsNumbered g.stored) (num2 : IsNumbered g2.stored) (linked : IsLinked g.stored.design) (linked2 : IsLinked g2.stored.design)
    (is : IsGraph g) (is2 : IsGraph g2) (kept : AreKept g.stored.pins g2.stored.pins) where
  same_numbers : (a b : Node) (m n : ℕ) → HasNode g.stored a m → HasNode g2.stored b n → same_named (named a) (named b) ≡ nat_eq m n
  same_numbers a b m n h k =
      both_same (same_named (named a) (named b)) (nat_eq m n)
      (λ e.
      let parts = and_parts (bytes_eq (name_of a.pin) (name_of b.pin)) (same_tran a.tran b.tran) e in
      let names : name_of a.pin ≡ name_of b.pin = same_is (name_of a.pin) (name_of b.pin) parts.0 in
      let numbers : h.pin ≡ k.pin = kept.numbers (name_of a.pin) h.pin k.pin h.has.number (ap (number_of g2.stored.pins) names ∙ k.has.number) in
      eq-eqb m n (h.number ∙ (λ i. node_number (numbers i) (trans_is a.tran b.tran parts.1 i)) ∙ sym k.number))
      (λ e.
      let at : m ≡ n = eqb-true m n e in
      let same = under m n (h.number) (k.number) at in
      let names : name_of a.pin ≡ name_of b.pin = kept.names k.pin (name_of a.pin) (name_of b.pin) (ap (name_at g.stored.pins) (sym same.0) ∙ h.has.name) k.has.name in
      and_from (bytes_eq (name_of a.pin) (name_of b.pin)) (same_tran a.tran b.tran)
      (ap (bytes_eq (name_of a.pin)) (sym names) ∙ same_self (name_of a.pin)) (ap (same_tran a.tran) (sym same.1) ∙ tran_self a.tran))
    where
      trans_is : (s t : Tran) → same_tran s t ≡ true → s ≡ t
      trans_is Rise Rise e = refl
      trans_is Rise Fall e = absurd (false≢true e)
      trans_is Fall Rise e = absurd (false≢true e)
      trans_is Fall Fall e = refl

      tran_self : (s : Tran) → same_tran s s ≡ true
      tran_self Rise = refl
      tran_self Fall = refl

      by_trans : (p q : ℕ) (s t : Tran) → node_number p s ≡ node_number q t → (p ≡ q) × (s ≡ t)
      by_trans p q Rise Rise e = (omega (arith, e), refl)
      by_trans p q Rise Fall e = absurd (omega (arith, e))
      by_trans p q Fall Rise e = absurd (omega (arith, e))
      by_trans p q Fall Fall e = (omega (arith, e), refl)

      under : (x y : ℕ) → x ≡ node_number h.pin a.tran → y ≡ node_number k.pin b.tran → x ≡ y → (h.pin ≡ k.pin) × (a.tran ≡ b.tran)
      under x y e f same = by_trans h.pin k.pin a.tran b.tran (sym e ∙ same ∙ f)

  -- the arcs into a node of both
  module _ (node : ℕ) (to to2 : Node) (h : HasNode g.stored to node) (h2 : HasNode g2.stored to2 node) where
    sorts : (x y : GraphArc) (from from2 : Node) → IsInto g num linked is x from to → IsInto g2 num2 linked2 is2 y from2 to2
        → same_sort g.stored.design g2.stored.design from to from2 to2 ≡ same_graph_arc x y
    sorts x y from from2 a b =
        λ k. same_numbers from from2 x.from y.from a.from_has b.from_has k && same_truth (a.comb k) (b.comb k) && same_truth (a.edge k) (b.edge k)

    arcs_are : same_arcs g.stored.design g2.stored.design to to2 ≡ same_fans (fan_at g.ins node) (fan_at g2.ins node)
    arcs_are = λ k. kept_ones k && old_ones k
      where
        kept_ones : list_all (λ from. list_any (λ from2. same_sort g.stored.design g2.stored.design from to from2 to2) (arcs_in g2.stored.design to2)) (arcs_in g.stored.design to)
            ≡ list_all (λ a. list_any (same_graph_arc a) (fan_at g2.ins node)) (fan_at g.ins node)
        kept_ones =
            all_same (λ from arc. IsInto g num linked is arc from to) (arcs_in g.stored.design to) (fan_at g.ins node) (arc_of g num linked is node to h) (into_of g num linked is node to h)
            (λ from. list_any (λ from2. same_sort g.stored.design g2.stored.design from to from2 to2) (arcs_in g2.stored.design to2))
            (λ a. list_any (same_graph_arc a) (fan_at g2.ins node))
            (λ from a c d r.
            any_same (λ from arc. IsInto g2 num2 linked2 is2 arc from to2) (arcs_in g2.stored.design to2) (fan_at g2.ins node) (arc_of g2 num2 linked2 is2 node to2 h2) (into_of g2 num2 linked2 is2 node to2 h2)
            (λ from2. same_sort g.stored.design g2.stored.design from to from2 to2) (same_graph_arc a)
            (λ from2 b c2 d2 r2. sorts a b from from2 r r2))

        old_ones : list_all (λ from2. list_any (λ from. same_sort g.stored.design g2.stored.design from to from2 to2) (arcs_in g.stored.design to)) (arcs_in g2.stored.design to2)
            ≡ list_all (λ b. list_any (λ a. same_graph_arc a b) (fan_at g.ins node)) (fan_at g2.ins node)
        old_ones =
            all_same (λ from arc. IsInto g2 num2 linked2 is2 arc from to2) (arcs_in g2.stored.design to2) (fan_at g2.ins node) (arc_of g2 num2 linked2 is2 node to2 h2) (into_of g2 num2 linked2 is2 node to2 h2)
            (λ from2. list_any (λ from. same_sort g.stored.design g2.stored.design from to from2 to2) (arcs_in g.stored.design to))
            (λ b. list_any (λ a. same_graph_arc a b) (fan_at g.ins node))
            (λ from2 b c d r2.
            any_same (λ from arc. IsInto g num linked is arc from to) (arcs_in g.stored.design to) (fan_at g.ins node) (arc_of g num linked is node to h) (into_of g num linked is node to h)
            (λ from. same_sort g.stored.design g2.stored.design from to from2 to2) (λ a. same_graph_arc a b)
            (λ from a c1 d1 r. sorts a b from from2 r r2))

  -- the pin of the base that a pin's name tells has its number
  pin_before : (pin : Pin) (n : ℕ) → HasNumber g2.stored pin n → pin_named g.stored.design (name_of pin) ≡ pin_numbered g.stored n
  pin_before pin n h = by (name_at g.stored.pins n) refl
    where
      by : (o : Option (List ℕ)) → name_at g.stored.pins n ≡ o → pin_named g.stored.design (name_of pin) ≡ pin_numbered g.stored n
      by (Some w) e =
          ap (pin_named g.stored.design) (sym (kept.names n w (name_of pin) e h.name)) ∙ sym (ap (option_and_then (pin_named g.stored.design)) e)
      by None e = none (pin_named g.stored.design (name_of pin)) refl ∙ sym (ap (option_and_then (pin_named g.stored.design)) e)
        where
          none : (o : Option Pin) → pin_named g.stored.design (name_of pin) ≡ o → pin_named g.stored.design (name_of pin) ≡ None
          none None f = f
          none (Some p) f =
              let m = there (number_of g.stored.pins (name_of pin)) (num.pin_names (name_of pin) ∙ ap is_some f) in
              let same = kept.numbers (name_of pin) m.0 n m.1 h.number in
              let told : None ≡ Some (name_of pin) = sym e ∙ ap (name_at g.stored.pins) (sym same) ∙ told_at g.stored.pins (name_of pin) m.0 m.1 in
              absurd (cc)

  node_before : (node : ℕ) (n2 : Node) → HasNode g2.stored n2 node → node_named g.stored.design (named n2) ≡ node_at g.stored node
  node_before node n2 h =
      let at : pin_under node ≡ h.pin = ap pin_under h.number ∙ under_number h.pin n2.tran in
      let tran : tran_under node ≡ n2.tran = ap tran_under h.number ∙ tran_of_number h.pin n2.tran in
      ap (option_map (λ pin. record { pin = pin; tran = n2.tran })) (pin_before n2.pin h.pin h.has)
      ∙ (λ k. option_map (λ pin. record { pin = pin; tran = sym tran k }) (pin_numbered g.stored (sym at k)))

  -- a seed by its number
  pub seed_is : (touch : Touch) (node : ℕ)
      → of_node g2.stored (is_seed g.stored.design g2.stored.design touch) node ≡ (is_touched_at g2.stored touch (pin_under node) || is_turned_at g g2 node)
  seed_is touch node = by (pin_numbered g2.stored (pin_under node)) refl
    where
      gap : (s : Stored) → IsNumbered s → IsLinked s.design → pin_numbered s (pin_under node) ≡ None → is_number s.pins (pin_under node) ≡ false
      gap s n l e = false_from_ne_true (is_number s.pins (pin_under node)) (λ f.
          let p = pin_at_number s n l (pin_under node) f in
          let z : None ≡ Some p.0 = sym e ∙ p.1.pin in
          absurd (cc))

      here : (s : Stored) → IsNumbered s → IsLinked s.design → (p : Pin) → pin_numbered s (pin_under node) ≡ Some p → HasNode s (record { pin = p; tran = tran_under node }) node
      here s n l p e = record { pin = pin_under node; has = pin_of_number s n l (pin_under node) p e; number = sym (number_again node) }

      new_one : (t : Bool) → ((t || true) || true) ≡ (t || (true && true))
      new_one true = refl
      new_one false = refl

      old_one : (t a b : Bool) → ((t || a) || b) ≡ (t || (true && (a || b)))
      old_one true a b = refl
      old_one false a b = refl

      with_base : (p : Pin) → (e : pin_numbered g2.stored (pin_under node) ≡ Some p) → (o : Option Pin) → pin_numbered g.stored (pin_under node) ≡ o
          → is_seed g.stored.design g2.stored.design touch (node_as node p) ≡ (is_touched_pin touch p || (true && is_turned g g2 node))
      with_base p e None f =
          let told : node_named g.stored.design (named (node_as node p)) ≡ None = node_before node (node_as node p) (here g2.stored num2 linked2 p e) ∙ ap (option_map (λ pin. record { pin = pin; tran = tran_under node })) f in
          let turned : is_turned g g2 node ≡ true =
          ap (λ b. if b then not (same_fans (fan_at g.ins node) (fan_at g2.ins node)) || not (same_truth (network_at g node) (network_at g2 node)) else true) (gap g.stored num linked f) in
          (λ k.
          (is_touched_pin touch p || option_map_or (λ before. not (same_arcs g.stored.design g2.stored.design before (node_as node p))) (told k) true)
          || option_map_or (λ before. not (same_truth (is_network g.stored.design before.pin) (is_network g2.stored.design p))) (told k) true)
          ∙ new_one (is_touched_pin touch p) ∙ ap (λ b. is_touched_pin touch p || (true && b)) (sym turned)
      with_base p e (Some p1) f =
          let h2 = here g2.stored num2 linked2 p e in
          let h1 = here g.stored num linked p1 f in
          let told : node_named g.stored.design (named (node_as node p)) ≡ Some (node_as node p1) = node_before node (node_as node p) h2 ∙ ap (option_map (λ pin. record { pin = pin; tran = tran_under node })) f in
          let there : is_number g.stored.pins (pin_under node) ≡ true = ap is_some h1.has.name in
          let net1 : network_at g node ≡ is_network g.stored.design p1 = is.network.each (pin_under node) h1.has.below ∙ ap (λ o. option_map_or (is_network g.stored.design) o false) f in
          let net2 : network_at g2 node ≡ is_network g2.stored.design p = is2.network.each (pin_under node) h2.has.below ∙ ap (λ o. option_map_or (is_network g2.stored.design) o false) e in
          let arcs = arcs_are node (node_as node p1) (node_as node p) h1 h2 in
          let turned : is_turned g g2 node ≡ (not (same_fans (fan_at g.ins node) (fan_at g2.ins node)) || not (same_truth (network_at g node) (network_at g2 node))) =
          ap (λ b. if b then not (same_fans (fan_at g.ins node) (fan_at g2.ins node)) || not (same_truth (network_at g node) (network_at g2 node)) else true) there in
          (λ k.
          (is_touched_pin touch p || option_map_or (λ before. not (same_arcs g.stored.design g2.stored.design before (node_as node p))) (told k) true)
          || option_map_or (λ before. not (same_truth (is_network g.stored.design before.pin) (is_network g2.stored.design p))) (told k) true)
          ∙ (λ k. (is_touched_pin touch p || not (arcs k)) || not (same_truth (sym net1 k) (sym net2 k)))
          ∙ old_one (is_touched_pin touch p) (not (same_fans (fan_at g.ins node) (fan_at g2.ins node))) (not (same_truth (network_at g node) (network_at g2 node)))
          ∙ ap (λ b. is_touched_pin touch p || (true && b)) (sym turned)

      by : (o : Option Pin) → pin_numbered g2.stored (pin_under node) ≡ o
          → of_node g2.stored (is_seed g.stored.design g2.stored.design touch) node ≡ (is_touched_at g2.stored touch (pin_under node) || is_turned_at g g2 node)
      by None e =
          ap (λ o. option_map_or (is_seed g.stored.design g2.stored.design touch) (option_map (λ pin. record { pin = pin; tran = tran_under node }) o) false) e
          ∙ sym (λ k. option_map_or (is_touched_pin touch) (e k) false || (gap g2.stored num2 linked2 e k && is_turned g g2 node))
      by (Some p) e =
          ap (λ o. option_map_or (is_seed g.stored.design g2.stored.design touch) (option_map (λ pin. record { pin = pin; tran = tran_under node }) o) false) e
          ∙ with_base p e (pin_numbered g.stored (pin_under node)) refl
          ∙ sym (λ k. option_map_or (is_touched_pin touch) (e k) false || (ap is_some (here g2.stored num2 linked2 p e).has.name k && is_turned g g2 node))

  number_low : (node : ℕ) → is_number g2.stored.pins (pin_under node) ≡ true → (pin_under node < length g2.stored.pins) × (node < node_bound g2.stored)
  number_low node e =
      let p = pin_at_number g2.stored num2 linked2 (pin_under node) e in
      let low = p.1.below in
      (low, omega (arith, low))

  -- the list of the turned nodes
  pub turned_list : (node : ℕ) → list_any (nat_eq node) (filter_map (turned_at g g2) (range_with_len 0 (node_bound g2.stored))) ≡ is_turned_at g g2 node
  turned_list node =
      both_same (list_any (nat_eq node) (filter_map (turned_at g g2) (range_with_len 0 (node_bound g2.stored)))) (is_turned_at g g2 node)
      (λ e.
      let r = any_back (nat_eq node) (filter_map (turned_at g g2) (range_with_len 0 (node_bound g2.stored))) e in
      let m = in_filter_map_back (turned_at g g2) (range_with_len 0 (node_bound g2.stored)) r.item r.within in
      let h = cond_some (is_turned_at g g2 m.item) m.item r.item m.same in
      ap (is_turned_at g g2) (eqb-true node r.item r.passes ∙ sym h.1) ∙ h.0)
      (λ e.
      let low = number_low node (and_parts (is_number g2.stored.pins (pin_under node)) (is_turned g g2 node) e).0 in
      any_in (nat_eq node) (filter_map (turned_at g g2) (range_with_len 0 (node_bound g2.stored))) node
      (in_filter_map (turned_at g g2) (range_with_len 0 (node_bound g2.stored)) node node (number_in (node_bound g2.stored) node low.1) (ap (λ b. if b then Some node else None) e))
      (eq-eqb node node refl))

  -- where all links are left no node is turned
  module _ (fault : net_fault g2.stored.design ≡ None) (keeps : IsKeptGraph g) (same : HaveSameLinks g.stored g2.stored) where
    again : IsGraph (record g { stored = g2.stored })
    again = graph_again g g2.stored num2 linked2 fault keeps same

    arc_self : (a : GraphArc) → same_graph_arc a a ≡ true
    arc_self a =
        and_from (nat_eq a.from a.from && same_truth (is_cell a.kind) (is_cell a.kind)) (same_truth a.edge a.edge)
        (and_from (nat_eq a.from a.from) (same_truth (is_cell a.kind) (is_cell a.kind)) (eq-eqb a.from a.from refl) (truth_self (is_cell a.kind))) (truth_self a.edge)

    pub none_turned : (node : ℕ) → is_turned_at g g2 node ≡ false
    none_turned node = elim (cases_Bool (is_number g2.stored.pins (pin_under node))) [
      | inr e ↦ ap (λ b. b && is_turned g g2 node) e
      | inl e ↦
          let low = number_low node e in
          let there : is_number g.stored.pins (pin_under node) ≡ true = ap (λ ns. is_number ns (pin_under node)) (sym same.pins) ∙ e in
          let old = again.ins node low.1 in
          let new = is2.ins node low.1 in
          let kept_ones : list_all (λ a. list_any (same_graph_arc a) (fan_at g2.ins node)) (fan_at g.ins node) ≡ true =
          all_from (λ a. list_any (same_graph_arc a) (fan_at g2.ins node)) (fan_at g.ins node)
          (λ a c. let s = old.sound a c in any_in (same_graph_arc a) (fan_at g2.ins node) a (new.all a s.0 s.1) (arc_self a)) in
          let old_ones : list_all (λ b. list_any (λ a. same_graph_arc a b) (fan_at g.ins node)) (fan_at g2.ins node) ≡ true =
          all_from (λ b. list_any (λ a. same_graph_arc a b) (fan_at g.ins node)) (fan_at g2.ins node)
          (λ b c. let s = new.sound b c in any_in (λ a. same_graph_arc a b) (fan_at g.ins node) b (old.all b s.0 s.1) (arc_self b)) in
          let fans : same_fans (fan_at g.ins node) (fan_at g2.ins node) ≡ true =
          and_from (list_all (λ a. list_any (same_graph_arc a) (fan_at g2.ins node)) (fan_at g.ins node))
          (list_all (λ b. list_any (λ a. same_graph_arc a b) (fan_at g.ins node)) (fan_at g2.ins node)) kept_ones old_ones in
          let networks : network_at g node ≡ network_at g2 node = again.network.each (pin_under node) low.0 ∙ sym (is2.network.each (pin_under node) low.0) in
          let truth : same_truth (network_at g node) (network_at g2 node) ≡ true = ap (same_truth (network_at g node)) (sym networks) ∙ truth_self (network_at g node) in
          (λ k. e k && (if there k then not (fans k) || not (truth k) else true))
    ]

  -- the seeds
  pub seeds_are : (touch : Touch) (nodes seeds : List ℕ) → ((node : ℕ) → list_any (nat_eq node) nodes ≡ (is_touched_at g2.stored touch (pin_under node) || is_turned_at g g2 node))
      → IsStrictlyIncreasing seeds → ((node : ℕ) → list_any (nat_eq node) seeds ≡ list_any (nat_eq node) nodes) → AreSeeds g.stored g2.stored touch seeds
  seeds_are touch nodes seeds found rising same = record {
    within = λ k d low.
        let n = get_or seeds k d in
        let e = any_in (nat_eq n) seeds n (Contains-get_or seeds k d low) (eq-eqb n n refl) in
        below n (node_at g2.stored n) refl (sym (each n) ∙ e);
    rising = rising;
    each = each;
  }
    where
      each : (node : ℕ) → list_any (nat_eq node) seeds ≡ of_node g2.stored (is_seed g.stored.design g2.stored.design touch) node
      each node = same node ∙ found node ∙ sym (seed_is touch node)

      below : (n : ℕ) (o : Option Node) → node_at g2.stored n ≡ o → option_map_or (is_seed g.stored.design g2.stored.design touch) (node_at g2.stored n) false ≡ true → n < node_bound g2.stored
      below n None e f = absurd (false≢true (sym (ap (λ o. option_map_or (is_seed g.stored.design g2.stored.design touch) o false) e) ∙ f))
      below n (Some x) e f = node_below g2.stored x n (has_node g2.stored num2 linked2 n x e)

-- rising order, each once
pub distinct_rising : (ys zs : List ℕ) → IsSorted nat_cmp ys → IsFiltered (DiffersFromLast ◌==◌) [] ys zs → IsStrictlyIncreasing zs
distinct_rising ys zs sorted filtered = subst IsStrictlyIncreasing (sym (dedup_is ◌==◌ ys zs filtered)) (IsStrictlyIncreasing-dedup ys sorted)

pub distinct_same : (xs ys zs : List ℕ) → IsPermutation xs ys → IsFiltered (DiffersFromLast ◌==◌) [] ys zs → (n : ℕ) → list_any (nat_eq n) zs ≡ list_any (nat_eq n) xs
distinct_same xs ys zs perm filtered n =
    ap (list_any (nat_eq n)) (dedup_is ◌==◌ ys zs filtered)
    ∙ both_same (list_any (nat_eq n) (dedup ◌==◌ ys)) (list_any (nat_eq n) ys)
    (λ e. let r = any_back (nat_eq n) (dedup ◌==◌ ys) e in any_in (nat_eq n) ys r.item (Contains-from_dedup ◌==◌ ys r.item r.within) r.passes)
    (λ e. let r = any_back (nat_eq n) ys e in any_in (nat_eq n) (dedup ◌==◌ ys) r.item (Contains-dedup_nat ys r.item r.within) r.passes)
    ∙ sym (list_any-IsPermutation (nat_eq n) xs ys perm)

-- the nodes of pins
pub nodes_listed : (pins : List ℕ) (node : ℕ) → list_any (nat_eq node) (flat_map numbers_of pins) ≡ list_any (nat_eq (pin_under node)) pins
nodes_listed pins node =
    both_same (list_any (nat_eq node) (flat_map numbers_of pins)) (list_any (nat_eq (pin_under node)) pins)
    (λ e.
    let r = any_back (nat_eq node) (flat_map numbers_of pins) e in
    let a = in_flat_map_back numbers_of pins r.item r.within in
    any_in (nat_eq (pin_under node)) pins a.item a.within
    (eq-eqb (pin_under node) a.item (ap pin_under (eqb-true node r.item r.passes) ∙ under a.item r.item a.inside)))
    (λ e.
    let r = any_back (nat_eq (pin_under node)) pins e in
    let is : node_number r.item (tran_under node) ≡ node = ap (λ p. node_number p (tran_under node)) (sym (eqb-true (pin_under node) r.item r.passes)) ∙ number_again node in
    any_in (nat_eq node) (flat_map numbers_of pins) (node_number r.item (tran_under node)) (in_flat_map numbers_of pins r.item (node_number r.item (tran_under node)) r.within (both r.item (tran_under node)))
    (eq-eqb node (node_number r.item (tran_under node)) (sym is)))
  where
    under : (p n : ℕ) → Contains (numbers_of p) n → pin_under n ≡ p
    under p n c = elim (in_cases (node_number p Rise) (node_number p Fall ∷ []) n c) [
      | inl e ↦ ap pin_under (sym e) ∙ under_number p Rise
      | inr d ↦ elim (in_cases (node_number p Fall) [] n d) [ inl e ↦ ap pin_under (sym e) ∙ under_number p Fall | inr none ↦ absurd (none_in n none) ]
    ]

    both : (p : ℕ) (t : Tran) → Contains (numbers_of p) (node_number p t)
    both p Rise = first_in (node_number p Rise) (node_number p Fall ∷ [])
    both p Fall = later_in (node_number p Rise) (node_number p Fall ∷ []) (node_number p Fall) (first_in (node_number p Fall) [])

pub found_as : (s : Stored) (touch : Touch) (pins nodes nodes2 turned : List ℕ) (test : ℕ → Bool) → ((pin : ℕ) → list_any (nat_eq pin) pins ≡ is_touched_at s touch pin)
    → nodes ≡ flat_map numbers_of pins → ((node : ℕ) → (is_touched_at s touch (pin_under node) || list_any (nat_eq node) turned) ≡ test node) → nodes2 ≡ nodes ++ turned
    → (node : ℕ) → list_any (nat_eq node) nodes2 ≡ test node
found_as s touch pins nodes nodes2 turned test each are changed put node =
    ap (list_any (nat_eq node)) put ∙ list_any-append (nat_eq node) nodes turned
    ∙ ap (λ b. b || list_any (nat_eq node) turned) (ap (list_any (nat_eq node)) are ∙ nodes_listed pins node ∙ each (pin_under node))
    ∙ changed node
