-- The nodes of a graph by its levels: levels rise along arcs, and are below the number of nodes.

use Rattle.std.proofs.Common.{◌≡◌, ◌⊎◌, ℕ, zero, suc, ◌+◌, ◌<◌, ◌≤◌, true, List, [], ◌∷◌, map, length, Option, None, Some, refl, sym, ap, subst, ◌∙◌, inl, inr, arith}
use Rattle.std.specs.Prelude.{Contains, max, nat_lt, ◌-◌, not, ◌&&◌, ◌||◌, option_map}
use Rattle.std.specs.List.{list_any, flat_map}
use Rattle.std.specs.Option.{option_map_or, option_to_list}
use Rattle.std.proofs.Math.Nat.{le-max_left, le-max_right, max-eq_left, max-eq_right}
use Rattle.std.proofs.lemmas.Bool.{cases_Bool, cases_lt, false≢true, and_parts}
use Rattle.std.proofs.lemmas.Slice.Eq.{bytes_eq-Decides}
use Rattle.timing_defs.specs.declared.kinds.Split.TheVariants.{Late}
use Rattle.timing_defs.specs.declared.kinds.Tran.{Tran}
use Rattle.timing_defs.specs.declared.netlist.Inst.{Inst}
use Rattle.timing_defs.specs.declared.design.Design.{Design}
use Rattle.timing_defs.specs.declared.kinds.Tran.TheVariants.{Rise, Fall}
use Rattle.timing_defs.specs.Netlist.{Pin, Node, name_of, net_of, pins, nodes, both_nodes, inst_pins, is_driver, is_on, driver, same_node, same_pin, same_tran, pin_named}
use Rattle.timing_rules.specs.Clocking.{is_network, driver_on}
use Rattle.timing_rules.specs.Required.{arcs_out}
use Rattle.timing_rules.specs.Rows.{arcs_in, all_arcs_in, cell_arcs_in, library_arcs}
use Rattle.timing_rules.specs.Cones.{has_register_arc}
use Rattle.netlist_store.specs.Linked.{IsLinked}
use Rattle.netlist_store.specs.Numbering.{IsNumbered}
use Rattle.levelizer.specs.Levels.{greatest}
use Rattle.pin_graph.specs.declared.arcs.GraphArc.{GraphArc}
use Rattle.pin_graph.specs.Nodes.{node_number, number_at}
use Rattle.pin_graph.specs.Graphs.{Graphed, IsGraph, IsArc, fan_at, level_at, kind_between}
use Rattle.timing_defs.proofs.Members.{some_is, none_in, in_map, in_map_back, in_flat_map, in_flat_map_back, kept_in, passes_in, any_back, found_in}
use Rattle.store_pins.proofs.PinLaws.{pin_found, pin_told, own_in, own_back, own_pins}
use Rattle.timing_rules.proofs.RowLaws.{ArePlacedNodes, AreHighNodes}
use Rattle.pin_graph.proofs.LevelBound.{level_low}
use Rattle.pin_graph.proofs.NodeLaws.{HasNode, node_told, node_below, has_node}

-- the greatest of a list
greatest_over : (xs : List ℕ) (x : ℕ) → Contains xs x → x ≤ greatest xs
greatest_over [] x (i, low, is) = absurd (omega (arith, low))
greatest_over (y ∷ ys) x (zero, low, is) = let m = le-max_left y (greatest ys) in omega (arith, is, m)
greatest_over (y ∷ ys) x (suc i, low, is) =
    let rest = greatest_over ys x (i, omega (arith, low), is) in
    let m = le-max_right y (greatest ys) in
    omega (arith, rest, m)

max_is : (a b : ℕ) → (max a b ≡ a) ⊎ (max a b ≡ b)
max_is a b = elim (cases_lt a b) [ inl low ↦ inr (max-eq_right (omega (arith, low))) | inr high ↦ inl (max-eq_left high) ]

pub greatest_at : {X : Type 0} (f : X → ℕ) (xs : List X) (k : ℕ) → greatest (map f xs) ≡ suc k → (x : X) × (Contains xs x × (f x ≡ suc k))
greatest_at f [] k e = absurd (omega (arith, e))
greatest_at f (x ∷ xs) k e = elim (max_is (f x) (greatest (map f xs))) [
  | inl same ↦ (x, ((0, omega arith, refl), sym same ∙ e))
  | inr same ↦ let r = greatest_at f xs k (sym same ∙ e) in let c = r.1.0 in (r.0, ((suc c.0, (let l = c.1 in omega (arith, l)), c.2), r.1.1))
]

both_in : (pin : Pin) (t : Tran) → Contains (both_nodes pin) (record { pin = pin; tran = t })
both_in pin Rise = (0, omega arith, refl)
both_in pin Fall = (1, omega arith, refl)

same_trans : (a b : Tran) → same_tran a b ≡ true → a ≡ b
same_trans Rise Rise e = refl
same_trans Rise Fall e = absurd (false≢true e)
same_trans Fall Rise e = absurd (false≢true e)
same_trans Fall Fall e = refl

of_both : (pin : Pin) (n : Node) → Contains (both_nodes pin) n → n.pin ≡ pin
of_both pin n (zero, low, is) = ap (λ (m : Node). m.pin) (sym is)
of_both pin n (suc zero, low, is) = ap (λ (m : Node). m.pin) (sym is)
of_both pin n (suc (suc i), low, is) = absurd (omega (arith, low))

-- an arc leads from a pin of the design
module _ (d : Design) (linked : IsLinked d) where
  from_driver : (o : Option (List ℕ)) (p : Pin) → Contains (driver_on d o) p → Contains (pins d) p
  from_driver None p c = absurd (none_in p c)
  from_driver (Some net) p c = by (driver d net) refl c
    where
      by : (o : Option Pin) → driver d net ≡ o → Contains (option_to_list o) p → Contains (pins d) p
      by None e m = absurd (none_in p m)
      by (Some q) e (zero, low, is) = subst (λ (r : Pin). Contains (pins d) r) is (found_in (λ pin. is_driver pin && is_on net pin) (pins d) q e)
      by (Some q) e (suc i, low, is) = absurd (omega (arith, low))

  from_inst : (to : Node) (inst : Inst) → Contains d.insts inst → (from : Node) → Contains (cell_arcs_in d to inst) from → Contains (pins d) from.pin
  from_inst to inst there from c =
      let m = kept_in (λ f. nat_lt 0 (length (library_arcs d Late f to))) (flat_map both_nodes (inst_pins d inst)) from c in
      let r = in_flat_map_back both_nodes (inst_pins d inst) from m in
      let own = own_pins d linked inst r.item there r.within in
      let is : r.item ≡ from.pin = sym (of_both r.item from r.inside) in
      subst (λ (p : Pin). Contains (pins d) p) (sym own.same ∙ is) (own_in d linked inst own.pin there own.within)

  from_all : (to : Node) → Contains (pins d) to.pin → (from : Node) → Contains (all_arcs_in d to) from → Contains (pins d) from.pin
  from_all to there from c = elim (cases_Bool (is_driver to.pin)) [
    | inl e ↦ by to.pin.owner refl (subst (λ (xs : List Node). Contains xs from) (rw e refl) c)
    | inr e ↦
        let m = in_map_back (λ (pin : Pin). record { pin = pin; tran = to.tran }) (driver_on d (net_of to.pin)) from
        (subst (λ (xs : List Node). Contains xs from) (rw e refl) c) in
        subst (λ (p : Pin). Contains (pins d) p) (ap (λ (n : Node). n.pin) m.same) (from_driver (net_of to.pin) m.item m.within)
  ]
    where
      by : (o : Option Inst) → to.pin.owner ≡ o → Contains (option_map_or (cell_arcs_in d to) o []) from → Contains (pins d) from.pin
      by None e m = absurd (none_in from m)
      by (Some inst) e m = from_inst to inst (own_back d linked to.pin inst there e).inst from m

  from_pin : (to : Node) → Contains (pins d) to.pin → (from : Node) → Contains (arcs_in d to) from → Contains (pins d) from.pin
  unfolding arcs_in
  from_pin to there from c = from_all to there from (kept_in (λ f. not (is_network d to.pin) || is_network d f.pin) (all_arcs_in d to) from c)

module _ (g : Graphed) (num : IsNumbered g.stored) (linked : IsLinked g.stored.design) (is : IsGraph g) where
  -- a node of the graph, and its level
  abbrev pub Stands : Node → Type 0
  Stands n = (k : ℕ) × HasNode g.stored n k

  abbrev pub level : Node → ℕ
  level n = option_map_or (level_at g) (number_at g.stored (name_of n.pin) n.tran) 0

  pub level_is : (n : Node) (k : ℕ) → HasNode g.stored n k → level n ≡ level_at g k
  level_is n k h = ap (λ o. option_map_or (level_at g) (option_map (λ pin. node_number pin n.tran) o) 0) h.has.number ∙ ap (level_at g) (sym h.number)

  stands : (n : Node) → Contains (pins g.stored.design) n.pin → Stands n
  stands n c = let p = pin_told g.stored num linked n.pin c in (node_number p.0 n.tran, record { pin = p.0; has = p.1; number = refl })

  closed : (to : Node) → Stands to → (from : Node) → Contains (arcs_in g.stored.design to) from → Stands from
  closed to s from c = stands from (from_pin g.stored.design linked to s.1.has.within from c)

  rising : (to : Node) → Stands to → (from : Node) → Contains (arcs_in g.stored.design to) from → level from < level to
  rising to s from c =
      let f = closed to s from c in
      let arc : GraphArc = record { from = f.0; to = s.0; kind = kind_between g.stored.design from to; edge = has_register_arc g.stored.design from to } in
      let arc_is : IsArc g.stored arc = record {
        from = from;
        from_number = node_told g.stored from f.0 f.1;
        to = to;
        to_number = node_told g.stored to s.0 s.1;
        within = c;
        kind = refl;
        edge = refl;
      } in
      let low = node_below g.stored to s.0 s.1 in
      let m = (is.ins s.0 low).all arc arc_is refl in
      let over = greatest_over (map (λ (a : GraphArc). level_at g a.from + 1) (fan_at g.ins s.0)) (level_at g f.0 + 1)
      (in_map (λ (a : GraphArc). level_at g a.from + 1) (fan_at g.ins s.0) arc m) in
      let here = is.levels.level s.0 low in
      let a = level_is from f.0 f.1 in
      let b = level_is to s.0 s.1 in
      omega (arith, over, here, a, b)

  lower : (x : Node) (m : ℕ) → Stands x → level x ≡ suc m → (y : Node) × (Stands y × (level y ≡ m))
  lower x m s e =
      let low = node_below g.stored x s.0 s.1 in
      let r = greatest_at (λ (a : GraphArc). level_at g a.from + 1) (fan_at g.ins s.0) m (sym (is.levels.level s.0 low) ∙ sym (level_is x s.0 s.1) ∙ e) in
      let arc = ((is.ins s.0 low).sound r.0 r.1.0).0 in
      let h = has_node g.stored num linked r.0.from arc.from arc.from_number in
      let a = level_is arc.from r.0.from h in
      let b = r.1.1 in
      (arc.from, ((r.0.from, h), (let z : level arc.from ≡ m = omega (arith, a, b) in z)))

  listed : (x : Node) → Stands x → Contains (nodes g.stored.design) x
  listed x s = in_flat_map both_nodes (pins g.stored.design) x.pin x s.1.has.within (both_in x.pin x.tran)

  pub low_level : (x : Node) → Stands x → level x < length (nodes g.stored.design)
  low_level = level_low (nodes g.stored.design) Stands listed level lower

  pub placed : ArePlacedNodes g.stored.design Stands level
  placed = record { closed = closed; rising = rising; low = λ n s. (let l = low_level n s in omega (arith, l)) }

  -- against the arcs
  abbrev pub height : Node → ℕ
  height n = length (nodes g.stored.design) - level n

  one_pin : (a b : Pin) → Contains (pins g.stored.design) a → Contains (pins g.stored.design) b → same_pin a b ≡ true → a ≡ b
  one_pin a b ca cb e =
      some_is (sym (pin_found g.stored num linked a ca) ∙ ap (pin_named g.stored.design) ((bytes_eq-Decides (name_of a) (name_of b)).0 e) ∙ pin_found g.stored num linked b cb)

  out_in : (n : Node) → Stands n → (to : Node) → Contains (arcs_out g.stored.design n) to → Stands to × Contains (arcs_in g.stored.design to) n
  out_in n s to c =
      let m = kept_in (λ t. list_any (same_node n) (arcs_in g.stored.design t)) (nodes g.stored.design) to c in
      let p = in_flat_map_back both_nodes (pins g.stored.design) to m in
      let there : Contains (pins g.stored.design) to.pin = subst (λ (q : Pin). Contains (pins g.stored.design) q) (sym (of_both p.item to p.inside)) p.within in
      let r = any_back (same_node n) (arcs_in g.stored.design to) (passes_in (λ t. list_any (same_node n) (arcs_in g.stored.design t)) (nodes g.stored.design) to c) in
      let parts = and_parts (same_pin n.pin r.item.pin) (same_tran n.tran r.item.tran) r.passes in
      let pin = one_pin n.pin r.item.pin s.1.has.within (from_pin g.stored.design linked to there r.item r.within) parts.0 in
      let tran = same_trans n.tran r.item.tran parts.1 in
      let same : r.item ≡ n = λ k. record { pin = sym pin k; tran = sym tran k } in
      (stands to there, subst (λ (x : Node). Contains (arcs_in g.stored.design to) x) same r.within)

  pub high : AreHighNodes g.stored.design Stands height
  high = record {
    closed = λ n s to c. (out_in n s to c).0;
    rising = λ n s to c.
        (let o = out_in n s to c in
        let up = rising to o.0 n o.1 in
        let a = low_level to o.0 in
        omega (arith, up, a));
    low = λ n s. (omega arith);
  }
