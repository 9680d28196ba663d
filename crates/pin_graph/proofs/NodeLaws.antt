-- Nodes and their numbers, and the arcs between them: an arc by numbers is an arc of the design, and
-- each arc of the design is there.

use Rattle.std.proofs.Common.{◌≡◌, ◌⊎◌, ℕ, zero, suc, ◌+◌, ◌*◌, ◌/◌, ◌%◌, ◌<◌, Bool, true, false, not, List, [], ◌∷◌, map, filter, length, Option, None, Some, refl, sym, ap, subst, ◌∙◌, inl, inr, arith, lt-ltb}
use Rattle.std.specs.Prelude.{nat_lt, option_and_then, option_map, ◌&&◌, ◌||◌, if◌then◌else◌, Contains}
use Rattle.std.specs.List.{filter_map, flat_map, range_with_len}
use Rattle.std.specs.Option.{option_map_or, option_to_list}
use Rattle.std.specs.Str.{bytes_eq}
use Rattle.std.proofs.lemmas.Bool.{false≢true, and_parts, and_from, eq-eqb, ne_eqb}
use Rattle.std.proofs.lemmas.Option.{cond_some}
use Rattle.std.proofs.lemmas.List.Elements.{Contains-append_left, Contains-append_right, Contains-append_cases}
use Rattle.timing_defs.specs.declared.kinds.Split.TheVariants.{Late}
use Rattle.timing_defs.specs.declared.kinds.Tran.{Tran}
use Rattle.timing_defs.specs.declared.kinds.Tran.TheVariants.{Rise, Fall}
use Rattle.timing_defs.specs.declared.kinds.Dir.TheVariants.{Output}
use Rattle.timing_defs.specs.declared.library.Cell.{Cell}
use Rattle.timing_defs.specs.declared.library.CellPin.{CellPin}
use Rattle.timing_defs.specs.declared.library.CellArc.{CellArc}
use Rattle.timing_defs.specs.declared.netlist.Inst.{Inst}
use Rattle.timing_defs.specs.declared.design.Design.{Design}
use Rattle.timing_defs.specs.Netlist.{Pin, Node, name_of, cell_pin, cell_pins, cell_of, inst_pins, both_nodes, net_of, is_driver, driver, same_tran}
use Rattle.timing_defs.specs.Kinds.{comb_kind, is_comb}
use Rattle.timing_rules.specs.Clocking.{cell_arcs, driver_on, is_network}
use Rattle.timing_rules.specs.Rows.{stands as arc_stands, joins, library_arcs, net_arcs_in, cell_arcs_in, all_arcs_in, arcs_in}
use Rattle.netlist_store.specs.Linked.{IsLinked}
use Rattle.netlist_store.specs.Numbering.{Stored, number_of, pin_numbered, IsNumbered}
use Rattle.levelizer.specs.declared.links.Link.{Link}
use Rattle.pin_graph.specs.declared.arcs.GraphKind.{GraphKind}
use Rattle.pin_graph.specs.declared.arcs.GraphKind.TheVariants.{Net as net_kind, Cell as cell_kind, Register}
use Rattle.pin_graph.specs.declared.arcs.GraphArc.{GraphArc}
use Rattle.pin_graph.specs.declared.pin_arcs.PinArc.{PinArc}
use Rattle.pin_graph.specs.Joins.{own_number, pin_arc, arc_between, numbered_arc, pin_arcs, net_before, before, link_from, link_into, net_links, link_of, pin_links}
use Rattle.store_pins.specs.Drivers.{driver_number}
use Rattle.pin_graph.specs.Networks.{is_comb_arc, IsNetwork}
use Rattle.pin_graph.specs.Nodes.{node_number, pin_under, tran_under, node_at, node_bound}
use Rattle.pin_graph.specs.NodeArcs.{marked, may_enter, stands, node_arc, standing_arc, net_arc, net_pair, net_arcs_into, net_node_arcs, node_arcs}
use Rattle.timing_defs.proofs.SameNames.{same_is, same_self}
use Rattle.timing_defs.proofs.Members.{some_is, none_in, first_in, in_cases, in_map, in_map_back, in_flat_map, in_flat_map_back, in_filter_map, in_filter_map_back, in_filter, passes_in, kept_in, number_in}
use Rattle.store_pins.proofs.PinLaws.{HasNumber, pin_of_number, own_back, own_pins}
use Rattle.pin_graph.proofs.JoinLaws.{mapped_back, IsPlaced, IsNetArc, placed_back, placed_in, net_arc_back}
use Rattle.pin_graph.proofs.NetworkLaws.{dir_flips}

-- numbers of nodes
pub under_number : (n : ℕ) (t : Tran) → pin_under (node_number n t) ≡ n
under_number n Rise = omega arith
under_number n Fall = omega arith

pub tran_of_number : (n : ℕ) (t : Tran) → tran_under (node_number n t) ≡ t
tran_of_number n Rise = ap (λ b. if b then Rise else Fall) (eq-eqb (node_number n Rise % 2) 0 (omega arith))
tran_of_number n Fall = ap (λ b. if b then Rise else Fall) (ne_eqb (node_number n Fall % 2) 0 (λ e. omega arith))

pub number_again : (k : ℕ) → node_number (pin_under k) (tran_under k) ≡ k
number_again k = by (k % 2) refl
  where
    by : (r : ℕ) → k % 2 ≡ r → node_number (pin_under k) (tran_under k) ≡ k
    by zero e = ap (λ b. node_number (pin_under k) (if b then Rise else Fall)) (eq-eqb (k % 2) 0 e) ∙ (let z : 2 * (k / 2) + 0 ≡ k = omega arith in z)
    by (suc r) e = ap (λ b. node_number (pin_under k) (if b then Rise else Fall)) (ne_eqb (k % 2) 0 (λ z. omega arith)) ∙ (let z : 2 * (k / 2) + 1 ≡ k = omega arith in z)

-- a node has a number
pub record HasNode (s : Stored) (node : Node) (k : ℕ) : Type 0 where
  pub pin : ℕ
  pub has : HasNumber s node.pin pin
  pub number : k ≡ node_number pin node.tran

pub node_told : (s : Stored) (node : Node) (k : ℕ) → HasNode s node k → node_at s k ≡ Some node
node_told s node k h =
    ap (node_at s) h.number
    ∙ ap (λ n. option_map (λ pin. record { pin = pin; tran = tran_under (node_number h.pin node.tran) }) (pin_numbered s n)) (under_number h.pin node.tran)
    ∙ ap (option_map (λ pin. record { pin = pin; tran = tran_under (node_number h.pin node.tran) })) h.has.pin
    ∙ ap (λ (t : Tran). Some (record { pin = node.pin; tran = t })) (tran_of_number h.pin node.tran)

pub node_below : (s : Stored) (node : Node) (k : ℕ) → HasNode s node k → k < node_bound s
node_below s node k h = by node.tran h.number
  where
    by : (t : Tran) → k ≡ node_number h.pin t → k < node_bound s
    by Rise e = let low = h.has.below in omega arith
    by Fall e = let low = h.has.below in omega arith

pub same_node_at : (s : Stored) (a b : Node) (k : ℕ) → node_at s k ≡ Some a → node_at s k ≡ Some b → a ≡ b
same_node_at s a b k e f = some_is (sym e ∙ f)

module _ (s : Stored) (num : IsNumbered s) (linked : IsLinked s.design) where
  pub has_node : (k : ℕ) (node : Node) → node_at s k ≡ Some node → HasNode s node k
  has_node k node e =
      let m = mapped_back (λ (pin : Pin). record { pin = pin; tran = tran_under k }) (pin_numbered s (pin_under k)) node e in
      let h = pin_of_number s num linked (pin_under k) m.0 m.1 in
      let p : m.0 ≡ node.pin = ap (λ (n : Node). n.pin) m.2 in
      let t : tran_under k ≡ node.tran = ap (λ (n : Node). n.tran) m.2 in
      record {
        pin = pin_under k;
        has = subst (λ (q : Pin). HasNumber s q (pin_under k)) p h;
        number = sym (number_again k) ∙ ap (node_number (pin_under k)) t;
      }

  -- two numbers of one node are the same
  pub one_number : (a b : ℕ) (node : Node) → HasNode s node a → HasNode s node b → a ≡ b
  one_number a b node h k =
      h.number ∙ ap (λ n. node_number n node.tran) (some_is (sym h.has.number ∙ k.has.number)) ∙ sym k.number

same_trans : (a b : Tran) → same_tran a b ≡ true → a ≡ b
same_trans Rise Rise e = refl
same_trans Rise Fall e = absurd (false≢true e)
same_trans Fall Rise e = absurd (false≢true e)
same_trans Fall Fall e = refl

tran_self : (a : Tran) → same_tran a a ≡ true
tran_self Rise = refl
tran_self Fall = refl

both_in : (pin : Pin) (t : Tran) → Contains (both_nodes pin) (record { pin = pin; tran = t })
both_in pin Rise = (0, omega arith, refl)
both_in pin Fall = (1, omega arith, refl)

both_pin : (pin : Pin) (node : Node) → Contains (both_nodes pin) node → node.pin ≡ pin
both_pin pin node c = elim (in_cases (record { pin = pin; tran = Rise }) (record { pin = pin; tran = Fall } ∷ []) node c) [
  | inl e ↦ ap (λ (n : Node). n.pin) (sym e)
  | inr d ↦ elim (in_cases (record { pin = pin; tran = Fall }) [] node d) [ inl e ↦ ap (λ (n : Node). n.pin) (sym e) | inr none ↦ absurd (none_in node none) ]
]

-- a library arc between numbers; between others that are the same
abbrev library_arc : CellArc → ℕ → ℕ → GraphArc
library_arc arc f t = record { from = f; to = t; kind = (if is_comb arc then cell_kind else Register); edge = not (is_comb arc) }

library_arc_at : (arc : CellArc) (a b c e : ℕ) → a ≡ b → c ≡ e → library_arc arc a c ≡ library_arc arc b e
library_arc_at arc a b c e f g = ap (λ n. library_arc arc n c) f ∙ ap (library_arc arc b) g

-- what an arc between numbers is of: a net's, or one of the library
pub record IsOfLibrary (d : Design) (from to : Node) (kind : GraphKind) (edge : Bool) : Type 0 where
  pub drives : is_driver to.pin ≡ true
  pub arc : CellArc
  pub within : Contains (library_arcs d Late from to) arc
  pub kind_is : kind ≡ (if is_comb arc then cell_kind else Register)
  pub edge_is : edge ≡ not (is_comb arc)

abbrev pub IsOf : Design → Node → Node → GraphKind → Bool → Type 0
IsOf d from to kind edge = ((is_driver to.pin ≡ false) × (kind ≡ net_kind) × (edge ≡ false)) ⊎ IsOfLibrary d from to kind edge

pub record IsRaw (s : Stored) (r : GraphArc) : Type 0 where
  pub from : Node
  pub from_has : HasNode s from r.from
  pub to : Node
  pub to_has : HasNode s to r.to
  pub within : Contains (arcs_in s.design to) from
  pub of : IsOf s.design from to r.kind r.edge

module _ (s : Stored) (num : IsNumbered s) (linked : IsLinked s.design) (network : List Bool) (net : IsNetwork s network) where
  pub marked_is : (p : Pin) (n : ℕ) → HasNumber s p n → marked network n ≡ is_network s.design p
  marked_is p n h = net.each n h.below ∙ ap (λ o. option_map_or (is_network s.design) o false) h.pin

  enters_is : (p q : Pin) (a b : ℕ) → HasNumber s p a → HasNumber s q b → may_enter network a b ≡ (not (is_network s.design q) || is_network s.design p)
  enters_is p q a b pa qb =
      ap (λ t. not t || marked network a) (marked_is q b qb) ∙ ap (λ t. not (is_network s.design q) || t) (marked_is p a pa)

  stands_is : (arc : PinArc) (p q : Pin) → HasNumber s p arc.from → HasNumber s q arc.to
      → stands network arc ≡ (is_comb_arc arc || (is_network s.design p && not (is_network s.design q)))
  stands_is arc p q pa qb =
      ap (λ t. is_comb_arc arc || (t && not (marked network arc.to))) (marked_is p arc.from pa)
      ∙ ap (λ t. is_comb_arc arc || (is_network s.design p && not t)) (marked_is q arc.to qb)

  -- arcs of nets
  entered : (from to : Node) → Contains (all_arcs_in s.design to) from → (not (is_network s.design to.pin) || is_network s.design from.pin) ≡ true → Contains (arcs_in s.design to) from
  unfolding arcs_in
  entered from to c e = in_filter (λ (f : Node). not (is_network s.design to.pin) || is_network s.design f.pin) (all_arcs_in s.design to) from c e

  entered_back : (from to : Node) → Contains (arcs_in s.design to) from
      → Contains (all_arcs_in s.design to) from × ((not (is_network s.design to.pin) || is_network s.design from.pin) ≡ true)
  unfolding arcs_in
  entered_back from to c = (
    kept_in (λ (f : Node). not (is_network s.design to.pin) || is_network s.design f.pin) (all_arcs_in s.design to) from c,
    passes_in (λ (f : Node). not (is_network s.design to.pin) || is_network s.design f.pin) (all_arcs_in s.design to) from c,
  )

  net_raw : (a b : ℕ) (t : Tran) → IsNetArc s a b → may_enter network a b ≡ true → IsRaw s (net_arc (node_number a t) (node_number b t))
  net_raw a b t n e =
      let from : Node = record { pin = n.source; tran = t } in
      let to : Node = record { pin = n.sink; tran = t } in
      let lists : all_arcs_in s.design to ≡ from ∷ [] =
      ap (λ x. if x then option_map_or (cell_arcs_in s.design to) n.sink.owner [] else net_arcs_in s.design to) n.sinking
      ∙ ap (λ o. map (λ pin. record { pin = pin; tran = t }) (driver_on s.design o)) n.on
      ∙ ap (λ o. map (λ pin. record { pin = pin; tran = t }) (option_to_list o)) n.drives in
      record {
        from = from;
        from_has = record { pin = a; has = n.source_number; number = refl };
        to = to;
        to_has = record { pin = b; has = n.sink_number; number = refl };
        within =
            entered from to (subst (λ (xs : List Node). Contains xs from) (sym lists) (first_in from []))
            (sym (enters_is n.source n.sink a b n.source_number n.sink_number) ∙ e);
        of = inl (n.sinking, refl, refl);
      }

  -- arcs of cells
  its_pin : (i : Inst) (cell : Cell) (q : CellPin) → cell_of s.design Late i ≡ Some cell → Contains cell.pins q → Contains (inst_pins s.design i) (cell_pin i q)
  its_pin i cell q e c = in_map (cell_pin i) (cell_pins (cell_of s.design Late i)) q (subst (λ (o : Option Cell). Contains (cell_pins o) q) (sym e) c)

  library_in : (a : PinArc) (p : IsPlaced s a) → stands network a ≡ true
      → Contains (library_arcs s.design Late (record { pin = cell_pin p.inst p.from; tran = a.from_tran }) (record { pin = cell_pin p.inst p.to; tran = a.to_tran })) p.arc
  library_in a p e =
      let from : Node = record { pin = cell_pin p.inst p.from; tran = a.from_tran } in
      let to : Node = record { pin = cell_pin p.inst p.to; tran = a.to_tran } in
      let comb : is_comb p.arc ≡ is_comb_arc a = ap (λ (x : PinArc). comb_kind x.kind) p.same in
      let ft : p.arc.from_tran ≡ a.from_tran = ap (λ (x : PinArc). x.from_tran) p.same in
      let tt' : p.arc.to_tran ≡ a.to_tran = ap (λ (x : PinArc). x.to_tran) p.same in
      in_filter (joins s.design from to) (cell_arcs (cell_of s.design Late p.inst)) p.arc
      (subst (λ (o : Option Cell). Contains (cell_arcs o) p.arc) (sym p.cell_is) p.arc_in)
      (and_from (bytes_eq p.arc.from p.from.name && same_tran p.arc.from_tran a.from_tran && bytes_eq p.arc.to p.to.name && same_tran p.arc.to_tran a.to_tran) (arc_stands s.design from.pin to.pin p.arc)
      (and_from (bytes_eq p.arc.from p.from.name && same_tran p.arc.from_tran a.from_tran && bytes_eq p.arc.to p.to.name) (same_tran p.arc.to_tran a.to_tran)
      (and_from (bytes_eq p.arc.from p.from.name && same_tran p.arc.from_tran a.from_tran) (bytes_eq p.arc.to p.to.name)
      (and_from (bytes_eq p.arc.from p.from.name) (same_tran p.arc.from_tran a.from_tran)
      (ap (bytes_eq p.arc.from) p.from_name ∙ same_self p.arc.from)
      (ap (λ t. same_tran t a.from_tran) ft ∙ tran_self a.from_tran))
      (ap (bytes_eq p.arc.to) p.to_name ∙ same_self p.arc.to))
      (ap (λ t. same_tran t a.to_tran) tt' ∙ tran_self a.to_tran))
      (ap (λ b. b || (is_network s.design from.pin && not (is_network s.design to.pin))) comb
      ∙ sym (stands_is a from.pin to.pin p.from_number p.to_number) ∙ e))

  cell_raw : (a : PinArc) → IsPlaced s a → (stands network a && may_enter network a.from a.to) ≡ true → IsRaw s (node_arc a)
  cell_raw a p e =
      let parts = and_parts (stands network a) (may_enter network a.from a.to) e in
      let from : Node = record { pin = cell_pin p.inst p.from; tran = a.from_tran } in
      let to : Node = record { pin = cell_pin p.inst p.to; tran = a.to_tran } in
      let drives : is_driver to.pin ≡ true = dir_flips Output p.to.dir p.to_dir in
      let comb : is_comb p.arc ≡ is_comb_arc a = ap (λ (x : PinArc). comb_kind x.kind) p.same in
      let inside = library_in a p parts.0 in
      let many : nat_lt 0 (length (library_arcs s.design Late from to)) ≡ true = (let low = inside.1 in lt-ltb 0 (length (library_arcs s.design Late from to)) (omega arith)) in
      let near : Contains (flat_map both_nodes (inst_pins s.design p.inst)) from =
      in_flat_map both_nodes (inst_pins s.design p.inst) from.pin from (its_pin p.inst p.cell p.from p.cell_is p.from_in) (both_in from.pin a.from_tran) in
      let lists : all_arcs_in s.design to ≡ cell_arcs_in s.design to p.inst =
      ap (λ x. if x then cell_arcs_in s.design to p.inst else net_arcs_in s.design to) drives in
      record {
        from = from;
        from_has = record { pin = a.from; has = p.from_number; number = refl };
        to = to;
        to_has = record { pin = a.to; has = p.to_number; number = refl };
        within =
            entered from to
            (subst (λ (xs : List Node). Contains xs from) (sym lists)
            (in_filter (λ (f : Node). nat_lt 0 (length (library_arcs s.design Late f to))) (flat_map both_nodes (inst_pins s.design p.inst)) from near many))
            (sym (enters_is from.pin to.pin a.from a.to p.from_number p.to_number) ∙ parts.1);
        of = inr (record {
          drives = drives;
          arc = p.arc;
          within = inside;
          kind_is = ap (λ b. if b then cell_kind else Register) (sym comb);
          edge_is = ap not (sym comb);
        });
      }

  pair_back : (a b : ℕ) (r : GraphArc) → Contains (net_pair network b a) r
      → (may_enter network a b ≡ true) × (t : Tran) × (net_arc (node_number a t) (node_number b t) ≡ r)
  pair_back a b r c = by (may_enter network a b) refl c
    where
      by : (t : Bool) → may_enter network a b ≡ t
          → Contains (if t then net_arc (node_number a Rise) (node_number b Rise) ∷ net_arc (node_number a Fall) (node_number b Fall) ∷ [] else []) r
          → (may_enter network a b ≡ true) × (u : Tran) × (net_arc (node_number a u) (node_number b u) ≡ r)
      by true e d = elim (in_cases (net_arc (node_number a Rise) (node_number b Rise)) (net_arc (node_number a Fall) (node_number b Fall) ∷ []) r d) [
        | inl same ↦ (e, Rise, same)
        | inr q ↦ elim (in_cases (net_arc (node_number a Fall) (node_number b Fall)) [] r q) [ inl same ↦ (e, Fall, same) | inr none ↦ absurd (none_in r none) ]
      ]
      by false e d = absurd (none_in r d)

  net_back : (r : GraphArc) → Contains (net_node_arcs s network) r
      → (a b : ℕ) × (before s b ≡ Some a) × (b < length s.pins) × (may_enter network a b ≡ true) × (t : Tran) × (net_arc (node_number a t) (node_number b t) ≡ r)
  net_back r c =
      let k = in_flat_map_back (net_arcs_into s network) (range_with_len 0 (length s.pins)) r c in by k.item (before s k.item) refl k.inside
    where
      by : (b : ℕ) (o : Option ℕ) → before s b ≡ o → Contains (option_map_or (net_pair network b) o []) r
          → (a' b' : ℕ) × (before s b' ≡ Some a') × (b' < length s.pins) × (may_enter network a' b' ≡ true) × (t : Tran) × (net_arc (node_number a' t) (node_number b' t) ≡ r)
      by b None e d = absurd (none_in r d)
      by b (Some a) e d =
          let q = pair_back a b r d in
          let n = net_arc_back s num linked a b e in
          (a, b, e, n.sink_number.below, q.0, q.1, q.2)

  cell_back : (r : GraphArc) → Contains (filter_map (standing_arc network) (pin_arcs s)) r
      → (a : PinArc) × Contains (pin_arcs s) a × ((stands network a && may_enter network a.from a.to) ≡ true) × (node_arc a ≡ r)
  cell_back r c =
      let m = in_filter_map_back (standing_arc network) (pin_arcs s) r c in
      let h = cond_some (stands network m.item && may_enter network m.item.from m.item.to) (node_arc m.item) r m.same in
      (m.item, m.within, h.0, h.1)

  -- an arc by numbers is an arc of the design
  pub raw_back : (r : GraphArc) → Contains (node_arcs s network) r → IsRaw s r
  raw_back r c = elim (Contains-append_cases (net_node_arcs s network) (filter_map (standing_arc network) (pin_arcs s)) r c) [
    | inl d ↦
        let n = net_back r d in
        subst (λ (x : GraphArc). IsRaw s x) n.6 (net_raw n.0 n.1 n.5 (net_arc_back s num linked n.0 n.1 n.2) n.4)
    | inr d ↦
        let a = cell_back r d in
        subst (λ (x : GraphArc). IsRaw s x) a.3 (cell_raw a.0 (placed_back s num linked a.0 a.1) a.2)
  ]

  -- each arc of the design is there
  pair_in : (a b : ℕ) (t : Tran) → may_enter network a b ≡ true → Contains (net_pair network b a) (net_arc (node_number a t) (node_number b t))
  pair_in a b t e =
      subst (λ (xs : List GraphArc). Contains xs (net_arc (node_number a t) (node_number b t)))
      (sym (ap (λ x. if x then net_arc (node_number a Rise) (node_number b Rise) ∷ net_arc (node_number a Fall) (node_number b Fall) ∷ [] else []) e)) (by t)
    where
      by : (u : Tran) → Contains (net_arc (node_number a Rise) (node_number b Rise) ∷ net_arc (node_number a Fall) (node_number b Fall) ∷ []) (net_arc (node_number a u) (node_number b u))
      by Rise = (0, omega arith, refl)
      by Fall = (1, omega arith, refl)

  net_in : (a b : ℕ) (t : Tran) → before s b ≡ Some a → b < length s.pins → may_enter network a b ≡ true
      → Contains (node_arcs s network) (net_arc (node_number a t) (node_number b t))
  net_in a b t e low enters =
      Contains-append_left (net_node_arcs s network) (filter_map (standing_arc network) (pin_arcs s)) (net_arc (node_number a t) (node_number b t))
      (in_flat_map (net_arcs_into s network) (range_with_len 0 (length s.pins)) b (net_arc (node_number a t) (node_number b t)) (number_in (length s.pins) b low)
      (subst (λ (o : Option ℕ). Contains (option_map_or (net_pair network b) o []) (net_arc (node_number a t) (node_number b t))) (sym e) (pair_in a b t enters)))

  module _ (from to : Node) (f t : ℕ) (hf : HasNode s from f) (ht : HasNode s to t) (c : Contains (arcs_in s.design to) from) where
    parts_in : Contains (all_arcs_in s.design to) from × ((not (is_network s.design to.pin) || is_network s.design from.pin) ≡ true)
    parts_in = entered_back from to c

    may : may_enter network hf.pin ht.pin ≡ true
    may = enters_is from.pin to.pin hf.pin ht.pin hf.has ht.has ∙ parts_in.1

    -- the arc of a net
    pub net_there : is_driver to.pin ≡ false → Contains (node_arcs s network) (net_arc f t)
    net_there sinking =
        let all : Contains (net_arcs_in s.design to) from =
        subst (λ (xs : List Node). Contains xs from) (ap (λ x. if x then option_map_or (cell_arcs_in s.design to) to.pin.owner [] else net_arcs_in s.design to) sinking) parts_in.0 in
        let m = in_map_back (λ (pin : Pin). record { pin = pin; tran = to.tran }) (driver_on s.design (net_of to.pin)) from all in
        let pin : m.item ≡ from.pin = ap (λ (n : Node). n.pin) m.same in
        let tran : to.tran ≡ from.tran = ap (λ (n : Node). n.tran) m.same in
        let into : before s ht.pin ≡ Some hf.pin = by (net_of to.pin) refl (subst (λ (p : Pin). Contains (driver_on s.design (net_of to.pin)) p) pin m.within) in
        subst (λ (x : GraphArc). Contains (node_arcs s network) x)
        (ap (λ n. net_arc n (node_number ht.pin to.tran)) (ap (node_number hf.pin) tran ∙ sym hf.number) ∙ ap (λ n. net_arc f n) (sym ht.number))
        (net_in hf.pin ht.pin to.tran into ht.has.below may)
      where
        from_driver : (net : List ℕ) → net_of to.pin ≡ Some net → (o : Option Pin) → driver s.design net ≡ o → Contains (option_to_list o) from.pin → before s ht.pin ≡ Some hf.pin
        from_driver net on None e d = absurd (none_in from.pin d)
        from_driver net on (Some q) e d = elim (in_cases q [] from.pin d) [
          | inl same ↦
              ap (option_and_then (net_before s)) ht.has.pin
              ∙ ap (λ x. if x then None else option_and_then (driver_number s) (net_of to.pin)) sinking
              ∙ ap (option_and_then (driver_number s)) on
              ∙ ap (option_and_then (λ pin. number_of s.pins (name_of pin))) (e ∙ ap Some same)
              ∙ hf.has.number
          | inr none ↦ absurd (none_in from.pin none)
        ]

        by : (o : Option (List ℕ)) → net_of to.pin ≡ o → Contains (driver_on s.design o) from.pin → before s ht.pin ≡ Some hf.pin
        by None on d = absurd (none_in from.pin d)
        by (Some net) on d = from_driver net on (driver s.design net) refl d

    -- the instance of an arc of a cell
    owner_in : is_driver to.pin ≡ true → (o : Option Inst) → to.pin.owner ≡ o → Contains (option_map_or (cell_arcs_in s.design to) o []) from
        → (i : Inst) × (to.pin.owner ≡ Some i) × Contains (flat_map both_nodes (inst_pins s.design i)) from × (nat_lt 0 (length (library_arcs s.design Late from to)) ≡ true)
    owner_in drives None e d = absurd (none_in from d)
    owner_in drives (Some i) e d = (
      i,
      e,
      kept_in (λ (n : Node). nat_lt 0 (length (library_arcs s.design Late n to))) (flat_map both_nodes (inst_pins s.design i)) from d,
      passes_in (λ (n : Node). nat_lt 0 (length (library_arcs s.design Late n to))) (flat_map both_nodes (inst_pins s.design i)) from d,
    )

    inst_in : is_driver to.pin ≡ true
        → (i : Inst) × (to.pin.owner ≡ Some i) × Contains (flat_map both_nodes (inst_pins s.design i)) from × (nat_lt 0 (length (library_arcs s.design Late from to)) ≡ true)
    inst_in drives =
        owner_in drives to.pin.owner refl
        (subst (λ (xs : List Node). Contains xs from) (ap (λ x. if x then option_map_or (cell_arcs_in s.design to) to.pin.owner [] else net_arcs_in s.design to) drives) parts_in.0)

    -- some library arc makes it
    pub library_there : is_driver to.pin ≡ true → (arc : CellArc) × Contains (library_arcs s.design Late from to) arc
    library_there drives = first (library_arcs s.design Late from to) (inst_in drives).3
      where
        first : (xs : List CellArc) → nat_lt 0 (length xs) ≡ true → (arc : CellArc) × Contains xs arc
        first [] e = absurd (false≢true e)
        first (x ∷ xs) e = (x, first_in x xs)

    pub cell_there : is_driver to.pin ≡ true → (arc : CellArc) → Contains (library_arcs s.design Late from to) arc
        → Contains (node_arcs s network) (record { from = f; to = t; kind = (if is_comb arc then cell_kind else Register); edge = not (is_comb arc) })
    cell_there drives arc within =
        let i = inst_in drives in
        let listed : Contains (filter (joins s.design from to) (cell_arcs (cell_of s.design Late i.0))) arc =
        subst (λ (xs : List CellArc). Contains xs arc) (ap (λ o. option_map_or (λ inst. filter (joins s.design from to) (cell_arcs (cell_of s.design Late inst))) o []) i.1) within in
        let cell_arc = kept_in (joins s.design from to) (cell_arcs (cell_of s.design Late i.0)) arc listed in
        let passes = passes_in (joins s.design from to) (cell_arcs (cell_of s.design Late i.0)) arc listed in
        let p1 = and_parts (bytes_eq arc.from from.pin.own && same_tran arc.from_tran from.tran && bytes_eq arc.to to.pin.own && same_tran arc.to_tran to.tran) (arc_stands s.design from.pin to.pin arc) passes in
        let p2 = and_parts (bytes_eq arc.from from.pin.own && same_tran arc.from_tran from.tran && bytes_eq arc.to to.pin.own) (same_tran arc.to_tran to.tran) p1.0 in
        let p3 = and_parts (bytes_eq arc.from from.pin.own && same_tran arc.from_tran from.tran) (bytes_eq arc.to to.pin.own) p2.0 in
        let p4 = and_parts (bytes_eq arc.from from.pin.own) (same_tran arc.from_tran from.tran) p3.0 in
        let near = in_flat_map_back both_nodes (inst_pins s.design i.0) from i.2 in
        let to_own = own_back s.design linked to.pin i.0 ht.has.within i.1 in
        let from_own = own_pins s.design linked i.0 from.pin to_own.inst
        (subst (λ (q : Pin). Contains (inst_pins s.design i.0) q) (sym (both_pin near.item from near.inside)) near.within) in
        let na : own_number s i.0 arc.from ≡ Some hf.pin =
        ap (own_number s i.0) (same_is arc.from from.pin.own p4.0) ∙ ap (λ (x : Pin). own_number s i.0 x.own) from_own.same
        ∙ sym (ap (λ (x : Pin). number_of s.pins (name_of x)) from_own.same) ∙ hf.has.number in
        let nb : own_number s i.0 arc.to ≡ Some ht.pin =
        ap (own_number s i.0) (same_is arc.to to.pin.own p3.1) ∙ ap (λ (x : Pin). own_number s i.0 x.own) to_own.same
        ∙ sym (ap (λ (x : Pin). number_of s.pins (name_of x)) to_own.same) ∙ ht.has.number in
        let numbered : numbered_arc s i.0 arc ≡ Some (pin_arc arc hf.pin ht.pin) =
        ap (λ n. arc_between arc n (own_number s i.0 arc.to)) na ∙ ap (arc_between arc (Some hf.pin)) nb in
        let a : PinArc = pin_arc arc hf.pin ht.pin in
        let placed = placed_in s num linked i.0 arc a to_own.inst cell_arc numbered in
        let standing : stands network a ≡ true = stands_is a from.pin to.pin hf.has ht.has ∙ p1.1 in
        let some : standing_arc network a ≡ Some (node_arc a) =
        ap (λ b. if b then Some (node_arc a) else None) (and_from (stands network a) (may_enter network hf.pin ht.pin) standing may) in
        let froms : node_number hf.pin arc.from_tran ≡ f = ap (node_number hf.pin) (same_trans arc.from_tran from.tran p4.1) ∙ sym hf.number in
        let tos : node_number ht.pin arc.to_tran ≡ t = ap (node_number ht.pin) (same_trans arc.to_tran to.tran p2.1) ∙ sym ht.number in
        let is = library_arc_at arc (node_number hf.pin arc.from_tran) f (node_number ht.pin arc.to_tran) t froms tos in
        Contains-append_right (net_node_arcs s network) (filter_map (standing_arc network) (pin_arcs s)) (record { from = f; to = t; kind = (if is_comb arc then cell_kind else Register); edge = not (is_comb arc) })
        (subst (λ (x : GraphArc). Contains (filter_map (standing_arc network) (pin_arcs s)) x) is
        (in_filter_map (standing_arc network) (pin_arcs s) a (node_arc a) placed some))

  -- numbers within the bound
  pub raw_within : (r : GraphArc) → Contains (node_arcs s network) r → (r.from < node_bound s) × (r.to < node_bound s)
  raw_within r c = let k = raw_back r c in (node_below s k.from r.from k.from_has, node_below s k.to r.to k.to_has)

  -- under each arc between nodes there is one between pins
  pub raw_under : (r : GraphArc) → Contains (node_arcs s network) r → Contains (pin_links s) (record { from = pin_under r.from; to = pin_under r.to })
  raw_under r c = elim (Contains-append_cases (net_node_arcs s network) (filter_map (standing_arc network) (pin_arcs s)) r c) [
    | inl d ↦
        let n = net_back r d in
        let t = n.5 in
        let link : Contains (net_links s) (link_from n.1 n.0) =
        in_filter_map (link_into s) (range_with_len 0 (length s.pins)) n.1 (link_from n.1 n.0) (number_in (length s.pins) n.1 n.3) (ap (option_map (link_from n.1)) n.2) in
        subst (λ (l : Link). Contains (pin_links s) l)
        (ap (λ k. record { from = k; to = n.1 }) (sym (under_number n.0 t)) ∙ ap (λ k. record { from = pin_under (node_number n.0 t); to = k }) (sym (under_number n.1 t))
        ∙ ap (λ (x : GraphArc). record { from = pin_under x.from; to = pin_under x.to }) n.6)
        (Contains-append_left (net_links s) (map link_of (pin_arcs s)) (link_from n.1 n.0) link)
    | inr d ↦
        let a = cell_back r d in
        subst (λ (l : Link). Contains (pin_links s) l)
        (ap (λ k. record { from = k; to = a.0.to }) (sym (under_number a.0.from a.0.from_tran)) ∙ ap (λ k. record { from = pin_under (node_number a.0.from a.0.from_tran); to = k }) (sym (under_number a.0.to a.0.to_tran))
        ∙ ap (λ (x : GraphArc). record { from = pin_under x.from; to = pin_under x.to }) a.3)
        (Contains-append_right (net_links s) (map link_of (pin_arcs s)) (link_of a.0) (in_map link_of (pin_arcs s) a.0 a.1))
  ]
