-- The arcs into and out of nodes are those of the design.

use Rattle.std.proofs.Common.{◌≡◌, ◌⊎◌, ℕ, suc, ◌+◌, ◌<◌, ◌==◌, Bool, true, false, cond, not, List, [], ◌∷◌, filter, Some, refl, sym, ap, subst, ◌∙◌, inl, inr, arith}
use Rattle.std.specs.Prelude.{nat_eq, ◌&&◌, if◌then◌else◌, Contains, count_by}
use Rattle.std.specs.List.{list_any}
use Rattle.std.proofs.lemmas.Bool.{cases_Bool, cases_lt, false≢true, and_parts, and_from, eqb-true, eq-eqb, false_from_ne_true}
use Rattle.std.proofs.lemmas.List.Elements.{All-contains}
use Rattle.std.proofs.lemmas.List.Sums.{sum_by-cons}
use Rattle.timing_defs.specs.declared.kinds.Split.TheVariants.{Late}
use Rattle.timing_defs.specs.Netlist.{Node, is_driver}
use Rattle.timing_defs.specs.Kinds.{is_comb}
use Rattle.timing_rules.specs.Rows.{library_arcs, arcs_in}
use Rattle.timing_rules.specs.Cones.{has_comb_arc, has_register_arc}
use Rattle.netlist_store.specs.Linked.{IsLinked}
use Rattle.netlist_store.specs.Numbering.{Stored, IsNumbered}
use Rattle.pin_graph.specs.declared.arcs.GraphKind.{GraphKind}
use Rattle.pin_graph.specs.declared.arcs.GraphKind.TheVariants.{Net as net_kind, Cell as cell_kind, Register}
use Rattle.pin_graph.specs.declared.arcs.GraphArc.{GraphArc}
use Rattle.pin_graph.specs.Networks.{IsNetwork}
use Rattle.pin_graph.specs.Nodes.{node_at, node_bound}
use Rattle.pin_graph.specs.NodeArcs.{is_cell, node_arcs, raw_into, net_arc, has_comb_from, has_edge_from, AreJoined, AreMerged}
use Rattle.pin_graph.specs.Kept.{AreTurned}
use Rattle.pin_graph.specs.Graphs.{kind_between, from_of, to_of, IsArc, AreArcs}
use Rattle.timing_defs.proofs.Members.{in_filter, passes_in, kept_in, any_in, any_back}
use Rattle.pin_graph.proofs.WalkLaws.{both_same}
use Rattle.pin_graph.proofs.NodeLaws.{HasNode, IsOf, has_node, node_told, node_below, same_node_at, raw_back, net_there, library_there, cell_there}

-- counting what passes two tests
filter_more : {X : Type 0} (p q : X → Bool) (x : X) (xs : List X) → count_by p (filter q (x ∷ xs)) ≡ cond (q x && p x) 1 0 + count_by p (filter q xs)
filter_more p q x xs = elim (cases_Bool (q x)) [
  | inl h ↦ rw h (sum_by-cons (λ y. cond (p y) 1 0) x (filter q xs))
  | inr h ↦ rw h (omega arith)
]

pub count_filter : {X : Type 0} (p q : X → Bool) (xs : List X) → count_by p (filter q xs) ≡ count_by (λ x. q x && p x) xs
count_filter p q [] = refl
count_filter p q (x ∷ xs) =
    filter_more p q x xs ∙ ap (λ n. cond (q x && p x) 1 0 + n) (count_filter p q xs) ∙ sym (sum_by-cons (λ y. cond (q y && p y) 1 0) x xs)

count_swap : {X : Type 0} (p q : X → Bool) (xs : List X) → count_by (λ x. q x && p x) xs ≡ count_by (λ x. p x && q x) xs
count_swap p q [] = refl
count_swap p q (x ∷ xs) =
    sum_by-cons (λ y. cond (q y && p y) 1 0) x xs ∙ ap (λ b. cond b 1 0 + count_by (λ y. q y && p y) xs) (flips (q x) (p x))
    ∙ ap (λ n. cond (p x && q x) 1 0 + n) (count_swap p q xs) ∙ sym (sum_by-cons (λ y. cond (p y && q y) 1 0) x xs)
  where
    flips : (a b : Bool) → (a && b) ≡ (b && a)
    flips true true = refl
    flips true false = refl
    flips false true = refl
    flips false false = refl

pub counts_none : {X : Type 0} (p : X → Bool) (xs : List X) → ((x : X) → Contains xs x → p x ≡ true → ⊥) → count_by p xs ≡ 0
counts_none p [] h = refl
counts_none p (x ∷ xs) h =
    let fails : p x ≡ false = false_from_ne_true (p x) (λ e. h x (0, omega arith, refl) e) in
    let nil : cond {A = ℕ} (p x) 1 0 ≡ 0 = rw fails refl in
    let more = counts_none p xs (λ y c. let low = c.1 in h y (suc c.0, omega arith, c.2)) in
    omega (arith, sum_by-cons (λ y. cond (p y) 1 0) x xs)

-- an arc by its parts
pub same_parts : (a b : GraphArc) → a.from ≡ b.from → a.to ≡ b.to → a.kind ≡ b.kind → a.edge ≡ b.edge → a ≡ b
same_parts a b f t k e =
    ap (λ n. record { from = n; to = a.to; kind = a.kind; edge = a.edge }) f
    ∙ ap (λ n. record { from = b.from; to = n; kind = a.kind; edge = a.edge }) t
    ∙ ap (λ n. record { from = b.from; to = b.to; kind = n; edge = a.edge }) k
    ∙ ap (λ n. record { from = b.from; to = b.to; kind = b.kind; edge = n }) e

kind_of : (k : GraphKind) (c : Bool) → is_cell k ≡ c → (k ≡ cell_kind) ⊎ (k ≡ Register) → k ≡ (if c then cell_kind else Register)
kind_of k c e (inl f) = f ∙ ap (λ b. if b then cell_kind else Register) (sym (ap is_cell f) ∙ e)
kind_of k c e (inr f) = f ∙ ap (λ b. if b then cell_kind else Register) (sym (ap is_cell f) ∙ e)

either : (b : Bool) (k : GraphKind) → k ≡ (if b then cell_kind else Register) → (k ≡ cell_kind) ⊎ (k ≡ Register)
either true k e = inl e
either false k e = inr e

module _ (s : Stored) (num : IsNumbered s) (linked : IsLinked s.design) (network : List Bool) (net : IsNetwork s network) where
  -- the arcs into a node from another, as they are found
  module _ (from to : Node) (f t : ℕ) (hf : HasNode s from f) (ht : HasNode s to t) (c : Contains (arcs_in s.design to) from) where
    abbrev into : List GraphArc
    into = filter (λ arc. arc.to == t) (node_arcs s network)

    into_in : (r : GraphArc) → Contains (node_arcs s network) r → r.to ≡ t → Contains into r
    into_in r d e = in_filter (λ (arc : GraphArc). arc.to == t) (node_arcs s network) r d (eq-eqb r.to t e)

    -- one that is found is of the same nodes
    of_same : (r : GraphArc) → Contains into r → r.from ≡ f → IsOf s.design from to r.kind r.edge
    of_same r d e =
        let k = raw_back s num linked network net r (kept_in (λ (arc : GraphArc). arc.to == t) (node_arcs s network) r d) in
        let at : r.to ≡ t = eqb-true r.to t (passes_in (λ (arc : GraphArc). arc.to == t) (node_arcs s network) r d) in
        let same_from : k.from ≡ from = same_node_at s k.from from f (ap (node_at s) (sym e) ∙ node_told s k.from r.from k.from_has) (node_told s from f hf) in
        let same_to : k.to ≡ to = same_node_at s k.to to t (ap (node_at s) (sym at) ∙ node_told s k.to r.to k.to_has) (node_told s to t ht) in
        subst (λ (n : Node). IsOf s.design from n r.kind r.edge) same_to (subst (λ (n : Node). IsOf s.design n k.to r.kind r.edge) same_from k.of)

    comb_is : has_comb_from into f ≡ has_comb_arc s.design from to
    comb_is =
        both_same (has_comb_from into f) (has_comb_arc s.design from to)
        (λ e.
        let r = any_back (λ (arc : GraphArc). nat_eq arc.from f && is_cell arc.kind) into e in
        let p = and_parts (nat_eq r.item.from f) (is_cell r.item.kind) r.passes in
        elim (of_same r.item r.within (eqb-true r.item.from f p.0)) [
          | inl n ↦ absurd (false≢true (sym (ap is_cell n.1) ∙ p.1))
          | inr l ↦
              and_from (is_driver to.pin) (list_any is_comb (library_arcs s.design Late from to)) l.drives
              (any_in is_comb (library_arcs s.design Late from to) l.arc l.within (combs (is_comb l.arc) (sym (ap is_cell l.kind_is) ∙ p.1)))
        ])
        (λ e.
        let p = and_parts (is_driver to.pin) (list_any is_comb (library_arcs s.design Late from to)) e in
        let a = any_back is_comb (library_arcs s.design Late from to) p.1 in
        let r : GraphArc = record { from = f; to = t; kind = (if is_comb a.item then cell_kind else Register); edge = not (is_comb a.item) } in
        any_in (λ (arc : GraphArc). nat_eq arc.from f && is_cell arc.kind) into r
        (into_in r (cell_there s num linked network net from to f t hf ht c p.0 a.item a.within) refl)
        (and_from (nat_eq f f) (is_cell r.kind) (eq-eqb f f refl) (ap (λ b. is_cell (if b then cell_kind else Register)) a.passes)))
      where
        combs : (b : Bool) → is_cell (if b then cell_kind else Register) ≡ true → b ≡ true
        combs true e = refl
        combs false e = absurd (false≢true e)

    edge_is : has_edge_from into f ≡ has_register_arc s.design from to
    edge_is =
        both_same (has_edge_from into f) (has_register_arc s.design from to)
        (λ e.
        let r = any_back (λ (arc : GraphArc). nat_eq arc.from f && arc.edge) into e in
        let p = and_parts (nat_eq r.item.from f) r.item.edge r.passes in
        elim (of_same r.item r.within (eqb-true r.item.from f p.0)) [
          | inl n ↦ absurd (false≢true (sym n.2 ∙ p.1))
          | inr l ↦
              and_from (is_driver to.pin) (list_any (λ arc. not (is_comb arc)) (library_arcs s.design Late from to)) l.drives
              (any_in (λ arc. not (is_comb arc)) (library_arcs s.design Late from to) l.arc l.within (sym l.edge_is ∙ p.1))
        ])
        (λ e.
        let p = and_parts (is_driver to.pin) (list_any (λ arc. not (is_comb arc)) (library_arcs s.design Late from to)) e in
        let a = any_back (λ arc. not (is_comb arc)) (library_arcs s.design Late from to) p.1 in
        let r : GraphArc = record { from = f; to = t; kind = (if is_comb a.item then cell_kind else Register); edge = not (is_comb a.item) } in
        any_in (λ (arc : GraphArc). nat_eq arc.from f && arc.edge) into r
        (into_in r (cell_there s num linked network net from to f t hf ht c p.0 a.item a.within) refl)
        (and_from (nat_eq f f) r.edge (eq-eqb f f refl) a.passes))

    -- the kind of the one arc
    kind_is : (y : GraphArc) (item : GraphArc) → Contains into item → item.from ≡ f → item.kind ≡ y.kind → is_cell y.kind ≡ has_comb_from into f → y.kind ≡ kind_between s.design from to
    kind_is y item d e k cell = elim (of_same item d e) [
      | inl n ↦ sym k ∙ n.1 ∙ sym (ap (λ b. if b then (if has_comb_arc s.design from to then cell_kind else Register) else net_kind) n.0)
      | inr l ↦
          kind_of y.kind (has_comb_arc s.design from to) (cell ∙ comb_is) (either (is_comb l.arc) y.kind (sym k ∙ l.kind_is))
          ∙ sym (ap (λ b. if b then (if has_comb_arc s.design from to then cell_kind else Register) else net_kind) l.drives)
    ]

    -- some arc is found
    found : (r : GraphArc) × Contains into r × (r.from ≡ f)
    found = by (is_driver to.pin) refl
      where
        by : (b : Bool) → is_driver to.pin ≡ b → (r : GraphArc) × Contains into r × (r.from ≡ f)
        by false e = (net_arc f t, into_in (net_arc f t) (net_there s num linked network net from to f t hf ht c e) refl, refl)
        by true e =
            let a = library_there s num linked network net from to f t hf ht c e in
            let r : GraphArc = record { from = f; to = t; kind = (if is_comb a.0 then cell_kind else Register); edge = not (is_comb a.0) } in
            (r, into_in r (cell_there s num linked network net from to f t hf ht c e a.0 a.1) refl, refl)

  -- the arcs into each node are joined of those that are found
  module _ (fan : ℕ → List GraphArc) (joined : (node : ℕ) → node < node_bound s → AreJoined (raw_into s network node) (fan node)) where
    sound_in : (t : ℕ) → t < node_bound s → (y : GraphArc) → Contains (fan t) y → IsArc s y × (y.to ≡ t)
    sound_in t low y c =
        let j = joined t low in
        let at : y.to ≡ t = j.to t (λ x d. eqb-true x.to t (passes_in (λ (arc : GraphArc). arc.to == t) (node_arcs s network) x d)) y c in
        let like = j.sound y c in
        let k = raw_back s num linked network net like.item (kept_in (λ (arc : GraphArc). arc.to == t) (node_arcs s network) like.item like.within) in
        let item_at : like.item.to ≡ t = eqb-true like.item.to t (passes_in (λ (arc : GraphArc). arc.to == t) (node_arcs s network) like.item like.within) in
        let hf : HasNode s k.from y.from = subst (λ (n : ℕ). HasNode s k.from n) like.from k.from_has in
        let ht : HasNode s k.to t = subst (λ (n : ℕ). HasNode s k.to n) item_at k.to_has in (
          record {
            from = k.from;
            from_number = node_told s k.from y.from hf;
            to = k.to;
            to_number = ap (node_at s) at ∙ node_told s k.to t ht;
            within = k.within;
            kind = kind_is k.from k.to y.from t hf ht k.within y like.item like.within like.from like.kind (j.cell y c);
            edge = j.edge y c ∙ edge_is k.from k.to y.from t hf ht k.within;
          },
          at,
        )

    all_in' : (t : ℕ) → t < node_bound s → (y : GraphArc) → IsArc s y → y.to ≡ t → Contains (fan t) y
    all_in' t low y a at =
        let j = joined t low in
        let hf = has_node s num linked y.from a.from a.from_number in
        let to_at : node_at s t ≡ Some a.to = ap (node_at s) (sym at) ∙ a.to_number in
        let ht = has_node s num linked t a.to to_at in
        let r = found a.from a.to y.from t hf ht a.within in
        let one = any_back (λ (z : GraphArc). nat_eq z.from r.0.from) (fan t) (j.all r.0 r.1) in
        let s_one = sound_in t low one.item one.within in
        let z = s_one.0 in
        let from_is : one.item.from ≡ y.from = eqb-true one.item.from r.0.from one.passes ∙ r.2 in
        let nf : z.from ≡ a.from = same_node_at s z.from a.from y.from (ap (node_at s) (sym from_is) ∙ z.from_number) a.from_number in
        let nt : z.to ≡ a.to = same_node_at s z.to a.to t (ap (node_at s) (sym s_one.1) ∙ z.to_number) to_at in
        subst (λ (x : GraphArc). Contains (fan t) x)
        (same_parts one.item y from_is (s_one.1 ∙ sym at)
        (z.kind ∙ ap (λ n. kind_between s.design n z.to) nf ∙ ap (kind_between s.design a.from) nt ∙ sym a.kind)
        (z.edge ∙ ap (λ n. has_register_arc s.design n z.to) nf ∙ ap (has_register_arc s.design a.from) nt ∙ sym a.edge))
        one.within

    -- the arcs into a node
    pub arcs_into : (t : ℕ) → t < node_bound s → AreArcs s to_of from_of t (fan t)
    arcs_into t low = record {
      sound = λ y c. sound_in t low y c;
      all = λ y a at. all_in' t low y a at;
      once = λ other. (joined t low).once other;
    }

    -- the arcs out of a node
    pub arcs_out_of : (outs : ℕ → List GraphArc) → AreTurned (node_bound s) fan outs → (f : ℕ) → f < node_bound s → AreArcs s from_of to_of f (outs f)
    arcs_out_of outs outward f low = record {
      sound = λ y c. let h = outward.sound f low y c in ((sound_in y.to h.1 y h.2).0, h.0);
      all = λ y a at.
          let below = node_below s a.to y.to (has_node s num linked y.to a.to a.to_number) in
          let h = outward.all y.to below y (all_in' y.to below y a refl) in
          subst (λ (n : ℕ). Contains (outs n) y) at h.2;
      once = λ other. outward.once f low other;
    }

-- lists of merged arcs, at both ends
pub outward_of : (n : ℕ) (raw arcs : List GraphArc) (ins outs : ℕ → List GraphArc) → AreMerged n raw arcs
    → ((t : ℕ) → t < n → ins t ≡ filter (λ arc. arc.to == t) arcs) → ((f : ℕ) → f < n → outs f ≡ filter (λ arc. arc.from == f) arcs) → AreTurned n ins outs
outward_of n raw arcs ins outs merged ins_is outs_is = record {
  sound = λ f low y c.
      let d = subst (λ (xs : List GraphArc). Contains xs y) (outs_is f low) c in
      let e = kept_in (λ (arc : GraphArc). arc.from == f) arcs y d in
      let below = both_low y e in (
        eqb-true y.from f (passes_in (λ (arc : GraphArc). arc.from == f) arcs y d),
        below.1,
        subst (λ (xs : List GraphArc). Contains xs y) (sym (ins_is y.to below.1)) (in_filter (λ (arc : GraphArc). arc.to == y.to) arcs y e (eq-eqb y.to y.to refl)),
      );
  all = λ t low y c.
      let d = subst (λ (xs : List GraphArc). Contains xs y) (ins_is t low) c in
      let e = kept_in (λ (arc : GraphArc). arc.to == t) arcs y d in
      let below = both_low y e in (
        eqb-true y.to t (passes_in (λ (arc : GraphArc). arc.to == t) arcs y d),
        below.0,
        subst (λ (xs : List GraphArc). Contains xs y) (sym (outs_is y.from below.0)) (in_filter (λ (arc : GraphArc). arc.from == y.from) arcs y e (eq-eqb y.from y.from refl)),
      );
  once = λ f low other.
      let swapped : count_by (λ (arc : GraphArc). nat_eq arc.to other) (filter (λ arc. arc.from == f) arcs) ≡ count_by (λ (arc : GraphArc). nat_eq arc.from f) (filter (λ arc. arc.to == other) arcs) =
      count_filter (λ (arc : GraphArc). nat_eq arc.to other) (λ arc. arc.from == f) arcs
      ∙ count_swap (λ (arc : GraphArc). nat_eq arc.to other) (λ arc. arc.from == f) arcs
      ∙ sym (count_filter (λ (arc : GraphArc). nat_eq arc.from f) (λ arc. arc.to == other) arcs) in
      let here : count_by (λ (arc : GraphArc). nat_eq arc.to other) (outs f) ≡ count_by (λ (arc : GraphArc). nat_eq arc.to other) (filter (λ arc. arc.from == f) arcs) =
      ap (count_by (λ (arc : GraphArc). nat_eq arc.to other)) (outs_is f low) in
      elim (cases_lt other n) [
        | inl below ↦ let few = (merged.each other below).once f in omega arith
        | inr above ↦
            let none = counts_none (λ (arc : GraphArc). nat_eq arc.to other) (filter (λ arc. arc.from == f) arcs)
            (λ y c e. let at = eqb-true y.to other e in let b = (both_low y (kept_in (λ (arc : GraphArc). arc.from == f) arcs y c)).1 in omega arith) in
            omega arith
      ];
}
  where
    both_low : (y : GraphArc) → Contains arcs y → (y.from < n) × (y.to < n)
    both_low y c = All-contains (λ (x : GraphArc). (x.from < n) × (x.to < n)) arcs y merged.nodes c
