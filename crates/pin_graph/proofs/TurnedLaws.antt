-- A node that no edit touched is not turned, where the clock network is left.

use Rattle.std.proofs.Common.{◌≡◌, ℕ, ◌<◌, Bool, true, false, not, List, [], ◌∷◌, refl, sym, ap, subst, ◌∙◌, inl, inr, arith}
use Rattle.std.specs.Prelude.{nat_eq, is_some, Contains, ◌&&◌, ◌||◌, if◌then◌else◌}
use Rattle.std.specs.List.{list_any, list_all}
use Rattle.std.specs.Option.{option_map_or}
use Rattle.std.proofs.lemmas.Bool.{cases_Bool, and_parts, and_from, eqb-true, eq-eqb}
use Rattle.timing_defs.specs.Touches.{Touch}
use Rattle.timing_rules.specs.Cones.{same_truth}
use Rattle.netlist_store.specs.Applying.{IsEditOf}
use Rattle.netlist_store.specs.Numbering.{is_number, IsNumbered}
use Rattle.eco_laws.specs.Kept.{is_touched_pin}
use Rattle.eco_laws.proofs.EditOf.{base_linked, edited_linked}
use Rattle.eco_laws.proofs.Numbers.{pin_before}
use Rattle.pin_graph.specs.declared.arcs.GraphArc.{GraphArc}
use Rattle.pin_graph.specs.NodeArcs.{marked, is_cell, has_comb_from, has_edge_from, raw_into, AreJoined}
use Rattle.pin_graph.specs.Nodes.{node_bound, pin_under}
use Rattle.pin_graph.specs.Graphs.{Graphed, fan_at, network_at}
use Rattle.pin_graph.specs.Seeds.{is_touched_at, same_graph_arc, same_fans, is_turned, is_moved}
use Rattle.pin_graph.specs.Kept.{IsKeptGraph}
use Rattle.pin_graph.specs.Pulls.{is_left}
use Rattle.timing_defs.proofs.Members.{any_in, any_back, first_in, later_in}
use Rattle.store_pins.proofs.PinLaws.{pin_of_number, pin_at_number}
use Rattle.pin_graph.proofs.RawLeft.{raw_left}

truth_self : (a : Bool) → same_truth a a ≡ true
truth_self true = refl
truth_self false = refl

all_from : {X : Type 0} (p : X → Bool) (xs : List X) → ((x : X) → Contains xs x → p x ≡ true) → list_all p xs ≡ true
all_from p [] each = refl
all_from p (x ∷ xs) each = and_from (p x) (list_all p xs) (each x (first_in x xs)) (all_from p xs (λ y c. each y (later_in x xs y c)))

-- arcs that stand for the same ones
module _ (raw one two : List GraphArc) (a : AreJoined raw one) (b : AreJoined raw two) where
  twin : (arc : GraphArc) → Contains one arc → (other : GraphArc) × Contains two other × (same_graph_arc arc other ≡ true)
  twin arc c =
      let s = a.sound arc c in
      let r = any_back (λ (x : GraphArc). nat_eq x.from s.item.from) two (b.all s.item s.within) in
      let from : arc.from ≡ r.item.from = sym s.from ∙ sym (eqb-true r.item.from s.item.from r.passes) in
      let cell : is_cell arc.kind ≡ is_cell r.item.kind = a.cell arc c ∙ ap (has_comb_from raw) from ∙ sym (b.cell r.item r.within) in
      let edge : arc.edge ≡ r.item.edge = a.edge arc c ∙ ap (has_edge_from raw) from ∙ sym (b.edge r.item r.within) in (
        r.item,
        r.within,
        and_from (nat_eq arc.from r.item.from && same_truth (is_cell arc.kind) (is_cell r.item.kind)) (same_truth arc.edge r.item.edge)
            (and_from (nat_eq arc.from r.item.from) (same_truth (is_cell arc.kind) (is_cell r.item.kind)) (eq-eqb arc.from r.item.from from)
            (ap (same_truth (is_cell arc.kind)) (sym cell) ∙ truth_self (is_cell arc.kind)))
            (ap (same_truth arc.edge) (sym edge) ∙ truth_self arc.edge),
      )

flip_truth : (a b : Bool) → same_truth a b ≡ true → same_truth b a ≡ true
flip_truth true true e = refl
flip_truth true false e = e
flip_truth false true e = e
flip_truth false false e = refl

pub joined_same : (raw one two : List GraphArc) → AreJoined raw one → AreJoined raw two → same_fans one two ≡ true
joined_same raw one two a b =
    and_from (list_all (λ x. list_any (same_graph_arc x) two) one) (list_all (λ y. list_any (λ x. same_graph_arc x y) one) two)
    (all_from (λ x. list_any (same_graph_arc x) two) one (λ x c. let t = twin raw one two a b x c in any_in (same_graph_arc x) two t.0 t.1 t.2))
    (all_from (λ y. list_any (λ x. same_graph_arc x y) one) two (λ y c.
    let t = twin raw two one b a y c in any_in (λ x. same_graph_arc x y) one t.0 t.1 (flip y t.0 t.2)))
  where
    flip : (x y : GraphArc) → same_graph_arc x y ≡ true → same_graph_arc y x ≡ true
    flip x y e =
        let p = and_parts (nat_eq x.from y.from && same_truth (is_cell x.kind) (is_cell y.kind)) (same_truth x.edge y.edge) e in
        let q = and_parts (nat_eq x.from y.from) (same_truth (is_cell x.kind) (is_cell y.kind)) p.0 in
        and_from (nat_eq y.from x.from && same_truth (is_cell y.kind) (is_cell x.kind)) (same_truth y.edge x.edge)
        (and_from (nat_eq y.from x.from) (same_truth (is_cell y.kind) (is_cell x.kind)) (eq-eqb y.from x.from (sym (eqb-true x.from y.from q.0)))
        (flip_truth (is_cell x.kind) (is_cell y.kind) q.1)) (flip_truth x.edge y.edge p.1)

module _ (g g2 : Graphed) (touch : Touch) (made : IsEditOf g.stored touch g2.stored) (num : IsNumbered g.stored) (num2 : IsNumbered g2.stored)
    (joined : (node : ℕ) → node < node_bound g.stored → AreJoined (raw_into g.stored g.network node) (fan_at g.ins node))
    (joined2 : (node : ℕ) → node < node_bound g2.stored → AreJoined (raw_into g2.stored g2.network node) (fan_at g2.ins node))
    (same : (pin : ℕ) → marked g2.network pin ≡ marked g.network pin) where
  not_turned : (node : ℕ) → is_number g2.stored.pins (pin_under node) ≡ true → is_touched_at g2.stored touch (pin_under node) ≡ false → is_turned g g2 node ≡ false
  not_turned node e off =
      let p2 = pin_at_number g2.stored num2 (edited_linked g.stored touch g2.stored made) (pin_under node) e in
      let free : is_touched_pin touch p2.0 ≡ false = sym (ap (λ o. option_map_or (is_touched_pin touch) o false) p2.1.pin) ∙ off in
      let h = pin_before g.stored touch g2.stored made num num2 (pin_under node) p2.0 p2.1.pin free in
      let has = pin_of_number g.stored num (base_linked g.stored touch g2.stored made) (pin_under node) h.pin h.numbered in
      let low = has.below in
      let low2 = p2.1.below in
      let there : is_number g.stored.pins (pin_under node) ≡ true = ap is_some has.name in
      let left : is_left g.stored g2.stored touch (pin_under node) ≡ true =
      (λ k. not (off k) && not (is_number g.stored.pins (pin_under node) && not (e k))) ∙ stays (is_number g.stored.pins (pin_under node)) in
      let raw : raw_into g2.stored g2.network node ≡ raw_into g.stored g.network node = raw_left g.stored touch g2.stored made num num2 g.network g2.network same node left in
      let one = joined node (omega (arith, low)) in
      let two = subst (λ (xs : List GraphArc). AreJoined xs (fan_at g2.ins node)) raw (joined2 node (omega (arith, low2))) in
      let fans = joined_same (raw_into g.stored g.network node) (fan_at g.ins node) (fan_at g2.ins node) one two in
      let truth : same_truth (network_at g node) (network_at g2 node) ≡ true =
      ap (same_truth (network_at g node)) (same (pin_under node)) ∙ truth_self (network_at g node) in
      λ k. if there k then not (fans k) || not (truth k) else true
    where
      stays : (b : Bool) → (not false && not (b && not true)) ≡ true
      stays true = refl
      stays false = refl

  -- what is turned is touched
  pub turned_touched : (node : ℕ) → is_moved g g2 touch node ≡ is_touched_at g2.stored touch (pin_under node)
  turned_touched node = elim (cases_Bool (is_touched_at g2.stored touch (pin_under node))) [
    | inl e ↦ rw e refl
    | inr e ↦ rw e (away (is_number g2.stored.pins (pin_under node)) refl e)
  ]
    where
      away : (b : Bool) → is_number g2.stored.pins (pin_under node) ≡ b → is_touched_at g2.stored touch (pin_under node) ≡ false → (b && is_turned g g2 node) ≡ false
      away false h off = refl
      away true h off = not_turned node h off

-- the fans of a graph that is kept
pub joined_in : (g : Graphed) → IsKeptGraph g → (node : ℕ) → node < node_bound g.stored → AreJoined (raw_into g.stored g.network node) (fan_at g.ins node)
joined_in g k node low = subst (λ (h : Graphed). AreJoined (raw_into g.stored h.network node) (fan_at h.ins node)) (sym k.same) (k.kept.tables.joined node low)

-- as the calls have it
pub left_or : (t a b : Bool) → a ≡ b → (t || a) ≡ (t || b)
left_or t a b e = ap (λ c. t || c) e

pub or_none : (t : Bool) → (t || false) ≡ t
or_none true = refl
or_none false = refl
