-- The nodes whose row an ECO changes lie behind its seeds, and what an update asks of its base.

use Rattle.std.proofs.Common.{◌≡◌, ℕ, zero, suc, ◌<◌, ◌==◌, ◌||◌, Bool, true, false, List, [], ◌∷◌, filter, Option, None, Some, refl, sym, ap, subst, ◌∙◌, inl, inr, arith}
use Rattle.std.specs.Prelude.{nat_eq, if◌then◌else◌, IfOk, OnOk, Result, Ok, Err}
use Rattle.std.specs.List.{list_any}
use Rattle.std.specs.Option.{option_map_or}
use Rattle.std.proofs.lemmas.Bool.{cases_Bool, eq-eqb, eqb-true, or_cases, true≢false, false≢true}
use Rattle.std.proofs.lemmas.List.Elements.{All-contains}
use Rattle.timing_defs.specs.declared.rows.NodeRow.{NodeRow}
use Rattle.timing_defs.specs.declared.rows.BackRow.{BackRow}
use Rattle.timing_defs.specs.Netlist.{Node}
use Rattle.timing_defs.specs.Touches.{Touch}
use Rattle.timing_rules.specs.Cones.{is_seed, row_differs}
use Rattle.netlist_store.specs.Numbering.{Stored, IsNumbered}
use Rattle.netlist_store.specs.Applying.{IsEditOf}
use Rattle.eco_laws.proofs.EditOf.{edited_linked}
use Rattle.level_cone.specs.Cone.{Cone, affected}
use Rattle.pin_graph.specs.declared.arcs.GraphArc.{GraphArc}
use Rattle.pin_graph.specs.Nodes.{node_at, node_bound}
use Rattle.pin_graph.specs.Graphs.{Graphed, IsGraph, fan_at, level_at, of_node}
use Rattle.pin_graph.specs.Seeds.{AreSeeds}
use Rattle.timing_defs.proofs.Members.{any_in, any_back, in_map_back}
use Rattle.pin_graph.proofs.NodeLaws.{has_node, node_below}
use Rattle.arc_delays.proofs.RangeLaws.{rows_fine}
use Rattle.arrival_engine.specs.declared.tables.Arrivals.{Arrivals}
use Rattle.arrival_engine.specs.Updated.{AreArrivals, AreOther, forward_cone, froms_of, heads_of}
use Rattle.arrival_engine.proofs.RenewLaws.{IsEdit, laws}
use Rattle.arrival_engine.proofs.UpdateLaws.{outs}
use Rattle.arrival_engine.proofs.UpdateEnds.{edit_of}
use Rattle.edit_reach.specs.Reach.{is_in, AreBehind}
use Rattle.required_engine.specs.Updated.{AreThose}
use Rattle.pessimism_credit.specs.declared.rows.TreeRow.{TreeRow}
use Rattle.path_search.specs.Trees.{IsClockTree}
use Rattle.affected_cone.specs.declared.updating.Base.{Base}
use Rattle.affected_cone.specs.declared.ends.EndSlacks.{EndSlacks}
use Rattle.affected_cone.specs.Analysed.{IsAnalysis, IsKept}
use Rattle.affected_cone.specs.Updated.{IsBase}
use Rattle.affected_cone.proofs.FineBase.{backs_fine}

module _ (base g : Graphed) (touch : Touch) (edit : IsEdit base g touch) (seeds nodes : List ℕ) (first : AreSeeds base.stored g.stored touch seeds) (behind : AreBehind g seeds nodes) where
  abbrev s : Stored
  s = base.stored

  abbrev s2 : Stored
  s2 = g.stored

  abbrev cone : Cone NodeRow
  cone = forward_cone base.stored touch g

  -- a node to which an arc leads from one behind is behind
  onward : (m n : ℕ) → is_in nodes m ≡ true → list_any (λ y. y == n) (heads_of g m) ≡ true → is_in nodes n ≡ true
  onward m n inside leads =
      let r = any_back (λ y. y == n) (heads_of g m) leads in
      let a = in_map_back (λ (arc : GraphArc). arc.to) (fan_at g.outs m) r.item r.within in
      let to : is_in nodes a.item.to ≡ true = All-contains (λ (arc : GraphArc). is_in nodes arc.to ≡ true) (fan_at g.outs m) a.item (behind.onward m inside) a.within in
      subst (λ (x : ℕ). is_in nodes x ≡ true) (a.same ∙ eqb-true r.item n r.passes) to

  -- by levels: the fuel is above the node's
  walked : (fuel n : ℕ) → level_at g n < fuel → n < node_bound s2 → cone.differs n ≡ true → is_in nodes n ≡ true
  walked zero n under low told = absurd (omega (arith, under))
  walked (suc fuel) n under low told = elim (cases_Bool (affected cone n)) [
    | inr calm ↦ absurd (true≢false (sym told ∙ (laws base g touch edit).still n low calm))
    | inl e ↦ elim (or_cases (of_node s2 (is_seed s.design s2.design touch) n) (list_any cone.differs (froms_of g n)) e) [
      | inl h ↦ behind.first n (first.each n ∙ h)
      | inr h ↦
          let r = any_back cone.differs (froms_of g n) h in
          let mlow : r.item < node_bound s2 = All-contains (λ m. m < node_bound s2) (froms_of g n) r.item ((laws base g touch edit).low n low) r.within in
          let less : level_at g r.item < level_at g n =
          All-contains (λ m. level_at g m < level_at g n) (froms_of g n) r.item ((laws base g touch edit).rising n low) r.within in
          let inside = walked fuel r.item (omega (arith, less, under)) mlow r.passes in
          onward r.item n inside
          ((outs base g touch edit).back r.item n mlow low ∙ any_in (λ y. y == r.item) (froms_of g n) r.item r.within (eq-eqb r.item r.item refl))
    ]
  ]

  pub all_behind : (n : ℕ) → of_node s2 (row_differs s.design s2.design) n ≡ true → is_in nodes n ≡ true
  all_behind n told = by (node_at s2 n) refl
    where
      by : (o : Option Node) → node_at s2 n ≡ o → is_in nodes n ≡ true
      by None e = absurd (false≢true (sym (ap (λ o. option_map_or (row_differs s.design s2.design) o false) e) ∙ told))
      by (Some node) e =
          walked (suc (level_at g n)) n (omega arith)
          (node_below s2 node n (has_node s2 edit.num2 (edited_linked s touch s2 edit.made) n node e)) told

-- what passes a test, of a list that holds all that does
any_filter : (p : ℕ → Bool) (n : ℕ) (xs : List ℕ) → p n ≡ true → list_any (nat_eq n) xs ≡ true → list_any (nat_eq n) (filter p xs) ≡ true
any_filter p n [] passes inside = inside
any_filter p n (x ∷ xs) passes inside = by (nat_eq n x) (p x) refl refl (any_filter p n xs passes)
  where
    by : (a b : Bool) → nat_eq n x ≡ a → p x ≡ b → (list_any (nat_eq n) xs ≡ true → list_any (nat_eq n) (filter p xs) ≡ true)
        → list_any (nat_eq n) (if p x then x ∷ filter p xs else filter p xs) ≡ true
    by true true e f again = rw f (rw e refl)
    by true false e f again = absurd (true≢false (sym passes ∙ ap p (eqb-true n x e) ∙ f))
    by false true e f again = rw f (rw e (again (sym (ap (λ b. b || list_any (nat_eq n) xs) e) ∙ inside)))
    by false false e f again = rw f (again (sym (ap (λ b. b || list_any (nat_eq n) xs) e) ∙ inside))

none_filter : (p : ℕ → Bool) (n : ℕ) (xs : List ℕ) → p n ≡ false → list_any (nat_eq n) (filter p xs) ≡ false
none_filter p n [] fails = refl
none_filter p n (x ∷ xs) fails = by (nat_eq n x) (p x) refl refl (none_filter p n xs fails)
  where
    by : (a b : Bool) → nat_eq n x ≡ a → p x ≡ b → list_any (nat_eq n) (filter p xs) ≡ false → list_any (nat_eq n) (if p x then x ∷ filter p xs else filter p xs) ≡ false
    by true true e f again = absurd (true≢false (sym f ∙ sym (ap p (eqb-true n x e)) ∙ fails))
    by true false e f again = rw f again
    by false true e f again = rw f (rw e again)
    by false false e f again = rw f again

pub changed_are : (base g : Graphed) (touch : Touch) → IsEdit base g touch → (seeds nodes : List ℕ) → AreSeeds base.stored g.stored touch seeds → AreBehind g seeds nodes
    → (found : List ℕ) → AreOther base.stored g.stored nodes found → AreThose g.stored (row_differs base.stored.design g.stored.design) found
changed_are base g touch edit seeds nodes first behind found e n =
    ap (λ (xs : List ℕ). list_any (nat_eq n) xs) e ∙ by (differs n) refl
  where
    differs : ℕ → Bool
    differs = of_node g.stored (row_differs base.stored.design g.stored.design)

    by : (b : Bool) → differs n ≡ b → list_any (nat_eq n) (filter differs nodes) ≡ differs n
    by true f = any_filter differs n nodes f (all_behind base g touch edit seeds nodes first behind n f) ∙ sym f
    by false f = none_filter differs n nodes f ∙ sym f

pub changed_told : (base g : Graphed) (touch : Touch) → IsEditOf base.stored touch g.stored → IsNumbered base.stored → IsNumbered g.stored → IsGraph base → IsGraph g
    → (a : Arrivals) → AreArrivals base.stored a → (seeds nodes : List ℕ) → AreSeeds base.stored g.stored touch seeds → AreBehind g seeds nodes
    → {E : Type 0} (r : Result (List ℕ) E) → IfOk r (AreOther base.stored g.stored nodes) → IfOk r (AreThose g.stored (row_differs base.stored.design g.stored.design))
changed_told base g touch made num num2 is is2 a are seeds nodes first behind (Ok found) e =
    changed_are base g touch (edit_of base g touch made num num2 is is2 a are) seeds nodes first behind found e
changed_told base g touch made num num2 is is2 a are seeds nodes first behind (Err fault) e = tt

-- an analysis is a base
pub base_told : (b : Base) (g : Graphed) (arrivals : Arrivals) (backs : List BackRow) (tree : List TreeRow) (ends : List EndSlacks) → b.graph.now ≡ g → b.arrivals.now ≡ arrivals
    → b.required.now.rows ≡ backs → b.tree.now ≡ tree → b.ends.now ≡ ends → IsAnalysis (record { stored = g.stored; rows = arrivals.rows; backs = backs; ends = ends }) → IsKept g arrivals backs tree
    → IsBase b
base_told b g arrivals backs tree ends graph rows required trees list a kept = record {
  arrivals =
      subst (λ (x : Graphed). AreArrivals x.stored b.arrivals.now) (sym graph)
      (subst (λ (x : Arrivals). AreArrivals g.stored x) (sym rows)
      (record { rows = a.rows; tables = kept.tables; delays = kept.delays; fine = rows_fine g.stored.design a.fine }));
  backs = rw graph (rw required a.backs);
  backs_fine = rw graph (backs_fine g.stored.design a.fine);
  tree = subst (λ (x : Graphed). IsClockTree x b.tree.now) (sym graph) (subst (λ (x : List TreeRow). IsClockTree g x) (sym trees) kept.tree);
  ends = rw graph (rw list a.ends);
}

pub on_ok : {T E P Q : Type 0} (r : Result T E) → (P → Q) → OnOk r P → OnOk r Q
on_ok (Ok x) f h = f h
on_ok (Err e) f h = tt
