-- The update of a base: what it begins with, what leads on from a turn, and what stands at its end.

use Rattle.std.proofs.Common.{◌≡◌, ℕ, ◌<◌, Bool, true, false, not, ◌==◌, ◌||◌, ◌&&◌, List, get_or, Option, None, Some, refl, sym, ap, subst, ◌∙◌, inl, inr}
use Rattle.std.specs.Prelude.{Contains, All, is_some, option_map, option_and_then, if◌then◌else◌}
use Rattle.std.specs.List.{list_any}
use Rattle.std.specs.Option.{option_map_or}
use Rattle.std.proofs.lemmas.Bool.{lt-ltb, eq-eqb, eqb-true, or_cases, false≢true}
use Rattle.std.proofs.lemmas.List.{get_or_default}
use Rattle.std.proofs.lemmas.List.Folds.{list_any_at}
use Rattle.timing_defs.specs.declared.kinds.Tran.{Tran}
use Rattle.timing_defs.specs.declared.rows.NodeRow.{NodeRow}
use Rattle.timing_defs.specs.Netlist.{Pin, Node, name_of, pin_named}
use Rattle.timing_rules.specs.Rows.{row, empty_row}
use Rattle.timing_rules.specs.Paths.{named, node_named}
use Rattle.timing_defs.specs.Touches.{Touch}
use Rattle.timing_rules.specs.Cones.{same_row, row_differs, is_seed}
use Rattle.netlist_store.specs.Linked.{IsLinked}
use Rattle.netlist_store.specs.Numbering.{Stored, name_at, number_of, is_number, pin_numbered, IsNumbered, KeepsNumbers}
use Rattle.eco_laws.proofs.EditOf.{base_linked, edited_linked, numbers_kept}
use Rattle.eco_laws.proofs.Numbers.{number_at}
use Rattle.level_cone.specs.Cone.{Cone, affected, AreOuts, marks, stands_in}
use Rattle.level_cone.specs.Waiting.{waits, IsTurn}
use Rattle.level_cone.proofs.ConeLaws.{waits_here}
use Rattle.level_cone.proofs.Turns.{marks_agree}
use Rattle.pin_graph.specs.declared.arcs.GraphArc.{GraphArc}
use Rattle.pin_graph.specs.Nodes.{node_at, node_bound, pin_under, tran_under}
use Rattle.pin_graph.specs.Graphs.{Graphed, IsGraph, fan_at, level_at, of_node}
use Rattle.pin_graph.specs.RowTables.{row_numbered}
use Rattle.timing_defs.proofs.Members.{in_map, in_map_back, any_in, any_back}
use Rattle.pin_graph.proofs.NodeLaws.{HasNode, has_node, node_below, under_number, tran_of_number}
use Rattle.arc_delays.specs.declared.tables.ArcDelay.{ArcDelay}
use Rattle.arrival_engine.specs.Updated.{row_before, froms_of, heads_of, forward_cone, is_moved}
use Rattle.arrival_engine.proofs.RenewLaws.{IsEdit, IsRenewed, laws, here_cut, nodes_told}

iff : (a b : Bool) → (a ≡ true → b ≡ true) → (b ≡ true → a ≡ true) → a ≡ b
iff true b there back = sym (there refl)
iff false true there back = back refl
iff false false there back = refl

all_of : (P : ℕ → Type 0) (xs : List ℕ) → ((x : ℕ) → Contains xs x → P x) → All P xs
all_of P xs each i d low = each (get_or xs i d) (i, low, get_or_default xs i (get_or xs i d) d low)

-- the nodes to which arcs lead are nodes of the graph
pub heads_low : (g : Graphed) → IsNumbered g.stored → IsLinked g.stored.design → IsGraph g → (m : ℕ) → m < node_bound g.stored → All (λ n. n < node_bound g.stored) (heads_of g m)
heads_low g num linked is m low = all_of (λ n. n < node_bound g.stored) (heads_of g m) each
  where
    each : (n : ℕ) → Contains (heads_of g m) n → n < node_bound g.stored
    each n c =
        let a = in_map_back (λ (arc : GraphArc). arc.to) (fan_at g.outs m) n c in
        let arc = ((is.outs m low).sound a.item a.within).0 in
        subst (λ (x : ℕ). x < node_bound g.stored) a.same (node_below g.stored arc.to a.item.to (has_node g.stored num linked a.item.to arc.to arc.to_number))

module _ (base g : Graphed) (touch : Touch) (edit : IsEdit base g touch) where
  abbrev s : Stored
  s = base.stored

  abbrev s2 : Stored
  s2 = g.stored

  abbrev cone : Cone NodeRow
  cone = forward_cone base.stored touch g

  linked : IsLinked s.design
  linked = base_linked s touch s2 edit.made

  linked2 : IsLinked s2.design
  linked2 = edited_linked s touch s2 edit.made

  -- arcs out are arcs in turned round
  back : (m n : ℕ) → m < node_bound s2 → n < node_bound s2 → list_any (λ y. y == n) (heads_of g m) ≡ list_any (λ y. y == m) (froms_of g n)
  back m n mlow nlow = iff (list_any (λ y. y == n) (heads_of g m)) (list_any (λ y. y == m) (froms_of g n)) there again
    where
      there : list_any (λ y. y == n) (heads_of g m) ≡ true → list_any (λ y. y == m) (froms_of g n) ≡ true
      there h =
          let r = any_back (λ y. y == n) (heads_of g m) h in
          let a = in_map_back (λ (arc : GraphArc). arc.to) (fan_at g.outs m) r.item r.within in
          let s = (edit.graph2.outs m mlow).sound a.item a.within in
          let inside = (edit.graph2.ins n nlow).all a.item s.0 (a.same ∙ eqb-true r.item n r.passes) in
          any_in (λ y. y == m) (froms_of g n) a.item.from (in_map (λ (arc : GraphArc). arc.from) (fan_at g.ins n) a.item inside) (eq-eqb a.item.from m s.1)

      again : list_any (λ y. y == m) (froms_of g n) ≡ true → list_any (λ y. y == n) (heads_of g m) ≡ true
      again h =
          let r = any_back (λ y. y == m) (froms_of g n) h in
          let a = in_map_back (λ (arc : GraphArc). arc.from) (fan_at g.ins n) r.item r.within in
          let s = (edit.graph2.ins n nlow).sound a.item a.within in
          let inside = (edit.graph2.outs m mlow).all a.item s.0 (a.same ∙ eqb-true r.item m r.passes) in
          any_in (λ y. y == n) (heads_of g m) a.item.to (in_map (λ (arc : GraphArc). arc.to) (fan_at g.outs m) a.item inside) (eq-eqb a.item.to n s.1)

  pub outs : AreOuts cone (heads_of g)
  outs = record { low = heads_low g edit.num2 linked2 edit.graph2; back = back }

  -- an affected number is of a node
  node_of : (k : ℕ) → k < node_bound s2 → affected cone k ≡ true → (n : Node) × (node_at s2 k ≡ Some n)
  node_of k low told = by (node_at s2 k) refl
    where
      by : (o : Option Node) → node_at s2 k ≡ o → (n : Node) × (node_at s2 k ≡ Some n)
      by (Some n) e = (n, e)
      by None e = elim (or_cases (of_node s2 (is_seed s.design s2.design touch) k) (list_any cone.differs (froms_of g k)) told) [
        | inl h ↦ absurd (false≢true (sym (ap (λ o. option_map_or (is_seed s.design s2.design touch) o false) e) ∙ h))
        | inr h ↦
            let r = any_back cone.differs (froms_of g k) h in
            let a = in_map_back (λ (arc : GraphArc). arc.from) (fan_at g.ins k) r.item r.within in
            let arc = (edit.graph2.ins k low).sound a.item a.within in
            let there : node_at s2 k ≡ Some arc.0.to = ap (node_at s2) (sym arc.1) ∙ arc.0.to_number in
            (arc.0.to, there)
      ]

  kept : KeepsNumbers s s2
  kept = numbers_kept s touch s2 edit.made

  -- whether the row of a node differs, by numbers
  pub moved_at : (k : ℕ) (n : Node) → node_at s2 k ≡ Some n → (rows : List NodeRow) → get_or rows k empty_row ≡ row_before s s2 k
      → is_moved s rows k (row_numbered s2 k) ≡ of_node s2 (row_differs s.design s2.design) k
  moved_at k n at rows was = by (name_at s.pins has.pin) refl
    where
      has : HasNode s2 n k
      has = has_node s2 edit.num2 linked2 k n at

      name : List ℕ
      name = name_of n.pin

      under : pin_under k ≡ has.pin
      under = ap pin_under has.number ∙ under_number has.pin n.tran

      turned : tran_under k ≡ n.tran
      turned = ap tran_under has.number ∙ tran_of_number has.pin n.tran

      after : row_numbered s2 k ≡ row s2.design n
      after = ap (λ o. option_map_or (row s2.design) o empty_row) at

      right : of_node s2 (row_differs s.design s2.design) k ≡ row_differs s.design s2.design n
      right = ap (λ o. option_map_or (row_differs s.design s2.design) o false) at

      -- the node of that name in the base
      named_is : (o : Option Pin) → pin_named s.design name ≡ o → node_named s.design (named n) ≡ option_map (λ (pin : Pin). record { pin = pin; tran = n.tran }) o
      named_is o e = ap (option_map (λ (pin : Pin). record { pin = pin; tran = n.tran })) e

      differs_so : (o : Option Node) → node_named s.design (named n) ≡ o
          → row_differs s.design s2.design n ≡ option_map_or (λ before. not (same_row (row s.design before) (row s2.design n))) o true
      differs_so o e = ap (λ o. option_map_or (λ before. not (same_row (row s.design before) (row s2.design n))) o true) e

      -- the base has it there
      here : (q : Pin) → name_at s.pins has.pin ≡ Some name → pin_named s.design name ≡ Some q
          → is_moved s rows k (row_numbered s2 k) ≡ of_node s2 (row_differs s.design s2.design) k
      here q e f =
          let numbered : is_number s.pins (pin_under k) ≡ true = ap (is_number s.pins) under ∙ ap is_some e in
          let old : Node = record { pin = q; tran = n.tran } in
          let there : node_at s k ≡ Some old =
          ap (λ p. option_map (λ (pin : Pin). record { pin = pin; tran = tran_under k }) (pin_numbered s p)) under
          ∙ ap (λ o. option_map (λ (pin : Pin). record { pin = pin; tran = tran_under k }) (option_and_then (pin_named s.design) o)) e
          ∙ ap (λ o. option_map (λ (pin : Pin). record { pin = pin; tran = tran_under k }) o) f
          ∙ ap (λ (t : Tran). Some (record { pin = q; tran = t })) turned in
          let before : get_or rows k empty_row ≡ row s.design old =
          was ∙ ap (λ o. if is_some o then row_numbered s k else empty_row) at ∙ ap (λ o. option_map_or (row s.design) o empty_row) there in
          ap (λ b. not b || not (same_row (get_or rows k empty_row) (row_numbered s2 k))) numbered
          ∙ ap (λ r. not (same_row r (row_numbered s2 k))) before
          ∙ ap (λ r. not (same_row (row s.design old) r)) after
          ∙ sym (right ∙ differs_so (Some old) (named_is (Some q) f))

      -- the base has no such node
      gone : name_at s.pins has.pin ≡ None → pin_named s.design name ≡ None → is_moved s rows k (row_numbered s2 k) ≡ of_node s2 (row_differs s.design s2.design) k
      gone e f =
          let numbered : is_number s.pins (pin_under k) ≡ false = ap (is_number s.pins) under ∙ ap is_some e in
          ap (λ b. not b || not (same_row (get_or rows k empty_row) (row_numbered s2 k))) numbered
          ∙ sym (right ∙ differs_so None (named_is None f))

      missing : name_at s.pins has.pin ≡ None → (o : Option ℕ) → number_of s.pins name ≡ o → (q : Option Pin) → pin_named s.design name ≡ q → is_some o ≡ is_some q
          → pin_named s.design name ≡ None
      missing e o f None h same = h
      missing e None f (Some q) h same = absurd (false≢true same)
      missing e (Some j) f (Some q) h same =
          let one : j ≡ has.pin = kept.pins.numbers name j has.pin f has.has.number in
          let told : None ≡ Some name = sym e ∙ ap (name_at s.pins) (sym one) ∙ number_at s.pins name j f in
          absurd (cc)

      present : name_at s.pins has.pin ≡ Some name → (q : Option Pin) → pin_named s.design name ≡ q → is_moved s rows k (row_numbered s2 k) ≡ of_node s2 (row_differs s.design s2.design) k
      present e (Some q) f = here q e f
      present e None f = absurd (false≢true (sym (ap is_some f) ∙ sym (edit.num.pin_names name) ∙ ap is_some (edit.num.pins.distinct has.pin name e)))

      by : (o : Option (List ℕ)) → name_at s.pins has.pin ≡ o → is_moved s rows k (row_numbered s2 k) ≡ of_node s2 (row_differs s.design s2.design) k
      by None e = gone e (missing e (number_of s.pins name) refl (pin_named s.design name) refl (edit.num.pin_names name))
      by (Some other) e =
          let same : other ≡ name = kept.pins.names has.pin other name e has.has.name in
          present (e ∙ ap Some same) (pin_named s.design name) refl

  -- what a turn marks, by numbers
  module _ (rows : List NodeRow) (delays : List (List ArcDelay)) (old new : List ℕ) (ticks level : ℕ) (nodes : List ℕ)
      (renewed : IsRenewed base g touch edit rows delays old ticks) (turn : IsTurn old new level nodes) where
    moved_all : All (λ m. is_moved s rows m (row_numbered s2 m) ≡ cone.differs m) nodes
    moved_all i d within =
        let told = nodes_told base g touch edit rows delays old new ticks level nodes renewed turn i d within in
        let k : ℕ = get_or nodes i d in
        let waiting = waits_here cone (laws base g touch edit) level (λ n. get_or rows n empty_row) (waits old) ticks (here_cut base g touch edit rows delays old new ticks level nodes renewed turn) k in
        let inside = list_any_at (λ y. y == k) nodes i d within (eq-eqb k k refl) in
        let reached : affected cone k ≡ true = sym (waiting ∙ rw (lt-ltb k (node_bound s2) told.0, eq-eqb (level_at g k) level told.1) refl) ∙ sym (turn.each k) ∙ inside in
        let n = node_of k told.0 reached in
        moved_at k n.0 n.1 rows told.2

    pub marked : (k n : ℕ) → list_any (λ m. is_moved s rows m (row_numbered s2 m) && stands_in (level_at g) (heads_of g m) k n) nodes ≡ marks cone (heads_of g) nodes k n
    marked = marks_agree cone (λ m. is_moved s rows m (row_numbered s2 m)) (level_at g) (heads_of g) nodes moved_all (λ i d within j e inside. refl)
