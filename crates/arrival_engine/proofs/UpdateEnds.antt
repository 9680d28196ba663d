-- An update from its first turn to its end, as its loop has it.

use Rattle.std.proofs.Common.{◌≡◌, ℕ, ◌+◌, ◌<◌, ◌≤◌, Bool, true, false, ◌==◌, ◌||◌, ◌&&◌, List, [], ◌∷◌, length, get_or, Option, None, Some, refl, sym, ap, subst, ◌∙◌, inl, inr, arith}
use Rattle.std.specs.Prelude.{Contains, nat_eq}
use Rattle.std.specs.Arc.{arc_value}
use Rattle.std.specs.List.{list_any, range_with_len}
use Rattle.std.specs.Option.{option_map_or}
use Rattle.std.proofs.lemmas.Bool.{cases_Bool, eq-eqb, eqb-true, true≢false}
use Rattle.std.proofs.lemmas.List.FromFn.{length-range_with_len, get_or-range_with_len}
use Rattle.std.proofs.Common.{zero-add}
use Rattle.timing_defs.specs.declared.rows.NodeRow.{NodeRow}
use Rattle.timing_defs.specs.Netlist.{Node, nodes}
use Rattle.timing_rules.specs.Rows.{arcs_in, empty_row}
use Rattle.timing_defs.specs.Touches.{Touch}
use Rattle.timing_rules.specs.Cones.{row_differs, is_seed, is_forward, forward_count}
use Rattle.timing_defs.proofs.ListLemmas.{count_by_agree}
use Rattle.netlist_store.specs.Linked.{IsLinked}
use Rattle.netlist_store.specs.Numbering.{Stored, IsNumbered}
use Rattle.netlist_store.specs.Applying.{IsEditOf}
use Rattle.eco_laws.proofs.EditOf.{base_linked, edited_linked}
use Rattle.level_cone.specs.Cone.{Cone, affected, affected_count, stands_in}
use Rattle.level_cone.specs.Waiting.{waits, room, IsIdle, IsTurn}
use Rattle.level_cone.proofs.Turns.{cut_start}
use Rattle.level_cone.proofs.Passes.{pass_smaller}
use Rattle.pin_graph.specs.declared.arcs.GraphArc.{GraphArc}
use Rattle.pin_graph.specs.Nodes.{node_at, node_bound}
use Rattle.pin_graph.specs.Seeds.{AreSeeds}
use Rattle.pin_graph.specs.Graphs.{Graphed, IsGraph, IsArc, fan_at, level_at, of_node}
use Rattle.pin_graph.specs.RowTables.{row_numbered}
use Rattle.timing_defs.proofs.Members.{in_map_back, any_in, any_back}
use Rattle.pin_graph.proofs.NodeLaws.{same_node_at}
use Rattle.pin_graph.proofs.NodeCounts.{nodes_counted}
use Rattle.arc_delays.specs.declared.tables.ArcDelay.{ArcDelay}
use Rattle.arc_delays.specs.Delays.{AreDelaysAt}
use Rattle.arc_delays.proofs.RangeLaws.{its_fine, its_carried}
use Rattle.arrival_engine.specs.declared.tables.Arrivals.{Arrivals}
use Rattle.arrival_engine.specs.Updated.{froms_of, heads_of, forward_cone, is_moved, AreArrivals, AreBegun, AreRenewed, IsLevelPut}
use Rattle.arrival_engine.proofs.BeforeLaws.{node_listed}
use Rattle.arrival_engine.proofs.ForwardCone.{none_differs}
use Rattle.arrival_engine.proofs.CalmNodes.{delays_kept}
use Rattle.arrival_engine.proofs.RenewLaws.{IsEdit, IsRenewed, laws, renewed_first, renewed_more, all_rows, all_delays, every_fine, all_ticks, part}
use Rattle.arrival_engine.proofs.UpdateLaws.{outs, marked}

-- an ECO of a base whose rows are there
pub edit_of : (base g : Graphed) (touch : Touch) → IsEditOf base.stored touch g.stored → IsNumbered base.stored → IsNumbered g.stored → IsGraph base → IsGraph g
    → (a : Arrivals) → AreArrivals base.stored a → IsEdit base g touch
edit_of base g touch made num num2 is is2 a are =
    let linked = base_linked base.stored touch g.stored made in
    record {
      made = made;
      num = num;
      num2 = num2;
      graph = is;
      graph2 = is2;
      all_fine = λ n k has. record {
        slew = λ split. (its_fine base num linked is (arc_value a.wires) are.tables.wires are.fine split n (k, has)).slew;
        arrivals = λ split edge c. (its_fine base num linked is (arc_value a.wires) are.tables.wires are.fine split n (k, has)).arrivals edge c;
        origins = λ split. are.fine.nodes n (node_listed base.stored n k has) split;
      };
      carried = λ split n k has. its_carried base num linked is (arc_value a.wires) are.tables.wires are.fine split n (k, has);
    }

-- the same, as the code has it
pub edit_there : (base g : Graphed) (touch : Touch) (sb s : Stored) → sb ≡ base.stored → g.stored ≡ s → IsEditOf base.stored touch g.stored → IsNumbered sb → IsNumbered s
    → IsGraph base → IsGraph g → (a : Arrivals) → AreArrivals base.stored a → IsEdit base g touch
edit_there base g touch sb s e f made num num2 is is2 a are =
    edit_of base g touch made (subst (λ (x : Stored). IsNumbered x) e num) (subst (λ (x : Stored). IsNumbered x) (sym f) num2) is is2 a are

iff : (a b : Bool) → (a ≡ true → b ≡ true) → (b ≡ true → a ≡ true) → a ≡ b
iff true b there back = sym (there refl)
iff false true there back = back refl
iff false false there back = refl

turned : (k : ℕ) (xs : List ℕ) → list_any (nat_eq k) xs ≡ list_any (λ y. y == k) xs
turned k [] = refl
turned k (x ∷ xs) =
    ap (λ (b : Bool). b || list_any (nat_eq k) xs)
    (iff (nat_eq k x) (x == k) (λ h. eq-eqb x k (sym (eqb-true k x h))) (λ h. eq-eqb k x (sym (eqb-true x k h))))
    ∙ ap (λ (b : Bool). (x == k) || b) (turned k xs)

module _ (base g : Graphed) (touch : Touch) (edit : IsEdit base g touch) where
  abbrev s : Stored
  s = base.stored

  abbrev s2 : Stored
  s2 = g.stored

  abbrev cone : Cone NodeRow
  cone = forward_cone base.stored touch g

  linked2 : IsLinked s2.design
  linked2 = edited_linked s touch s2 edit.made

  -- a number is affected where its node is
  affected_is : (k : ℕ) → k < node_bound s2 → affected cone k ≡ of_node s2 (is_forward s.design s2.design touch) k
  affected_is k low = by (node_at s2 k) refl
    where
      differs_is : (n : Node) → node_at s2 k ≡ Some n → list_any cone.differs (froms_of g k) ≡ list_any (row_differs s.design s2.design) (arcs_in s2.design n)
      differs_is n at = iff (list_any cone.differs (froms_of g k)) (list_any (row_differs s.design s2.design) (arcs_in s2.design n)) there back
        where
          there : list_any cone.differs (froms_of g k) ≡ true → list_any (row_differs s.design s2.design) (arcs_in s2.design n) ≡ true
          there h =
              let r = any_back cone.differs (froms_of g k) h in
              let a = in_map_back (λ (arc : GraphArc). arc.from) (fan_at g.ins k) r.item r.within in
              let arc = (edit.graph2.ins k low).sound a.item a.within in
              let to_is : arc.0.to ≡ n = same_node_at s2 arc.0.to n k (ap (node_at s2) (sym arc.1) ∙ arc.0.to_number) at in
              let inside : Contains (arcs_in s2.design n) arc.0.from = subst (λ (x : Node). Contains (arcs_in s2.design x) arc.0.from) to_is arc.0.within in
              let number : node_at s2 r.item ≡ Some arc.0.from = ap (node_at s2) (sym a.same) ∙ arc.0.from_number in
              any_in (row_differs s.design s2.design) (arcs_in s2.design n) arc.0.from inside
              (sym (ap (λ o. option_map_or (row_differs s.design s2.design) o false) number) ∙ r.passes)

          back : list_any (row_differs s.design s2.design) (arcs_in s2.design n) ≡ true → list_any cone.differs (froms_of g k) ≡ true
          back h = elim (cases_Bool (list_any cone.differs (froms_of g k))) [
            | inl e ↦ e
            | inr e ↦ absurd (true≢false (sym h ∙ none_differs base g touch edit.made edit.num edit.num2 edit.graph edit.graph2 k low n at e))
          ]

      by : (o : Option Node) → node_at s2 k ≡ o → affected cone k ≡ of_node s2 (is_forward s.design s2.design touch) k
      by (Some n) at =
          ap (λ o. option_map_or (is_seed s.design s2.design touch) o false || list_any cone.differs (froms_of g k)) at
          ∙ ap (λ b. is_seed s.design s2.design touch n || b) (differs_is n at)
          ∙ sym (ap (λ o. option_map_or (is_forward s.design s2.design touch) o false) at)
      by None at =
          let none : list_any cone.differs (froms_of g k) ≡ false = elim (cases_Bool (list_any cone.differs (froms_of g k))) [
            | inl h ↦
                let r = any_back cone.differs (froms_of g k) h in
                let a = in_map_back (λ (arc : GraphArc). arc.from) (fan_at g.ins k) r.item r.within in
                let arc = (edit.graph2.ins k low).sound a.item a.within in
                let there : None ≡ Some arc.0.to = sym at ∙ ap (node_at s2) (sym arc.1) ∙ arc.0.to_number in
                absurd (cc)
            | inr e ↦ e
          ] in
          ap (λ o. option_map_or (is_seed s.design s2.design touch) o false || list_any cone.differs (froms_of g k)) at
          ∙ none
          ∙ sym (ap (λ o. option_map_or (is_forward s.design s2.design touch) o false) at)

  -- as many numbers are affected as nodes
  pub count_is : affected_count cone ≡ forward_count s.design s2.design touch
  unfolding forward_count
  count_is =
      count_by_agree (affected cone) (of_node s2 (is_forward s.design s2.design touch)) (range_with_len 0 (node_bound s2))
      (λ i d within.
      let at : get_or (range_with_len 0 (node_bound s2)) i d ≡ i = get_or-range_with_len 0 (node_bound s2) i d (omega (arith, within, length-range_with_len 0 (node_bound s2))) ∙ zero-add i in
      affected_is (get_or (range_with_len 0 (node_bound s2)) i d) (omega (arith, at, within, length-range_with_len 0 (node_bound s2))))
      ∙ sym (nodes_counted s2 edit.num2 linked2 (is_forward s.design s2.design touch))

  -- the delays of the base are right at a number that is not affected
  begun_delays : (k : ℕ) → k < node_bound s2 → affected cone k ≡ false → (xs : List ArcDelay) → AreDelaysAt s k xs → AreDelaysAt s2 k xs
  begun_delays k low none xs are = by (node_at s2 k) refl
    where
      gap : {P : Type 0} (arc : GraphArc) → (a : IsArc s2 arc) → arc.to ≡ k → node_at s2 k ≡ None → P
      gap arc a to at =
          let there : None ≡ Some a.to = sym at ∙ ap (node_at s2) (sym to) ∙ a.to_number in
          absurd (cc)

      by : (o : Option Node) → node_at s2 k ≡ o → AreDelaysAt s2 k xs
      by (Some n) at = delays_kept base g touch edit.made edit.num edit.num2 edit.graph edit.graph2 k low n at none xs are
      by None at = λ split arc a to. gap arc a to at

  -- before the first turn
  pub begins : (seeds : List ℕ) (rows : List NodeRow) (delays : List (List ArcDelay)) (none keys : List ℕ) → AreSeeds s s2 touch seeds → AreBegun s s2 rows delays → IsIdle none
      → ((k n : ℕ) → waits keys k n ≡ (waits none k n || stands_in (level_at g) seeds k n)) → IsRenewed base g touch edit rows delays keys 0
  begins seeds rows delays none keys are begun idle wait =
      renewed_first base g touch edit rows delays keys 0 begun.row_count begun.delay_count
      (cut_start cone (laws base g touch edit) seeds (λ n. get_or rows n empty_row) keys 0 are.within
      (λ n low. sym (are.each n) ∙ turned n seeds) begun.rows_were
      (λ k n. wait k n ∙ ap (λ (b : Bool). b || stands_in (level_at g) seeds k n) (idle k n)) refl)
      (λ k low quiet. begun_delays k low quiet (get_or delays k []) (begun.delays_were k low))

  -- one turn more
  pub goes_on : (rows rows' : List NodeRow) (delays delays' : List (List ArcDelay)) (old new last : List ℕ) (ticks ticks' level : ℕ) (nodes : List ℕ)
      → IsRenewed base g touch edit rows delays old ticks → IsTurn old new level nodes → IsLevelPut g nodes rows delays rows' delays' → ticks' ≡ ticks + length nodes
      → ((k n : ℕ) → waits last k n ≡ (waits new k n || list_any (λ m. is_moved s rows m (row_numbered s2 m) && stands_in (level_at g) (heads_of g m) k n) nodes))
      → IsRenewed base g touch edit rows' delays' last ticks'
  goes_on rows rows' delays delays' old new last ticks ticks' level nodes renewed turn put counted wait =
      renewed_more base g touch edit rows delays old new ticks level nodes renewed turn put.answers put.told rows' delays' last ticks' put.rows_put put.delays_put counted
      (λ k n. wait k n ∙ ap (λ (b : Bool). waits new k n || b) (marked base g touch edit rows delays old new ticks level nodes renewed turn k n))
      (outs base g touch edit)

  pub goes_few : (rows : List NodeRow) (delays : List (List ArcDelay)) (old new : List ℕ) (ticks level : ℕ) (nodes : List ℕ)
      → IsRenewed base g touch edit rows delays old ticks → IsTurn old new level nodes → ticks + length nodes ≤ forward_count s.design s2.design touch
  goes_few rows delays old new ticks level nodes renewed turn =
      subst (λ (x : ℕ). ticks + length nodes ≤ x) count_is (part base g touch edit rows delays old new ticks level nodes renewed turn (length nodes) (omega arith))

  -- the loop ends
  pub goes_down : (rows : List NodeRow) (delays : List (List ArcDelay)) (old new last : List ℕ) (ticks level : ℕ) (nodes : List ℕ)
      → IsRenewed base g touch edit rows delays old ticks → IsTurn old new level nodes
      → ((k n : ℕ) → waits last k n ≡ (waits new k n || list_any (λ m. is_moved s rows m (row_numbered s2 m) && stands_in (level_at g) (heads_of g m) k n) nodes))
      → room last < room old
  goes_down rows delays old new last ticks level nodes renewed turn wait =
      pass_smaller cone (laws base g touch edit) (λ n. get_or rows n empty_row) old new ticks level nodes (renewed.0, renewed.1.cut) turn (heads_of g) (outs base g touch edit) last
      (λ k n. wait k n ∙ ap (λ (b : Bool). waits new k n || b) (marked base g touch edit rows delays old new ticks level nodes renewed turn k n))

  -- where no node waits
  pub ends : (rows : List NodeRow) (delays : List (List ArcDelay)) (keys : List ℕ) (ticks : ℕ) → IsRenewed base g touch edit rows delays keys ticks → IsIdle keys
      → AreRenewed g rows delays × (ticks ≡ forward_count s.design s2.design touch)
  ends rows delays keys ticks renewed idle = (
    record {
      rows_are = all_rows base g touch edit rows delays keys ticks renewed idle;
      delay_count = renewed.1.delay_count;
      delays_are = all_delays base g touch edit rows delays keys ticks renewed idle;
      fine = every_fine base g touch edit rows delays keys ticks renewed idle;
    },
    all_ticks base g touch edit rows delays keys ticks renewed idle ∙ count_is,
  )
