-- An update level by level: what is there of the edited store before a turn, and after it.

use Rattle.std.proofs.Common.{◌≡◌, ◌≢◌, ◌⊎◌, ℕ, zero, suc, ◌+◌, ◌-◌, ◌<◌, ◌≤◌, true, false, ◌==◌, ◌||◌, List, [], ◌∷◌, map, length, get_or, Some, refl, sym, ap, subst, ◌∙◌, inl, inr, arith}
use Rattle.std.specs.Prelude.{All, slice_get, slice_set}
use Rattle.std.specs.List.{list_any}
use Rattle.std.proofs.lemmas.Bool.{cases_Bool, cases_eq, cases_lt, lt-ltb, eq-eqb, ne_eqb, false≢true}
use Rattle.std.proofs.lemmas.List.{get_or-set_same, get_or-set_other, length-set}
use Rattle.std.proofs.lemmas.List.Elements.{All-contains, All-head, All-tail}
use Rattle.timing_defs.specs.declared.kinds.Split.{Split}
use Rattle.timing_defs.specs.declared.rows.NodeRow.{NodeRow}
use Rattle.timing_defs.specs.Netlist.{Node}
use Rattle.timing_rules.specs.Rows.{row, empty_row}
use Rattle.timing_defs.specs.Touches.{Touch}
use Rattle.netlist_store.specs.Linked.{IsLinked}
use Rattle.netlist_store.specs.Numbering.{Stored, IsNumbered}
use Rattle.netlist_store.specs.Applying.{IsEditOf}
use Rattle.level_workers.specs.Mapped.{IsMap}
use Rattle.node_rows.proofs.FineLaws.{IsCarried}
use Rattle.eco_laws.proofs.EditOf.{edited_linked}
use Rattle.level_cone.specs.Cone.{Cone, affected, affected_count, IsCone, IsCut, AreOuts, marks, put_all}
use Rattle.level_cone.specs.Waiting.{waits, IsTurn, IsIdle}
use Rattle.level_cone.proofs.ConeLaws.{waits_here}
use Rattle.level_cone.proofs.Turns.{cut_skip, cut_here, cut_more_at, turn_from, turn_told, rows_all, ticks_all, ticks_part}
use Rattle.level_cone.proofs.Puts.{length-put_all}
use Rattle.pin_graph.specs.Nodes.{node_at, node_bound}
use Rattle.pin_graph.specs.Graphs.{Graphed, IsGraph, level_at}
use Rattle.pin_graph.specs.RowTables.{row_numbered, AreRows}
use Rattle.pin_graph.proofs.NodeLaws.{HasNode, node_told}
use Rattle.arc_delays.specs.declared.tables.ArcDelay.{ArcDelay}
use Rattle.arc_delays.specs.Delays.{AreDelaysAt}
use Rattle.arc_delays.proofs.TableLaws.{into_told}
use Rattle.arrival_engine.specs.declared.nodes.NodeAnswer.{NodeAnswer}
use Rattle.arrival_engine.specs.Analysed.{IsFineNode, AreDoneBelow, IsNodeAnswer}
use Rattle.arrival_engine.specs.Updated.{froms_of, heads_of, forward_cone, rows_told, delays_told}
use Rattle.arrival_engine.proofs.ForwardCone.{is_cone, before, from_there, kept_node, kept_number}
use Rattle.arrival_engine.proofs.CalmNodes.{fine_kept}

-- the node of a number is fine
abbrev pub IsFineAt : Stored → ℕ → Type 0
IsFineAt s k = (n : Node) → node_at s k ≡ Some n → IsFineNode s.design n

-- an ECO between the stores of two graphs, of a base whose nodes are fine
pub record IsEdit (base g : Graphed) (touch : Touch) : Type 0 where
  pub made : IsEditOf base.stored touch g.stored
  pub num : IsNumbered base.stored
  pub num2 : IsNumbered g.stored
  pub graph : IsGraph base
  pub graph2 : IsGraph g
  pub all_fine : (n : Node) (k : ℕ) → HasNode base.stored n k → IsFineNode base.stored.design n
  pub carried : (split : Split) (n : Node) (k : ℕ) → HasNode base.stored n k → IsCarried base.stored.design split n

-- what a list has at a place
got : (xs : List NodeRow) (k : ℕ) (row : NodeRow) → k < length xs → get_or xs k empty_row ≡ row → slice_get xs k ≡ Some row
got [] k row low e = absurd (omega (arith, low))
got (x ∷ xs) zero row low e = ap Some e
got (x ∷ xs) (suc k) row low e = got xs k row (omega (arith, low)) e

module _ (base g : Graphed) (touch : Touch) (edit : IsEdit base g touch) where
  abbrev s2 : Stored
  s2 = g.stored

  abbrev cone : Cone NodeRow
  cone = forward_cone base.stored touch g

  linked2 : IsLinked s2.design
  linked2 = edited_linked base.stored touch s2 edit.made

  pub laws : IsCone cone
  laws = is_cone base g touch edit.made edit.num edit.num2 edit.graph edit.graph2

  -- what is there of the edited store before a level: the rows below it, and what is reached so far waits
  pub record IsRenewedTo (rows : List NodeRow) (delays : List (List ArcDelay)) (queue : List ℕ) (ticks level : ℕ) : Type 0 where
    pub row_count : length rows ≡ node_bound s2
    pub delay_count : length delays ≡ node_bound s2
    pub cut : IsCut cone level (λ n. get_or rows n empty_row) (waits queue) ticks
    pub delayed : (k : ℕ) → k < node_bound s2 → (affected cone k ≡ false) ⊎ (level_at g k < level) → AreDelaysAt s2 k (get_or delays k [])
    pub fine : (k : ℕ) → k < node_bound s2 → level_at g k < level → IsFineAt s2 k

  abbrev pub IsRenewed : List NodeRow → List (List ArcDelay) → List ℕ → ℕ → Type 0
  IsRenewed rows delays queue ticks = (level : ℕ) × IsRenewedTo rows delays queue ticks level

  -- a node that is not affected is fine over fine ones
  calm_fine : (k : ℕ) → k < node_bound s2 → affected cone k ≡ false → ((m : ℕ) → m < node_bound s2 → level_at g m < level_at g k → IsFineAt s2 m) → IsFineAt s2 k
  calm_fine k low none below n at =
      fine_kept base g touch edit.made edit.num edit.num2 edit.graph edit.graph2 k low n at none edit.all_fine
      (λ split. edit.carried split (kept_node base g touch edit.made edit.num edit.num2 edit.graph edit.graph2 k low n at none).node k
      (kept_number base g touch edit.made edit.num edit.num2 edit.graph edit.graph2 k low n at none))
      (λ from2 c.
      let b = before base g touch edit.made edit.num edit.num2 edit.graph edit.graph2 k low n at from2 c in
      let inside = from_there base g touch edit.made edit.num edit.num2 edit.graph edit.graph2 k low n at from2 c in
      below b.0 (All-contains (λ m. m < node_bound s2) (froms_of g k) b.0 (laws.low k low) inside)
      (All-contains (λ m. level_at g m < level_at g k) (froms_of g k) b.0 (laws.rising k low) inside) from2 (node_told s2 from2 b.0 b.1))

  -- where the nodes between two levels are not affected they are fine
  fine_up : (j l to : ℕ) → l + j ≡ to → ((k : ℕ) → k < node_bound s2 → l ≤ level_at g k → level_at g k < to → affected cone k ≡ false)
      → ((k : ℕ) → k < node_bound s2 → level_at g k < l → IsFineAt s2 k) → (k : ℕ) → k < node_bound s2 → level_at g k < to → IsFineAt s2 k
  fine_up zero l to sum quiet fine k low under = fine k low (omega arith)
  fine_up (suc j) l to sum quiet fine n n_low n_under =
      fine_up j (l + 1) to (omega arith) (λ k low from under. quiet k low (omega arith) under)
      (λ k low under. elim (cases_lt (level_at g k) l) [
        | inl less ↦ fine k low less
        | inr here ↦ calm_fine k low (quiet k low here (omega (arith, under, sum))) (λ m mlow less. fine m mlow (omega (arith, less, under)))
      ])
      n n_low n_under

  -- before the first turn
  pub renewed_first : (rows : List NodeRow) (delays : List (List ArcDelay)) (queue : List ℕ) (ticks : ℕ) → length rows ≡ node_bound s2 → length delays ≡ node_bound s2
      → IsCut cone 0 (λ n. get_or rows n empty_row) (waits queue) ticks
      → ((k : ℕ) → k < node_bound s2 → affected cone k ≡ false → AreDelaysAt s2 k (get_or delays k [])) → IsRenewed rows delays queue ticks
  renewed_first rows delays queue ticks long many cut calm = (
    0,
    record {
      row_count = long;
      delay_count = many;
      cut = cut;
      delayed = λ k low h. elim h [ inl none ↦ calm k low none | inr under ↦ absurd (omega (arith, under)) ];
      fine = λ k low under. absurd (omega (arith, under));
    },
  )

  -- a turn
  module _ (rows : List NodeRow) (delays : List (List ArcDelay)) (old new : List ℕ) (ticks level : ℕ) (nodes : List ℕ)
      (renewed : IsRenewed rows delays old ticks) (turn : IsTurn old new level nodes) where
    abbrev l : ℕ
    l = renewed.0

    abbrev r : IsRenewedTo rows delays old ticks l
    r = renewed.1

    from_cut : l ≤ level
    from_cut = turn_from cone laws l (λ n. get_or rows n empty_row) old new ticks level nodes r.cut turn

    pub here_cut : IsCut cone level (λ n. get_or rows n empty_row) (waits old) ticks
    here_cut = cut_here cone laws l (λ n. get_or rows n empty_row) old new ticks level nodes r.cut turn

    -- what stands between the cut and the turn is not affected
    quiet : (k : ℕ) → k < node_bound s2 → l ≤ level_at g k → level_at g k < level → affected cone k ≡ false
    quiet k low over under =
        let skipped = cut_skip cone laws l (level_at g k) (λ n. get_or rows n empty_row) (waits old) ticks over r.cut (λ j m less. turn.least j m (omega arith)) in
        let here = waits_here cone laws (level_at g k) (λ n. get_or rows n empty_row) (waits old) ticks skipped k in
        sym (here ∙ rw (lt-ltb k (node_bound s2) low, eq-eqb (level_at g k) (level_at g k) refl) refl) ∙ turn.least (level_at g k) k under

    fine_here : (k : ℕ) → k < node_bound s2 → level_at g k < level → IsFineAt s2 k
    fine_here = fine_up (level - l) l level (omega (arith, from_cut)) quiet r.fine

    pub nodes_told : All (λ n. (n < node_bound s2) × (level_at g n ≡ level) × (get_or rows n empty_row ≡ cone.was n)) nodes
    nodes_told = turn_told cone laws l (λ n. get_or rows n empty_row) old new ticks level nodes r.cut turn

    -- the rows below the level of the turn are those of the edited store
    pub done_below : AreDoneBelow g rows level
    done_below = record {
      count = r.row_count;
      done = λ k low under. record {
        row = got rows k (row_numbered s2 k) (omega (arith, low, r.row_count)) (here_cut.below k low under);
        fine = fine_here k low under;
      };
    }

    pub part : (more : ℕ) → more ≤ length nodes → ticks + more ≤ affected_count cone
    part more few = ticks_part cone laws l (λ n. get_or rows n empty_row) old new ticks level nodes r.cut turn more few

    here_quiet : (k : ℕ) → k < node_bound s2 → level_at g k ≡ level → list_any (λ y. y == k) nodes ≡ false → affected cone k ≡ false
    here_quiet k low here out =
        let told = waits_here cone laws level (λ n. get_or rows n empty_row) (waits old) ticks here_cut k in
        sym (told ∙ rw (lt-ltb k (node_bound s2) low, eq-eqb (level_at g k) level here) refl) ∙ sym (turn.each k) ∙ out

    module _ (answers : List NodeAnswer) (told : IsMap (IsNodeAnswer g) nodes answers) where
      news_are : (ns : List ℕ) (xs : List NodeAnswer) → IsMap (IsNodeAnswer g) ns xs → rows_told xs ≡ map cone.now ns
      news_are [] [] m = refl
      news_are [] (a ∷ more) m = absurd m
      news_are (n ∷ ns) [] m = absurd m
      news_are (n ∷ ns) (a ∷ more) m = λ k. m.0.row.row k ∷ news_are ns more m.1 k

      fine_told : (ns : List ℕ) (xs : List NodeAnswer) → IsMap (IsNodeAnswer g) ns xs → (k : ℕ) → list_any (λ y. y == k) ns ≡ true → IsFineAt s2 k
      fine_told [] [] m k h = absurd (false≢true h)
      fine_told [] (a ∷ more) m k h = absurd m
      fine_told (n ∷ ns) [] m k h = absurd m
      fine_told (n ∷ ns) (a ∷ more) m k h = elim (cases_eq n k) [
        | inl same ↦ subst (IsFineAt s2) same m.0.row.fine
        | inr other ↦ fine_told ns more m.1 k (rw (ne_eqb n k other) at h)
      ]

      put_told : (ns : List ℕ) (xs : List NodeAnswer) → IsMap (IsNodeAnswer g) ns xs → All (λ n. n < node_bound s2) ns → (table : List (List ArcDelay)) → length table ≡ node_bound s2
          → (k : ℕ) → k < node_bound s2
          → AreDelaysAt s2 k (get_or (put_all table ns (delays_told xs)) k []) ⊎ ((list_any (λ y. y == k) ns ≡ false) × (get_or (put_all table ns (delays_told xs)) k [] ≡ get_or table k []))
      put_told [] [] m all table long k low = inr (refl, refl)
      put_told [] (a ∷ more) m all table long k low = absurd m
      put_told (n ∷ ns) [] m all table long k low = absurd m
      put_told (n ∷ ns) (a ∷ more) m all table long k low =
          let n_low : n < node_bound s2 = All-head (λ x. x < node_bound s2) n ns all in
          elim (put_told ns more m.1 (All-tail (λ x. x < node_bound s2) n ns all) (slice_set table n a.delays) (length-set table n a.delays ∙ long) k low) [
            | inl right ↦ inl right
            | inr kept ↦ elim (cases_eq n k) [
              | inl same ↦
                  let here : get_or (put_all (slice_set table n a.delays) ns (delays_told more)) k [] ≡ a.delays =
                  kept.1 ∙ ap (λ x. get_or (slice_set table n a.delays) x []) (sym same) ∙ get_or-set_same table n a.delays [] (omega (arith, n_low, long)) in
                  inl (subst (AreDelaysAt s2 k) (sym here) (subst (λ x. AreDelaysAt s2 x a.delays) same (into_told g edit.num2 linked2 edit.graph2 n a.delays n_low m.0.delays)))
              | inr other ↦ inr (rw (ne_eqb n k other) kept.0, kept.1 ∙ get_or-set_other table n k a.delays [] (λ e. other (sym e)))
            ]
          ]

      -- one turn more
      module _ (rows' : List NodeRow) (delays' : List (List ArcDelay)) (last : List ℕ) (ticks' : ℕ) (put_rows : rows' ≡ put_all rows nodes (rows_told answers))
          (put_delays : delays' ≡ put_all delays nodes (delays_told answers)) (counted : ticks' ≡ ticks + length nodes)
          (wait : (k n : ℕ) → waits last k n ≡ (waits new k n || marks cone (heads_of g) nodes k n)) (outs : AreOuts cone (heads_of g)) where
        after_cut : IsCut cone (level + 1) (λ n. get_or rows' n empty_row) (waits last) ticks'
        after_cut =
            cut_more_at cone laws (heads_of g) outs empty_row rows rows' (rows_told answers) old new last l (level + 1) ticks ticks' level nodes r.cut turn
            (omega (arith, r.row_count)) refl counted (news_are nodes answers told) put_rows wait

        below : All (λ n. n < node_bound s2) nodes
        below i d low = (nodes_told i d low).0

        after_delays : (k : ℕ) → k < node_bound s2 → (affected cone k ≡ false) ⊎ (level_at g k < level + 1) → AreDelaysAt s2 k (get_or delays' k [])
        after_delays k low h =
            subst (λ (t : List (List ArcDelay)). AreDelaysAt s2 k (get_or t k [])) (sym put_delays)
            (elim (put_told nodes answers told below delays r.delay_count k low) [
              | inl right ↦ right
              | inr kept ↦ subst (AreDelaysAt s2 k) (sym kept.1) (r.delayed k low (elim h [
                | inl none ↦ inl none
                | inr under ↦ elim (cases_lt (level_at g k) l) [
                  | inl done ↦ inr done
                  | inr over ↦ inl (elim (cases_eq (level_at g k) level) [
                    | inl here ↦ here_quiet k low here kept.0
                    | inr other ↦ quiet k low over (lower (level_at g k) level other under)
                  ])
                ]
              ]))
            ])
          where
            lower : (a b : ℕ) → a ≢ b → a < b + 1 → a < b
            lower a b other under = elim (cases_lt a b) [ inl less ↦ less | inr more ↦ absurd (other (omega (arith, more, under))) ]

        after_fine : (k : ℕ) → k < node_bound s2 → level_at g k < level + 1 → IsFineAt s2 k
        after_fine k low under = elim (cases_lt (level_at g k) level) [
          | inl less ↦ fine_here k low less
          | inr here ↦
              let same : level_at g k ≡ level = omega (arith, here, under) in
              elim (cases_Bool (list_any (λ y. y == k) nodes)) [
                | inl inside ↦ fine_told nodes answers told k inside
                | inr out ↦ calm_fine k low (here_quiet k low same out) (λ m mlow less. fine_here m mlow (omega (arith, less, same)))
              ]
        ]

        pub renewed_more : IsRenewed rows' delays' last ticks'
        renewed_more = (
          level + 1,
          record {
            row_count = ap length put_rows ∙ length-put_all rows nodes (rows_told answers) ∙ r.row_count;
            delay_count = ap length put_delays ∙ length-put_all delays nodes (delays_told answers) ∙ r.delay_count;
            cut = after_cut;
            delayed = after_delays;
            fine = after_fine;
          },
        )

  -- where no node waits
  module _ (rows : List NodeRow) (delays : List (List ArcDelay)) (queue : List ℕ) (ticks : ℕ) (renewed : IsRenewed rows delays queue ticks) (idle : IsIdle queue) where
    last_quiet : (k : ℕ) → k < node_bound s2 → renewed.0 ≤ level_at g k → affected cone k ≡ false
    last_quiet k low over =
        let skipped = cut_skip cone laws renewed.0 (level_at g k) (λ n. get_or rows n empty_row) (waits queue) ticks over renewed.1.cut (λ j m less. idle j m) in
        let here = waits_here cone laws (level_at g k) (λ n. get_or rows n empty_row) (waits queue) ticks skipped k in
        sym (here ∙ rw (lt-ltb k (node_bound s2) low, eq-eqb (level_at g k) (level_at g k) refl) refl) ∙ idle (level_at g k) k

    pub all_rows : AreRows s2 rows
    all_rows = record {
      count = renewed.1.row_count;
      row = λ k low. got rows k (row_numbered s2 k) (omega (arith, low, renewed.1.row_count)) (rows_all cone laws renewed.0 (λ n. get_or rows n empty_row) (waits queue) ticks renewed.1.cut idle k low);
    }

    pub all_delays : (k : ℕ) → k < node_bound s2 → AreDelaysAt s2 k (get_or delays k [])
    all_delays k low = renewed.1.delayed k low (elim (cases_lt (level_at g k) renewed.0) [ inl under ↦ inr under | inr over ↦ inl (last_quiet k low over) ])

    pub every_fine : (k : ℕ) → k < node_bound s2 → IsFineAt s2 k
    every_fine k low =
        fine_up (level_at g k + 1) renewed.0 (renewed.0 + (level_at g k + 1)) refl (λ m mlow over under. last_quiet m mlow over) renewed.1.fine k low (omega arith)

    pub all_ticks : ticks ≡ affected_count cone
    all_ticks = ticks_all cone laws renewed.0 (λ n. get_or rows n empty_row) (waits queue) ticks renewed.1.cut idle
