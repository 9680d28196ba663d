-- The pass back over what an edit affects: from turn to turn the rows of the higher levels are the definition's, and their nodes
-- are fine.

use Rattle.std.proofs.Common.{◌≡◌, ℕ, zero, suc, ◌+◌, ◌-◌, ◌<◌, ◌≤◌, ◌==◌, Bool, true, false, not, cond, ◌&&◌, ◌||◌, List, [], ◌∷◌, map, length, get_or, All, Option, None, Some, refl, sym, ap, subst, ◌∙◌, inl, inr, arith}
use Rattle.std.specs.Prelude.{is_some, nat_lt, if◌then◌else◌}
use Rattle.std.specs.List.{list_any, count_by, range_with_len}
use Rattle.std.specs.Option.{option_map_or}
use Rattle.std.proofs.lemmas.Bool.{cases_Bool, cases_lt, and_parts, lt-ltb, eq-eqb, eqb-true, true≢false}
use Rattle.std.proofs.lemmas.List.{get_or_past}
use Rattle.std.proofs.lemmas.List.Elements.{All-nil, All-cons, All-head, All-tail}
use Rattle.std.proofs.lemmas.List.Folds.{list_any_at}
use Rattle.std.proofs.lemmas.List.Sums.{sum_by-cons}
use Rattle.std.proofs.lemmas.Option.{slice_get-get_or, get_or_from_slice_get}
use Rattle.timing_defs.specs.declared.rows.BackRow.{BackRow}
use Rattle.timing_defs.specs.Netlist.{Node}
use Rattle.timing_rules.specs.Required.{back_row, empty_back}
use Rattle.timing_defs.specs.Touches.{Touch}
use Rattle.timing_rules.specs.Cones.{same_back, is_backward}
use Rattle.timing_defs.proofs.ListLemmas.{list_any_agree}
use Rattle.netlist_store.specs.Numbering.{IsNumbered}
use Rattle.netlist_store.specs.Applying.{IsEditOf}
use Rattle.level_cone.specs.Waiting.{waits, room, IsIdle, IsTurn}
use Rattle.level_cone.specs.Cone.{Cone, IsCone, AreOuts, IsCut, IsPass, affected, affected_count, marks, stands_in, put_all}
use Rattle.level_cone.proofs.ConeLaws.{waits_here}
use Rattle.level_cone.proofs.Puts.{length-put_all, put_all_at}
use Rattle.level_cone.proofs.Turns.{cut_start, cut_skip, cut_here, cut_more_at, turn_from, turn_told}
use Rattle.level_cone.proofs.Passes.{pass_part, pass_rows, pass_ticks, pass_smaller}
use Rattle.pin_graph.specs.declared.arcs.GraphArc.{GraphArc}
use Rattle.pin_graph.specs.Nodes.{node_at, node_bound}
use Rattle.pin_graph.specs.Graphs.{Graphed, IsGraph, fan_at, level_at, from_of}
use Rattle.pin_graph.specs.RowTables.{AreRowsFine, back_numbered}
use Rattle.pin_graph.proofs.NodeLaws.{has_node, node_below}
use Rattle.required_engine.specs.Worked.{AreDoneFrom}
use Rattle.required_engine.specs.Updated.{AreFirst, IsBackBase, from_top, top_level, back_at, back_before, back_cone, tails_stand, tails_of_changed, IsFineAt, IsAtLevel, IsBackPass}
use Rattle.required_engine.proofs.BackCone.{was_linked, now_linked, level_under, onto, falls, quiet, cone_laws, cone_outs, affected_backward}
use Rattle.required_engine.proofs.FineBacks.{fine_stays}

-- what holds of all holds of one that is there
one_of : (P : ℕ → Type 0) (nodes : List ℕ) → All P nodes → (n : ℕ) → list_any (λ y. y == n) nodes ≡ true → P n
one_of P [] all n e = absurd (true≢false (sym e))
one_of P (x ∷ nodes) all n e = elim (cases_Bool (x == n)) [
  | inl here ↦ subst P (eqb-true x n here) (All-head P x nodes all)
  | inr other ↦ one_of P nodes (All-tail P x nodes all) n (sym (ap (λ (b : Bool). b || list_any (λ y. y == n) nodes) other) ∙ e)
]

or_later : (p q : Bool) → q ≡ true → (p || q) ≡ true
or_later true q e = refl
or_later false q e = e

and_rest : (a b c : Bool) → a ≡ true → b ≡ true → (a && (b && c)) ≡ false → c ≡ false
and_rest true true c x y e = e
and_rest true false c x y e = absurd (true≢false (sym y))
and_rest false b c x y e = absurd (true≢false (sym x))

module _ {R : Type 0} (c : Cone R) where
  count_less : (p q : ℕ → Bool) (xs : List ℕ) → count_by (λ n. p n && q n) xs ≤ count_by q xs
  count_less p q [] = omega arith
  count_less p q (x ∷ xs) =
      let more = count_less p q xs in
      let one = unit (p x) (q x) in
      let a : count_by (λ n. p n && q n) (x ∷ xs) ≡ cond {A = ℕ} (p x && q x) 1 0 + count_by (λ n. p n && q n) xs = sum_by-cons (λ n. cond (p n && q n) 1 0) x xs in
      let b : count_by q (x ∷ xs) ≡ cond {A = ℕ} (q x) 1 0 + count_by q xs = sum_by-cons (λ n. cond (q n) 1 0) x xs in
      omega (arith, more, one, a, b)
    where
      unit : (a b : Bool) → cond {A = ℕ} (a && b) 1 0 ≤ cond {A = ℕ} b 1 0
      unit true b = omega arith
      unit false true = omega arith
      unit false false = omega arith

  -- no more are counted before a turn than are affected
  pub pass_within : (row : ℕ → R) (waiting : ℕ → ℕ → Bool) (ticks : ℕ) → IsPass c row waiting ticks → ticks ≤ affected_count c
  pass_within row waiting ticks pass =
      let few = count_less (λ n. nat_lt (c.level n) pass.0) (affected c) (range_with_len 0 c.count) in
      let told = pass.1.counted in
      omega (arith, few, told)

-- arcs that begin at a number, by the numbers
tails_are : (g : Graphed) (arcs : List GraphArc) (k n : ℕ) → tails_stand g arcs k n ≡ stands_in (top_level g) (map from_of arcs) k n
tails_are g [] k n = refl
tails_are g (arc ∷ arcs) k n = ap (λ (b : Bool). ((top_level g arc.from == k) && (arc.from == n)) || b) (tails_are g arcs k n)

module _ (b g : Graphed) (touch : Touch) (made : IsEditOf b.stored touch g.stored) (num2 : IsNumbered g.stored)
    (was_is : IsGraph b) (is : IsGraph g) (before : List BackRow) (was : IsBackBase b.stored before) (fine : AreRowsFine g.stored.design)
    (first : List ℕ) (firsts : AreFirst b.stored g.stored touch first) where
  abbrev c : Cone BackRow
  c = back_cone b.stored g first

  abbrev num : IsNumbered b.stored
  num = was.numbered

  laws : IsCone c
  laws = cone_laws b g touch made num num2 was_is is first firsts

  outs : AreOuts c (λ m. map from_of (fan_at g.ins m))
  outs = cone_outs b g touch made num num2 was_is is first firsts

  -- the rows of the base
  base_at : (n : ℕ) → back_at before n ≡ back_numbered b.stored n
  base_at n = elim (cases_lt n (node_bound b.stored)) [
    | inl low ↦ get_or_from_slice_get before n (back_numbered b.stored n) empty_back (was.backs.row n low)
    | inr past ↦ get_or_past before n empty_back (let long = was.backs.count in omega (arith, past, long)) ∙ sym (gap (node_at b.stored n) refl past)
  ]
    where
      gap : (o : Option Node) → node_at b.stored n ≡ o → node_bound b.stored ≤ n → back_numbered b.stored n ≡ empty_back
      gap None e past = ap (λ o. option_map_or (back_row b.stored.design) o empty_back) e
      gap (Some node) e past =
          let low = node_below b.stored node n (has_node b.stored num (was_linked b g touch made num num2 was_is is) n node e) in
          absurd (omega (arith, past, low))

  -- an affected number is of a node
  node_there : (n : ℕ) → n < node_bound g.stored → affected c n ≡ true → is_some (node_at g.stored n) ≡ true
  node_there n low e = by (node_at g.stored n) refl
    where
      by : (o : Option Node) → node_at g.stored n ≡ o → is_some (node_at g.stored n) ≡ true
      by None f = absurd (true≢false (sym (affected_backward b g touch made num num2 was_is is first firsts n low e)
          ∙ ap (λ o. option_map_or (is_backward b.stored.design g.stored.design touch) o false) f))
      by (Some node) f = ap is_some f

  -- a node over fine ones that is not affected
  fine_calm : (n : ℕ) → n < node_bound g.stored → affected c n ≡ false
      → ((m : ℕ) → m < node_bound g.stored → top_level g m < top_level g n → IsFineAt g.stored m) → IsFineAt g.stored n
  fine_calm n low calm above node told =
      fine_stays b g touch made num num2 was_is is was.fine was.backs_fine fine node (n, has_node g.stored num2 (now_linked b g touch made num num2 was_is is) n node told)
      (quiet b g touch made num num2 was_is is first firsts n low node told calm)
      (λ to a.
      let o = onto g num2 (now_linked b g touch made num num2 was_is is) is n low node told to a in
      let under = low_of o.arc.to to o.told in
      above o.arc.to under (falls g num2 (now_linked b g touch made num num2 was_is is) is n low o.arc o.within) to o.told)
    where
      low_of : (m : ℕ) (to : Node) → node_at g.stored m ≡ Some to → m < node_bound g.stored
      low_of m to e = node_below g.stored to m (has_node g.stored num2 (now_linked b g touch made num num2 was_is is) m to e)

  module _ (l : ℕ) (row : ℕ → BackRow) (waiting : ℕ → ℕ → Bool) (ticks : ℕ) (cut : IsCut c l row waiting ticks)
      (above : (n : ℕ) → n < node_bound g.stored → top_level g n < l → IsFineAt g.stored n) where
    -- a node of a level at which it does not wait is not affected
    calm_at : (k : ℕ) → l ≤ k → ((j n : ℕ) → j < k → waiting j n ≡ false) → (n : ℕ) → n < node_bound g.stored → top_level g n ≡ k → waiting k n ≡ false → affected c n ≡ false
    calm_at k over none n low here quiet_here =
        let at = waits_here c laws k row waiting ticks (cut_skip c laws l k row waiting ticks over cut none) n in
        and_rest (nat_lt n (node_bound g.stored)) (top_level g n == k) (affected c n) (lt-ltb n (node_bound g.stored) low) (eq-eqb (top_level g n) k here) (sym at ∙ quiet_here)

    fine_by : (j to : ℕ) → l + j ≡ to → ((k n : ℕ) → k < to → waiting k n ≡ false) → (n : ℕ) → n < node_bound g.stored → top_level g n < to → IsFineAt g.stored n
    fine_by zero to sum none n low under = above n low (omega (arith, sum, under))
    fine_by (suc j) to sum none n low under = elim (cases_lt (top_level g n) (l + j)) [
      | inl less ↦ fine_by j (l + j) refl (λ k m before. none k m (omega (arith, before, sum))) n low less
      | inr over ↦
          let here : top_level g n ≡ l + j = omega (arith, over, under, sum) in
          fine_calm n low (calm_at (l + j) (omega arith) (λ k m before. none k m (omega (arith, before, sum))) n low here (none (l + j) n (omega (arith, sum))))
          (λ m lm less. fine_by j (l + j) refl (λ k x before. none k x (omega (arith, before, sum))) m lm (omega (arith, less, here)))
    ]

    -- up to a level below which none waits all are fine
    pub fine_to : (to : ℕ) → l ≤ to → ((k n : ℕ) → k < to → waiting k n ≡ false) → (n : ℕ) → n < node_bound g.stored → top_level g n < to → IsFineAt g.stored n
    fine_to to within none = fine_by (to - l) to (omega (arith, within)) none

  low_first : (n : ℕ) → list_any (λ y. y == n) first ≡ true → n < node_bound g.stored
  low_first n e = by (node_at g.stored n) refl
    where
      by : (o : Option Node) → node_at g.stored n ≡ o → n < node_bound g.stored
      by None f = absurd (true≢false (sym (firsts.sound n e) ∙ ap (λ o. option_map_or (is_backward b.stored.design g.stored.design touch) o false) f))
      by (Some node) f = node_below g.stored node n (has_node g.stored num2 (now_linked b g touch made num num2 was_is is) n node f)

  low_all : (xs : List ℕ) → ((n : ℕ) → list_any (λ y. y == n) xs ≡ true → list_any (λ y. y == n) first ≡ true) → All (λ n. n < node_bound g.stored) xs
  low_all [] inside = All-nil (λ n. n < node_bound g.stored)
  low_all (x ∷ xs) inside =
      All-cons (λ n. n < node_bound g.stored) x xs (low_first x (inside x (ap (λ (t : Bool). t || list_any (λ y. y == x) xs) (eq-eqb x x refl))))
      (low_all xs (λ n e. inside n (or_later (x == n) (list_any (λ y. y == n) xs) e)))

  -- the first nodes are nodes of the graph
  pub first_low : All (λ n. n < node_bound g.stored) first
  first_low = low_all first (λ n e. e)

  -- before the first turn
  pub pass_begins : (rows : List BackRow) (idle keys : List ℕ) (start : ℕ) → length rows ≡ node_bound g.stored
      → ((n : ℕ) → n < node_bound g.stored → back_at rows n ≡ back_before b.stored g.stored n)
      → IsIdle idle → ((k n : ℕ) → waits keys k n ≡ (waits idle k n || stands_in (top_level g) first k n))
      → IsBackPass b.stored g first rows keys start start
  pass_begins rows idle keys start long rows_are none wait = record {
    count = long;
    ticks = 0;
    told = (let z : start ≡ start + 0 = omega arith in z);
    pass = (
      0,
      cut_start c laws first (back_at rows) keys 0 first_low (λ n low. refl) rows_are
          (λ k n. wait k n ∙ ap (λ (t : Bool). t || stands_in (top_level g) first k n) (none k n)) refl,
    );
    fine = λ n low under. absurd (omega (arith, under));
  }

  -- a turn
  module _ (rows : List BackRow) (old new : List ℕ) (start steps level : ℕ) (nodes : List ℕ)
      (going : IsBackPass b.stored g first rows old start steps) (turn : IsTurn old new level nodes) where
    abbrev cut_now : IsCut c level (back_at rows) (waits old) going.ticks
    cut_now = cut_here c laws going.pass.0 (back_at rows) old new going.ticks level nodes going.pass.1 turn

    fine_before_turn : (n : ℕ) → n < node_bound g.stored → top_level g n < level → IsFineAt g.stored n
    fine_before_turn =
        fine_to going.pass.0 (back_at rows) (waits old) going.ticks going.pass.1 going.fine level
        (turn_from c laws going.pass.0 (back_at rows) old new going.ticks level nodes going.pass.1 turn) turn.least

    -- the rows of the higher levels are done
    pub turn_done : AreDoneFrom g rows (from_top level + 1)
    turn_done = record {
      count = going.count;
      done = λ n low over.
          (let most = level_under g num2 (now_linked b g touch made num num2 was_is is) is n low in
          let last = turn.low in
          let under : top_level g n < level = omega (arith, over, most, last) in
          record {
            row = slice_get-get_or rows n empty_back (let long = going.count in omega (arith, low, long)) ∙ ap Some (cut_now.below n low under);
            fine = fine_before_turn n low under;
          });
    }

    turn_nodes_told : All (λ n. (n < c.count) × (c.level n ≡ level) × (back_at rows n ≡ c.was n)) nodes
    turn_nodes_told = turn_told c laws going.pass.0 (back_at rows) old new going.ticks level nodes going.pass.1 turn

    -- its nodes are of one level
    pub turn_level : All (IsAtLevel g (from_top level)) nodes
    turn_level = λ i d within.
        let t = turn_nodes_told i d within in
        let most = level_under g num2 (now_linked b g touch made num num2 was_is is) is (get_or nodes i d) t.0 in
        let at = t.1 in
        (t.0, (let z : level_at g (get_or nodes i d) ≡ from_top level = omega (arith, most, at) in z))

    -- with it no more are counted than are affected
    pub turn_within : going.ticks + length nodes ≤ affected_count c
    turn_within = pass_part c laws (back_at rows) old new going.ticks level nodes going.pass turn (length nodes) (omega arith)

    -- what it makes wait
    module _ (rows' : List BackRow) (last : List ℕ) (steps' : ℕ)
        (put : rows' ≡ put_all rows nodes (map (back_numbered g.stored) nodes))
        (wait : (k n : ℕ) → waits last k n ≡ (waits new k n || tails_of_changed g before rows' nodes k n))
        (told : steps' ≡ steps + length nodes) (fines : All (IsFineAt g.stored) nodes) where
      in_turn : (n : ℕ) → list_any (λ y. y == n) nodes ≡ true → affected c n ≡ true
      in_turn n e =
          let at = waits_here c laws level (back_at rows) (waits old) going.ticks cut_now n in
          (and_parts (top_level g n == level) (affected c n) (and_parts (nat_lt n (node_bound g.stored)) ((top_level g n == level) && affected c n) (sym at ∙ sym (turn.each n) ∙ e)).1).1

      row_put : (n : ℕ) → list_any (λ y. y == n) nodes ≡ true → back_at rows' n ≡ back_numbered g.stored n
      row_put n e =
          ap (λ rs. back_at rs n) put
          ∙ put_all_at (back_numbered g.stored) empty_back rows nodes (λ i d within. let t = (turn_nodes_told i d within).0 in let long = going.count in omega (arith, t, long)) n
          ∙ ap (λ t. cond t (back_numbered g.stored n) (back_at rows n)) e

      row_was : (n : ℕ) → list_any (λ y. y == n) nodes ≡ true → back_at before n ≡ back_before b.stored g.stored n
      row_was n e =
          let t = one_of (λ n. (n < c.count) × (c.level n ≡ level) × (back_at rows n ≡ c.was n)) nodes turn_nodes_told n e in
          base_at n ∙ sym (ap (λ t. if t then back_numbered b.stored n else empty_back) (node_there n t.0 (in_turn n e)))

      wait_marks : (k n : ℕ) → waits last k n ≡ (waits new k n || marks c (λ m. map from_of (fan_at g.ins m)) nodes k n)
      wait_marks k n =
          wait k n
          ∙ ap (λ (t : Bool). waits new k n || t)
          (list_any_agree (λ m. not (same_back (back_at before m) (back_at rows' m)) && tails_stand g (fan_at g.ins m) k n)
          (λ m. c.differs m && stands_in c.level (map from_of (fan_at g.ins m)) k n) nodes
          (λ i d within.
          let e = here i d within in
          (λ j. not (same_back (row_was (get_or nodes i d) e j) (row_put (get_or nodes i d) e j)) && tails_are g (fan_at g.ins (get_or nodes i d)) k n j)))
        where
          here : (i d : ℕ) → i < length nodes → list_any (λ y. y == get_or nodes i d) nodes ≡ true
          here i d within = list_any_at (λ y. y == get_or nodes i d) nodes i d within (eq-eqb (get_or nodes i d) (get_or nodes i d) refl)

      pub turn_more : IsBackPass b.stored g first rows' last start steps'
      turn_more = record {
        count = ap length put ∙ length-put_all rows nodes (map (back_numbered g.stored) nodes) ∙ going.count;
        ticks = going.ticks + length nodes;
        told = (let was_told = going.told in omega (arith, told, was_told));
        pass = (
          level + 1,
          cut_more_at c laws (λ m. map from_of (fan_at g.ins m)) outs empty_back rows rows' (map (back_numbered g.stored) nodes) old new last going.pass.0 (level + 1)
              going.ticks (going.ticks + length nodes) level nodes going.pass.1 turn (let long = going.count in omega (arith, long)) refl refl refl put wait_marks,
        );
        fine = fine_more;
      }
        where
          fine_more : (n : ℕ) → n < node_bound g.stored → top_level g n < level + 1 → IsFineAt g.stored n
          fine_more n low under = elim (cases_lt (top_level g n) level) [
            | inl less ↦ fine_before_turn n low less
            | inr over ↦ elim (cases_Bool (list_any (λ y. y == n) nodes)) [
              | inl e ↦ one_of (IsFineAt g.stored) nodes fines n e
              | inr e ↦
                  let here : top_level g n ≡ level = omega (arith, over, under) in
                  fine_calm n low
                  (calm_at going.pass.0 (back_at rows) (waits old) going.ticks going.pass.1 going.fine level
                  (turn_from c laws going.pass.0 (back_at rows) old new going.ticks level nodes going.pass.1 turn) turn.least n low here (sym (turn.each n) ∙ e))
                  (λ m lm less. fine_before_turn m lm (omega (arith, less, here)))
            ]
          ]

      pub turn_smaller : room last < room old
      turn_smaller = pass_smaller c laws (back_at rows) old new going.ticks level nodes going.pass turn (λ m. map from_of (fan_at g.ins m)) outs last wait_marks

  -- after the last turn all rows are done
  pub pass_ends : (rows : List BackRow) (keys : List ℕ) (start steps : ℕ) → IsBackPass b.stored g first rows keys start steps → IsIdle keys → AreDoneFrom g rows 0
  pass_ends rows keys start steps going idle = record {
    count = going.count;
    done = λ n low over. record {
      row = slice_get-get_or rows n empty_back (let long = going.count in omega (arith, low, long)) ∙ ap Some (pass_rows c laws (back_at rows) keys going.ticks going.pass idle n low);
      fine =
          fine_to going.pass.0 (back_at rows) (waits keys) going.ticks going.pass.1 going.fine (going.pass.0 + (top_level g n + 1)) (omega arith) (λ k m under. idle k m) n low
          (let z : top_level g n < going.pass.0 + (top_level g n + 1) = omega arith in z);
    };
  }

  pub steps_within : (rows : List BackRow) (keys : List ℕ) (start steps : ℕ) → IsBackPass b.stored g first rows keys start steps → steps ≤ start + affected_count c
  steps_within rows keys start steps going =
      let few = pass_within c (back_at rows) (waits keys) going.ticks going.pass in
      let told = going.told in
      omega (arith, few, told)

  pub steps_are : (rows : List BackRow) (keys : List ℕ) (start steps : ℕ) → IsBackPass b.stored g first rows keys start steps → IsIdle keys → steps ≡ start + affected_count c
  steps_are rows keys start steps going idle =
      let all = pass_ticks c laws (back_at rows) keys going.ticks going.pass idle in
      let told = going.told in
      omega (arith, all, told)
