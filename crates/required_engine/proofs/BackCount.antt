-- The nodes that are evaluated are the backward ones; and the rows with which the pass begins.

use Rattle.std.proofs.Common.{◌≡◌, ℕ, zero, suc, ◌+◌, ◌-◌, ◌*◌, ◌/◌, ◌<◌, ◌≤◌, ◌==◌, Bool, true, false, not, ◌&&◌, ◌||◌, List, [], ◌∷◌, ◌++◌, take, replicate, length, get_or, Option, None, Some, refl, sym, ap, subst, ◌∙◌, inl, inr, arith}
use Rattle.std.specs.Prelude.{is_some, nat_eq, nat_lt, slice_set, option_map, option_and_then, if◌then◌else◌}
use Rattle.std.specs.List.{list_any, count_by, range_with_len}
use Rattle.std.specs.Option.{option_map_or}
use Rattle.std.proofs.lemmas.Bool.{cases_Bool, cases_eq, cases_lt, and_parts, eq-eqb, ne_eqb, lt-ltb, ltb-true, true≢false}
use Rattle.std.proofs.lemmas.List.{get_or-set_same, get_or-set_other, get_or_past}
use Rattle.std.proofs.lemmas.List.Folds.{list_any_more}
use Rattle.std.proofs.lemmas.Option.{get_or_from_slice_get}
use Rattle.timing_defs.specs.declared.rows.BackRow.{BackRow}
use Rattle.timing_defs.specs.Netlist.{Pin, Node, pin_named}
use Rattle.timing_rules.specs.Required.{back_row, empty_back}
use Rattle.timing_defs.specs.Touches.{Touch}
use Rattle.timing_rules.specs.Cones.{is_backward, backward_count}
use Rattle.timing_defs.proofs.ListLemmas.{count_by_agree}
use Rattle.netlist_store.specs.Linked.{IsLinked}
use Rattle.netlist_store.specs.Numbering.{Stored, IsNumbered, name_at, is_number}
use Rattle.netlist_store.specs.Applying.{IsEditOf}
use Rattle.level_cone.specs.Cone.{affected, affected_count}
use Rattle.level_cone.proofs.Counts.{range_all}
use Rattle.pin_graph.specs.Nodes.{node_at, node_bound, pin_under, tran_under}
use Rattle.pin_graph.specs.Graphs.{Graphed, IsGraph, of_node}
use Rattle.pin_graph.specs.RowTables.{AreBackRows, back_numbered}
use Rattle.pin_graph.proofs.NodeLaws.{has_node, node_below}
use Rattle.pin_graph.proofs.NodeCounts.{nodes_counted}
use Rattle.required_engine.specs.Worked.{sized_rows}
use Rattle.required_engine.specs.Updated.{AreFirst, is_in, back_at, back_before, back_cone}
use Rattle.required_engine.proofs.FirstLaws.{in_told, node_there}
use Rattle.required_engine.proofs.BackCone.{now_linked, affected_is}

module _ (b g : Graphed) (touch : Touch) (made : IsEditOf b.stored touch g.stored) (num : IsNumbered b.stored) (num2 : IsNumbered g.stored)
    (was_is : IsGraph b) (is : IsGraph g) (first : List ℕ) (firsts : AreFirst b.stored g.stored touch first) where
  pub backward_all : affected_count (back_cone b.stored g first) ≡ backward_count b.stored.design g.stored.design touch
  unfolding backward_count
  backward_all =
      count_by_agree (affected (back_cone b.stored g first)) (of_node g.stored (is_backward b.stored.design g.stored.design touch)) (range_with_len 0 (node_bound g.stored))
      (range_all (λ n. affected (back_cone b.stored g first) n ≡ of_node g.stored (is_backward b.stored.design g.stored.design touch) n) (node_bound g.stored)
      (λ n low. affected_is b g touch made num num2 was_is is first firsts n low))
      ∙ sym (nodes_counted g.stored num2 (now_linked b g touch made num num2 was_is is) (is_backward b.stored.design g.stored.design touch))

-- a row that is emptied
pub cleared : (rows : List BackRow) (node : ℕ) (row : BackRow) → row ≡ empty_back → node < length rows
    → (n : ℕ) → back_at (slice_set rows node row) n ≡ (if node == n then empty_back else back_at rows n)
cleared rows node row is low n = elim (cases_eq node n) [
  | inl same ↦
      rw (eq-eqb node n same) (subst (λ m. back_at (slice_set rows node row) m ≡ empty_back) same (get_or-set_same rows node row empty_back low ∙ is))
  | inr other ↦ rw (ne_eqb node n other) (get_or-set_other rows node n row empty_back (λ e. other (sym e)))
]

pub not_there : (rows : List BackRow) (node : ℕ) → length rows ≤ node → (n : ℕ) → back_at rows n ≡ (if node == n then empty_back else back_at rows n)
not_there rows node past n = elim (cases_eq node n) [
  | inl same ↦ rw (eq-eqb node n same) (get_or_past rows n empty_back (omega (arith, past, same)))
  | inr other ↦ rw (ne_eqb node n other) refl
]

-- both nodes of a pin
pub both_cleared : (rows one two : List BackRow) (pin rise fall : ℕ) → rise ≡ 2 * pin → fall ≡ 2 * pin + 1
    → ((n : ℕ) → back_at one n ≡ (if rise == n then empty_back else back_at rows n))
    → ((n : ℕ) → back_at two n ≡ (if fall == n then empty_back else back_at one n))
    → (n : ℕ) → back_at two n ≡ (if pin == pin_under n then empty_back else back_at rows n)
both_cleared rows one two pin rise fall a b first second n = elim (cases_eq pin (n / 2)) [
  | inl same ↦ elim (cases_eq fall n) [
    | inl e ↦ rw (eq-eqb pin (n / 2) same) (second n ∙ ap (λ t. if t then empty_back else back_at one n) (eq-eqb fall n e))
    | inr e ↦ rw (eq-eqb pin (n / 2) same) (second n ∙ ap (λ t. if t then empty_back else back_at one n) (ne_eqb fall n e)
        ∙ first n ∙ ap (λ t. if t then empty_back else back_at rows n) (eq-eqb rise n (omega (arith, same, a, b, e))))
  ]
  | inr other ↦
      rw (ne_eqb pin (n / 2) other)
      (second n ∙ ap (λ t. if t then empty_back else back_at one n) (ne_eqb fall n (λ e. other (omega (arith, e, b))))
      ∙ first n ∙ ap (λ t. if t then empty_back else back_at rows n) (ne_eqb rise n (λ e. other (omega (arith, e, a)))))
]

-- one pin more
pub more_cleared : (old rows new : List BackRow) (pins : List ℕ) (i pin : ℕ) → i < length pins → pin ≡ get_or pins i pin
    → ((n : ℕ) → back_at rows n ≡ (if is_in (take i pins) (pin_under n) then empty_back else back_at old n))
    → ((n : ℕ) → back_at new n ≡ (if pin == pin_under n then empty_back else back_at rows n))
    → (n : ℕ) → back_at new n ≡ (if is_in (take (i + 1) pins) (pin_under n) then empty_back else back_at old n)
more_cleared old rows new pins i pin low is so_far one n =
    one n ∙ ap (λ r. if pin == pin_under n then empty_back else r) (so_far n)
    ∙ joined (pin == pin_under n) (is_in (take i pins) (pin_under n))
    ∙ ap (λ t. if t then empty_back else back_at old n) (sym (list_any_more (λ y. y == pin_under n) pins i pin low ∙ ap (λ x. is_in (take i pins) (pin_under n) || (x == pin_under n)) (sym is)))
  where
    joined : (a t : Bool) → (if a then empty_back else (if t then empty_back else back_at old n)) ≡ (if t || a then empty_back else back_at old n)
    joined true true = refl
    joined true false = refl
    joined false true = refl
    joined false false = refl

-- the rows of the base by the numbers of an edited store
at_take : (rows : List BackRow) (count n k : ℕ) → n < count → n < length rows → back_at (take count rows ++ replicate k empty_back) n ≡ back_at rows n
at_take [] count n k low under = absurd (omega (arith, under))
at_take (r ∷ rows) zero n k low under = absurd (omega (arith, low))
at_take (r ∷ rows) (suc count) zero k low under = refl
at_take (r ∷ rows) (suc count) (suc n) k low under = at_take rows count n k (omega (arith, low)) (omega (arith, under))

at_replicate : (k n : ℕ) → back_at (replicate k empty_back) n ≡ empty_back
at_replicate zero n = refl
at_replicate (suc k) zero = refl
at_replicate (suc k) (suc n) = at_replicate k n

past_take : (rows : List BackRow) (count n k : ℕ) → length rows ≤ n → back_at (take count rows ++ replicate k empty_back) n ≡ empty_back
past_take [] zero n k past = at_replicate k n
past_take [] (suc count) n k past = at_replicate k n
past_take (r ∷ rows) zero n k past = at_replicate k n
past_take (r ∷ rows) (suc count) zero k past = absurd (omega (arith, past))
past_take (r ∷ rows) (suc count) (suc n) k past = past_take rows count n k (omega (arith, past))

sized_at : (rows : List BackRow) (count n : ℕ) → n < count → back_at (sized_rows rows count) n ≡ back_at rows n
sized_at rows count n low = elim (cases_lt n (length rows)) [
  | inl under ↦ at_take rows count n (count - length rows) low under
  | inr past ↦ past_take rows count n (count - length rows) past ∙ sym (get_or_past rows n empty_back past)
]

none_of_gap : (s : Stored) (n : ℕ) → is_number s.pins (pin_under n) ≡ false → node_at s n ≡ None
none_of_gap s n gap = by (name_at s.pins (pin_under n)) refl
  where
    by : (o : Option (List ℕ)) → name_at s.pins (pin_under n) ≡ o → node_at s n ≡ None
    by None e = ap (λ o. option_map (λ (pin : Pin). record { pin = pin; tran = tran_under n }) (option_and_then (pin_named s.design) o)) e
    by (Some name) e = absurd (true≢false (sym (ap is_some e) ∙ gap))

module _ (b s : Stored) (num : IsNumbered b) (linked : IsLinked b.design) (num2 : IsNumbered s) (linked2 : IsLinked s.design)
    (before : List BackRow) (was : AreBackRows b before) where
  before_at : (n : ℕ) → back_at before n ≡ back_numbered b n
  before_at n = elim (cases_lt n (node_bound b)) [
    | inl low ↦ get_or_from_slice_get before n (back_numbered b n) empty_back (was.row n low)
    | inr past ↦ get_or_past before n empty_back (let long = was.count in omega (arith, past, long)) ∙ sym (gap (node_at b n) refl past)
  ]
    where
      gap : (o : Option Node) → node_at b n ≡ o → node_bound b ≤ n → back_numbered b n ≡ empty_back
      gap None e past = ap (λ o. option_map_or (back_row b.design) o empty_back) e
      gap (Some node) e past = let low = node_below b node n (has_node b num linked n node e) in absurd (omega (arith, past, low))

  pub begun_rows : (sized rows : List BackRow) (gone : List ℕ) → sized ≡ sized_rows before (node_bound s)
      → ((pin : ℕ) → list_any (nat_eq pin) gone ≡ (is_number b.pins pin && not (is_number s.pins pin)))
      → ((n : ℕ) → back_at rows n ≡ (if is_in gone (pin_under n) then empty_back else back_at sized n))
      → (n : ℕ) → n < node_bound s → back_at rows n ≡ back_before b s n
  begun_rows sized rows gone are told is n low =
      is n ∙ (λ k. if told_here k then empty_back else old k) ∙ elim (cases_Bool (is_number s.pins (pin_under n))) [
        | inl e ↦
            let there = node_there s num2 linked2 n e in
            ap (λ t. if is_number b.pins (pin_under n) && not t then empty_back else back_numbered b n) e
            ∙ ap (λ t. if t then empty_back else back_numbered b n) (and_right (is_number b.pins (pin_under n)))
            ∙ sym (ap (λ o. if is_some o then back_numbered b n else empty_back) there.1)
        | inr e ↦
            ap (λ t. if is_number b.pins (pin_under n) && not t then empty_back else back_numbered b n) e
            ∙ gone_or_none (is_number b.pins (pin_under n)) refl
            ∙ sym (ap (λ o. if is_some o then back_numbered b n else empty_back) (none_of_gap s n e))
      ]
    where
      told_here : is_in gone (pin_under n) ≡ (is_number b.pins (pin_under n) && not (is_number s.pins (pin_under n)))
      told_here = sym (in_told (pin_under n) gone) ∙ told (pin_under n)

      old : back_at sized n ≡ back_numbered b n
      old = ap (λ rs. back_at rs n) are ∙ sized_at before (node_bound s) n low ∙ before_at n

      and_right : (t : Bool) → (t && not true) ≡ false
      and_right true = refl
      and_right false = refl

      gone_or_none : (t : Bool) → is_number b.pins (pin_under n) ≡ t → (if t && not false then empty_back else back_numbered b n) ≡ empty_back
      gone_or_none true e = refl
      gone_or_none false e = ap (λ o. option_map_or (back_row b.design) o empty_back) (none_of_gap b n e)
