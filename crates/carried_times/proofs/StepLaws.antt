-- A time that covers what a step gives is carried along the step.

use Rattle.std.proofs.Common.{◌≡◌, ℕ, ℤ, ◌+ℤ◌, Bool, true, false, List, Option, None, Some, sym, ap, subst, ◌∙◌, inl, inr}
use Rattle.std.specs.Prelude.{if◌then◌else◌}
use Rattle.std.proofs.lemmas.Bool.{cases_Bool}
use Rattle.timing_defs.specs.declared.edge_times.EdgeTime.{EdgeTime}
use Rattle.timing_defs.specs.declared.kinds.Split.{Split}
use Rattle.timing_rules.specs.Rows.{outer_some}
use Rattle.timing_defs.specs.RowTimes.{plus_some, times_in}
use Rattle.netlist_store.specs.Numbering.{Stored}
use Rattle.pin_graph.specs.RowTables.{row_numbered}
use Rattle.arc_delays.specs.Delays.{delay_numbered}
use Rattle.bounded_changes.specs.Carried.{IsBeyond}
use Rattle.bounded_changes.proofs.CarriedPaths.{beyond_value, further, later}
use Rattle.bounded_changes.proofs.Outermost.{each_beyond, keep_beyond, add_beyond}
use Rattle.carried_times.specs.Unseeded.{same_time}
use Rattle.carried_times.specs.Times.{Arrives, IsTimedStep, outermost_time}
use Rattle.carried_times.specs.Carry.{step_of}
use Rattle.carried_times.specs.Sides.{Covers}
use Rattle.carried_times.proofs.Unseeded.{same_is, same_self}

-- the outermost of an arrival's list is beyond it
pub arrival_beyond : (split : Split) (times : List EdgeTime) (t : ℤ) → Arrives times t → IsBeyond split (outermost_time split times) t
arrival_beyond split times t (e, c, is) = each_beyond split (λ (t : EdgeTime). Some t.time.0) t times None e c (ap Some is)

-- what covers an outermost covers what it is beyond
covered : (split : Split) (o p : Option ℤ) (t : ℤ) → Covers split o p → IsBeyond split p t → IsBeyond split o t
covered split o p t covers h = let v = beyond_value split p t h in further split o t v.value (covers v.value v.is) v.beyond

-- a sum beyond a sum
sum_beyond : (split : Split) (p : Option ℤ) (t x : ℤ) → IsBeyond split p t → IsBeyond split (plus_some p (Some x)) (t +ℤ x)
sum_beyond split None t x h = absurd h
sum_beyond split (Some y) t x h = later split y t x h

module _ (split : Split) (to was now time before after : Option ℤ) (covers : Covers split to (step_of split was now time before after)) where
  chosen_same : same_time was now ≡ true → Covers split to (plus_some time now)
  chosen_same e v f = covers v (ap (λ (b : Bool). if b then plus_some time now else outer_some split (plus_some before was) (plus_some after now)) e ∙ f)

  chosen_other : same_time was now ≡ false → Covers split to (outer_some split (plus_some before was) (plus_some after now))
  chosen_other e v f = covers v (ap (λ (b : Bool). if b then plus_some time now else outer_some split (plus_some before was) (plus_some after now)) e ∙ f)

  other_before : (t x : ℤ) → was ≡ Some x → (now ≡ Some x → ⊥) → IsBeyond split before t → IsBeyond split to (t +ℤ x)
  other_before t x e off h = elim (cases_Bool (same_time was now)) [
    | inl same ↦ absurd (off (sym (same_is was now same) ∙ e))
    | inr other ↦
        covered split to (outer_some split (plus_some before was) (plus_some after now)) (t +ℤ x) (chosen_other other)
        (keep_beyond split (plus_some before was) (plus_some after now) (t +ℤ x)
        (subst (λ (o : Option ℤ). IsBeyond split (plus_some before o) (t +ℤ x)) (sym e) (sum_beyond split before t x h)))
  ]

  other_after : (t x : ℤ) → now ≡ Some x → (was ≡ Some x → ⊥) → IsBeyond split after t → IsBeyond split to (t +ℤ x)
  other_after t x e off h = elim (cases_Bool (same_time was now)) [
    | inl same ↦ absurd (off (same_is was now same ∙ e))
    | inr other ↦
        covered split to (outer_some split (plus_some before was) (plus_some after now)) (t +ℤ x) (chosen_other other)
        (add_beyond split (plus_some before was) (plus_some after now) (t +ℤ x)
        (subst (λ (o : Option ℤ). IsBeyond split (plus_some after o) (t +ℤ x)) (sym e) (sum_beyond split after t x h)))
  ]

  both_same : (t x : ℤ) → was ≡ Some x → now ≡ Some x → time ≡ Some t → IsBeyond split to (t +ℤ x)
  both_same t x e f at = chosen_same (same_self was now (e ∙ sym f)) (t +ℤ x) (λ k. plus_some (at k) (f k))

-- a step's time by the rows and delays of both stores
pub step_timed : (base s : Stored) (split : Split) (time : ℕ → Option ℤ) (from to : ℕ)
    → Covers split (time to) (step_of split (delay_numbered base split from to) (delay_numbered s split from to) (time from)
    (outermost_time split (times_in split (row_numbered base from))) (outermost_time split (times_in split (row_numbered s from))))
    → IsTimedStep base s split time from to
step_timed base s split time from to covers = record {
  before = λ t x e off at.
      other_before split (time to) (delay_numbered base split from to) (delay_numbered s split from to) (time from)
      (outermost_time split (times_in split (row_numbered base from))) (outermost_time split (times_in split (row_numbered s from))) covers t x e off
      (arrival_beyond split (times_in split (row_numbered base from)) t at);
  after = λ t x e off at.
      other_after split (time to) (delay_numbered base split from to) (delay_numbered s split from to) (time from)
      (outermost_time split (times_in split (row_numbered base from))) (outermost_time split (times_in split (row_numbered s from))) covers t x e off
      (arrival_beyond split (times_in split (row_numbered s from)) t at);
  onward = λ t x e f at.
      both_same split (time to) (delay_numbered base split from to) (delay_numbered s split from to) (time from)
      (outermost_time split (times_in split (row_numbered base from))) (outermost_time split (times_in split (row_numbered s from))) covers t x e f at;
}
