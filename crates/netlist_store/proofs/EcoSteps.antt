-- ECOs, edit by edit: the design so far, and the first fault.

use Rattle.std.proofs.Common.{◌≡◌, ℕ, ◌+◌, ◌<◌, ◌≤◌, true, List, [], ◌∷◌, drop, length, get_or, None, Some, sym, ap, ◌∙◌, inl, inr, ◌⊎◌, append-nil}
use Rattle.std.specs.Prelude.{Result, Ok, Err, ◌&&◌, nat_le}
use Rattle.std.specs.List.{list_all}
use Rattle.std.proofs.lemmas.List.{drop_more}
use Rattle.std.proofs.lemmas.Bool.{and_parts}
use Rattle.timing_defs.specs.declared.design.Design.{Design}
use Rattle.timing_defs.specs.declared.edits.Edit.{Edit}
use Rattle.timing_defs.specs.declared.edits.Eco.{Eco}
use Rattle.timing_defs.specs.declared.faults.Fault.{Fault}
use Rattle.timing_defs.specs.declared.faults.Fault.TheVariants.{Memory}
use Rattle.timing_defs.specs.Edits.{edit, edit_by, edit_faults, first_fault, changed, edited_list}
use Rattle.timing_defs.specs.Documents.{is_edit, is_eco}
use Rattle.timing_defs.specs.Touches.{Touch, touched_list}
use Rattle.netlist_store.specs.declared.touched.Touched.{Touched}
use Rattle.netlist_store.specs.Touching.{touched_with}
use Rattle.netlist_store.proofs.BufferSteps.{all_at, drop_end}

pub eco_edit : (eco : Eco) (edits : List Edit) (i : ℕ) (e : Edit) → is_eco eco ≡ true → edits ≡ eco.edits → i < length edits → e ≡ get_or edits i e → is_edit e ≡ true
eco_edit eco edits i e h same low is =
    all_at is_edit edits i e
    (ap (list_all is_edit) same
    ∙ (and_parts (nat_le 1 (length eco.edits) && nat_le (length eco.edits) 1000) (list_all is_edit eco.edits) h).1) low is

-- one edit
pub edit_done : (d : Design) (e : Edit) → first_fault (edit_faults d e) ≡ None → edit d e ≡ Ok (changed d e)
edit_done d e none = ap (λ o. edit_by o d e) none

pub edit_failed : (d : Design) (e : Edit) (f : Fault) → (f ≡ Memory) ⊎ (first_fault (edit_faults d e) ≡ Some f) → (f ≡ Memory) ⊎ (edit d e ≡ Err f)
edit_failed d e f (inl h) = inl h
edit_failed d e f (inr h) = inr (ap (λ o. edit_by o d e) h)

-- those before, and those that are left
module _ (edits : List Edit) (i : ℕ) (now : Design) (all : Result Design Fault) (so_far : edited_list (Ok now) (drop i edits) ≡ all) where
  module _ (e : Edit) (low : i < length edits) (is : e ≡ get_or edits i e) where
    next_is : edited_list (edit now e) (drop (i + 1) edits) ≡ all
    next_is = sym (ap (edited_list (Ok now)) (drop_more edits i e low ∙ ap (λ z. z ∷ drop (i + 1) edits) (sym is))) ∙ so_far

    pub eco_more : (after : Design) → edit now e ≡ Ok after → edited_list (Ok after) (drop (i + 1) edits) ≡ all
    eco_more after h = sym (ap (λ r. edited_list r (drop (i + 1) edits)) h) ∙ next_is

    pub eco_failed : (f : Fault) → (f ≡ Memory) ⊎ (edit now e ≡ Err f) → (f ≡ Memory) ⊎ (all ≡ Err f)
    eco_failed f (inl h) = inl h
    eco_failed f (inr h) = inr (sym next_is ∙ ap (λ r. edited_list r (drop (i + 1) edits)) h)

  pub eco_end : length edits ≤ i → all ≡ Ok now
  eco_end high = sym so_far ∙ ap (edited_list (Ok now)) (drop_end edits i high)

-- what is touched, with the edits that are left
module _ (edits : List Edit) (i : ℕ) (base now : Design) (touched : Touched)
    (so_far : touched_with touched now (drop i edits) ≡ touched_list base edits) where
  pub touch_more : (e : Edit) → i < length edits → e ≡ get_or edits i e → (after : Design) (more : Touched)
      → ((rest : List Edit) → touched_with more after rest ≡ touched_with touched now (e ∷ rest)) → touched_with more after (drop (i + 1) edits) ≡ touched_list base edits
  touch_more e low is after more step =
      step (drop (i + 1) edits) ∙ sym (ap (touched_with touched now) (drop_more edits i e low ∙ ap (λ z. z ∷ drop (i + 1) edits) (sym is))) ∙ so_far

  pub touch_end : length edits ≤ i → touched_with touched now [] ≡ touched_list base edits
  touch_end high = sym (ap (touched_with touched now) (drop_end edits i high)) ∙ so_far

-- nothing is left
pub end_insts : (touched : Touched) (now : Design) (all : Touch) → touched_with touched now [] ≡ all → touched.insts ≡ all.insts
end_insts touched now all e = sym (append-nil touched.insts) ∙ ap (λ (t : Touch). t.insts) e

pub end_nets : (touched : Touched) (now : Design) (all : Touch) → touched_with touched now [] ≡ all → touched.nets ≡ all.nets
end_nets touched now all e = sym (append-nil touched.nets) ∙ ap (λ (t : Touch). t.nets) e
