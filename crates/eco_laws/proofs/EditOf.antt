-- What a store that an ECO made of another has of it: nets, instances and pins that are not touched.

use Rattle.std.proofs.Common.{◌≡◌, ℕ, false, List, sym, ap, subst, ◌∙◌, inl, inr}
use Rattle.std.specs.Prelude.{◌&&◌}
use Rattle.std.proofs.lemmas.Bool.{cases_Bool}
use Rattle.timing_defs.specs.Netlist.{pin_named, is_listed}
use Rattle.timing_defs.specs.Edits.{inst_named, has_colon, before_last}
use Rattle.timing_defs.specs.Touches.{Touch}
use Rattle.netlist_store.specs.Applying.{IsEditOf}
use Rattle.netlist_store.specs.Linked.{IsLinked}
use Rattle.netlist_store.specs.Numbering.{Stored, KeepsNumbers}
use Rattle.netlist_store.proofs.LinkedEdits.{linked_after_all}
use Rattle.netlist_store.proofs.Untouched.{IsLeft, left_by_eco, IsFramed, framed_by_eco}
use Rattle.eco_laws.specs.Kept.{IsInstKept, IsPinKept, names_touched_inst}
use Rattle.eco_laws.proofs.InstsKept.{kept_by_eco}
use Rattle.eco_laws.proofs.PinsKept.{pin_kept_word, pin_kept_port}

module _ (base : Stored) (touch : Touch) (edited : Stored) (made : IsEditOf base touch edited) where
  pub base_linked : IsLinked base.design
  base_linked = made.1.linked

  pub edited_linked : IsLinked edited.design
  edited_linked = linked_after_all base.design made.0 made.1.linked made.1.is_eco edited.design made.1.made

  pub framed_of : IsFramed base.design edited.design
  framed_of = framed_by_eco base.design made.0 edited.design made.1.made

  pub numbers_kept : KeepsNumbers base edited
  numbers_kept = made.1.numbers

  -- a net that is not touched
  pub left_of : (net : List ℕ) → is_listed touch.nets net ≡ false → IsLeft net base.design edited.design
  left_of net off =
      left_by_eco net base.design made.0 made.1.linked made.1.is_eco edited.design made.1.made
      (sym (ap (λ names. is_listed names net) made.1.nets) ∙ off)

  -- an instance that is not touched
  pub inst_kept_of : (name : List ℕ) → is_listed touch.insts name ≡ false
      → IsInstKept touch.nets (inst_named base.design.insts name) (inst_named edited.design.insts name)
  inst_kept_of name off =
      subst (λ nets. IsInstKept nets (inst_named base.design.insts name) (inst_named edited.design.insts name)) (sym made.1.nets)
      (kept_by_eco name base.design made.0 edited.design made.1.made (sym (ap (λ names. is_listed names name) made.1.insts) ∙ off))

  -- a pin whose name tells no touched instance
  pub pin_kept_of : (q : List ℕ) → names_touched_inst touch q ≡ false → IsPinKept touch.nets (pin_named base.design q) (pin_named edited.design q)
  pin_kept_of q off = elim (cases_Bool (has_colon q)) [
    | inl colon ↦
        let other : is_listed touch.insts (before_last q) ≡ false = ap (λ b. b && is_listed touch.insts (before_last q)) (sym colon) ∙ off in
        pin_kept_word touch.nets base.design edited.design framed_of base_linked edited_linked q colon (inst_kept_of (before_last q) other)
    | inr plain ↦ pin_kept_port touch.nets base.design edited.design framed_of base_linked edited_linked q plain
  ]
