-- How far the count of steps rises where an ECO is tried.

use Rattle.std.proofs.Common.{◌≡◌, ℕ, ◌+◌, ◌-◌, ◌≤◌, Result, Ok, Err, IfErr, OnOk, true, false, subst, inl, inr, arith}
use Rattle.std.specs.Prelude.{IsTrue}
use Rattle.std.proofs.lemmas.Bool.{false≢true}
use Rattle.timing_defs.specs.declared.design.Design.{Design}
use Rattle.timing_defs.specs.declared.edits.Eco.{Eco}
use Rattle.timing_defs.specs.declared.faults.Fault.{Fault}
use Rattle.timing_defs.specs.declared.faults.Fault.TheVariants.{Memory as no_room}
use Rattle.timing_defs.specs.Edits.{edited}
use Rattle.timing_defs.specs.Touches.{Touch, touched_list}
use Rattle.timing_rules.specs.Cones.{forward_count, backward_count, MakesSound, IsCounted}
use Rattle.timing_rules.specs.Checks.{Accepts, IsSound}
use Rattle.timing_rules.proofs.LongerJournals.{not_both}
use Rattle.netlist_store.specs.Applying.{IsApplied, IsRefused}
use Rattle.netlist_store.specs.Numbering.{Stored}
use Rattle.eco_analysis.specs.Counting.{tells, is_told}
use Rattle.eco_analysis.specs.Soundness.{IsRefusal}

ok_is : {X E : Type 0} (r : Result X E) (a b : X) → r ≡ Ok a → r ≡ Ok b → a ≡ b
ok_is (Ok x) a b p q = cc
ok_is (Err e) a b p q = absurd (cc)

ok_err : {X E : Type 0} (r : Result X E) (a : X) (e : E) → r ≡ Ok a → r ≡ Err e → ⊥
ok_err (Ok x) a e p q = absurd (cc)
ok_err (Err x) a e p q = absurd (cc)

untold : (x : Fault) → x ≡ no_room → IsTrue (tells x) → ⊥
untold x e t = false≢true (subst (λ (y : Fault). IsTrue (tells y)) e t)

-- the trial of an ECO with a design after its edits
module _ (base : Design) (eco : Eco) (d : Design) (made : edited base eco ≡ Ok d) (touch : Touch) (same : touch ≡ touched_list base eco.edits) where
  least_of : {X : Type 0} (r : Result X Fault) (before after : ℕ) → OnOk r (before + forward_count base d touch ≤ after) → IfErr r (IsRefusal base eco)
      → (d2 : Design) → Accepts base eco d2 → IsTrue (is_told r) → forward_count base d2 (touched_list base eco.edits) ≤ after - before
  least_of (Ok x) before after least refused d2 accepts told =
      let here : forward_count base d touch ≤ after - before = omega (arith, least) in
      subst (λ (t : Touch). forward_count base d2 t ≤ after - before) same
      (subst (λ (e : Design). forward_count base e touch ≤ after - before) (ok_is (edited base eco) d d2 made accepts.0) here)
  least_of (Err x) before after least (inl e) d2 accepts told = absurd (untold x e told)
  least_of (Err x) before after least (inr r) d2 accepts told = absurd (not_both base eco d2 accepts x r)

  most_of : (before after : ℕ) → after ≤ before + forward_count base d touch + backward_count base d touch → (d2 : Design) → MakesSound base eco d2
      → after - before ≤ forward_count base d2 (touched_list base eco.edits) + backward_count base d2 (touched_list base eco.edits)
  most_of before after most d2 sound =
      let here : after - before ≤ forward_count base d touch + backward_count base d touch = omega (arith, most) in
      subst (λ (t : Touch). after - before ≤ forward_count base d2 t + backward_count base d2 t) same
      (subst (λ (e : Design). after - before ≤ forward_count base e touch + backward_count base e touch) (ok_is (edited base eco) d d2 made sound.0) here)

  none_of : (before after : ℕ) → ((IsSound d → ⊥) → after ≡ before) → (((d2 : Design) → MakesSound base eco d2 → ⊥) → after - before ≡ 0)
  none_of before after unsound none = let e = unsound (λ s. none d (made, s)) in omega (arith, e)

  counted_of : {X : Type 0} (r : Result X Fault) (before after : ℕ) → OnOk r (before + forward_count base d touch ≤ after)
      → after ≤ before + forward_count base d touch + backward_count base d touch → ((IsSound d → ⊥) → after ≡ before) → IfErr r (IsRefusal base eco)
      → IsCounted base eco (is_told r) (after - before)
  counted_of r before after least most unsound refused = (least_of r before after least refused, most_of before after most, none_of before after unsound)

touch_same : (a b : Touch) → a.insts ≡ b.insts → a.nets ≡ b.nets → a ≡ b
touch_same a b p q = λ k. record { insts = p k; nets = q k }

-- as the call has it
pub counted : {X : Type 0} (base after : Stored) (eco : Eco) (touch : Touch) → IsApplied base eco after touch → (r : Result X Fault) (old new : ℕ)
    → OnOk r (old + forward_count base.design after.design touch ≤ new)
    → new ≤ old + forward_count base.design after.design touch + backward_count base.design after.design touch
    → ((IsSound after.design → ⊥) → new ≡ old) → IfErr r (IsRefusal base.design eco) → IsCounted base.design eco (is_told r) (new - old)
counted base after eco touch applied =
    counted_of base.design eco after.design applied.made touch (touch_same touch (touched_list base.design eco.edits) applied.insts applied.nets)

-- an ECO whose edits are refused
pub uncounted : (base : Design) (eco : Eco) (x : Fault) (old new : ℕ) → new ≡ old → IsRefused base eco x → IsCounted base eco (tells x) (new - old)
uncounted base eco x old new e refused = (by refused, (λ d2 sound. omega (arith, e)), (λ none. omega (arith, e)))
  where
    by : IsRefused base eco x → (d2 : Design) → Accepts base eco d2 → IsTrue (tells x) → forward_count base d2 (touched_list base eco.edits) ≤ new - old
    by (inl f) d2 accepts told = absurd (untold x f told)
    by (inr f) d2 accepts told = absurd (ok_err (edited base eco) d2 x accepts.0 f)

-- memory was wanting behind the edits
pub unheard : (base : Design) (eco : Eco) (old new : ℕ) → new ≡ old → IsCounted base eco false (new - old)
unheard base eco old new e = ((λ d2 accepts told. absurd (false≢true told)), (λ d2 sound. omega (arith, e)), (λ none. omega (arith, e)))
