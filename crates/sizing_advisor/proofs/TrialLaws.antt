-- What the trial of a candidate tells.

use Rattle.std.proofs.Common.{◌≡◌, ℕ, ◌-◌, Bool, true, false, Option, None, Result, Ok, Err, IfOk, OnOk, refl, sym, ap, subst, ◌∙◌, inl, inr, true≢false, arith}
use Rattle.std.specs.Prelude.{◌⊎◌}
use Rattle.sta_units.specs.declared.units.Memory.{Memory}
use Rattle.sta_units.specs.declared.units.Fs.{Fs}
use Rattle.timing_defs.specs.declared.kinds.Kind.{Kind}
use Rattle.timing_defs.specs.declared.design.Design.{Design}
use Rattle.timing_defs.specs.declared.edits.Eco.{Eco}
use Rattle.timing_defs.specs.declared.faults.Fault.{Fault}
use Rattle.timing_defs.specs.declared.faults.Fault.TheVariants.{Memory as no_room}
use Rattle.timing_defs.specs.declared.reports.Candidate.{Candidate}
use Rattle.timing_rules.specs.Checks.{Refuses}
use Rattle.timing_rules.specs.Cones.{IsCounted}
use Rattle.timing_rules.specs.Advice.{candidate_eco}
use Rattle.netlist_store.specs.Numbering.{Stored}
use Rattle.eco_analysis.specs.Counting.{tells}
use Rattle.sizing_advisor.specs.Trying.{IsTried}

-- a refused one has none, unless memory was wanting
refused : (d : Design) (kind : Kind) (c : Candidate) (eco : Eco) → eco ≡ candidate_eco c → (x : Fault) → (x ≡ no_room) ⊎ Refuses d eco x → tells x ≡ true → IsTried d kind c None
refused d kind c eco e x (inl m) told = absurd (true≢false (sym told ∙ ap tells m))
refused d kind c eco e x (inr r) told = inr (x, subst (λ (y : Eco). Refuses d y x) e r, refl)

module _ (d : Design) (c : Candidate) (eco : Eco) (e : eco ≡ candidate_eco c) where
  pub counted_with : (n : ℕ) → IsCounted d eco true n → IsCounted d (candidate_eco c) true n
  counted_with n counted = subst (λ (y : Eco). IsCounted d y true n) e counted

  pub refused_value : (kind : Kind) (x : Fault) (r : Result (Option Fs) Memory) → (x ≡ no_room) ⊎ Refuses d eco x → IfOk r (λ value. value ≡ None) → OnOk r (tells x ≡ true)
      → IfOk r (IsTried d kind c)
  refused_value kind x (Ok value) why none told = subst (λ (v : Option Fs). IsTried d kind c v) (sym none) (refused d kind c eco e x why told)
  refused_value kind x (Err m) why none told = tt

  pub refused_counted : (x : Fault) (r : Result (Option Fs) Memory) (n : ℕ) → IsCounted d eco (tells x) n → OnOk r (tells x ≡ true) → OnOk r (IsCounted d (candidate_eco c) true n)
  refused_counted x (Ok value) n counted told = counted_with n (subst (λ (b : Bool). IsCounted d eco b n) told counted)
  refused_counted x (Err m) n counted told = tt

-- the trial of a candidate over a store and a kind that are those of another base, counted from nothing
pub trial_over : (s t : Stored) (k l : Kind) (c : Candidate) (value : Option Fs) (old new : ℕ) → s ≡ t → k ≡ l → old ≡ 0 → IsTried s.design k c value
    → IsCounted s.design (candidate_eco c) true (new - old) → IsTried t.design l c value × IsCounted t.design (candidate_eco c) true new
trial_over s t k l c value old new p q none tried counted = (
  subst (λ (x : Stored). IsTried x.design l c value) p (subst (λ (x : Kind). IsTried s.design x c value) q tried),
  subst (λ (x : Stored). IsCounted x.design (candidate_eco c) true new) p
      (subst (λ (n : ℕ). IsCounted s.design (candidate_eco c) true n) (omega (arith, none)) counted),
)
