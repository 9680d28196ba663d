-- What the trial of a candidate tells.

use Rattle.std.proofs.Common.{◌≡◌, true, List, [], ◌∷◌, Option, None, Some, Result, Ok, Err, IfOk, OnOk, sym, ap, subst, ◌∙◌, inl, inr, true≢false}
use Rattle.std.specs.Prelude.{◌⊎◌}
use Rattle.sta_units.specs.declared.units.Memory.{Memory}
use Rattle.timing_defs.specs.declared.closing.SlackTotals.{SlackTotals}
use Rattle.timing_defs.specs.declared.design.Design.{Design}
use Rattle.timing_defs.specs.declared.edits.Eco.{Eco}
use Rattle.timing_defs.specs.declared.faults.Fault.{Fault}
use Rattle.timing_defs.specs.declared.faults.Fault.TheVariants.{Memory as no_room}
use Rattle.timing_defs.specs.declared.reports.Candidate.{Candidate}
use Rattle.timing_rules.specs.Checks.{Accepts, Refuses}
use Rattle.timing_rules.specs.Advice.{candidate_eco}
use Rattle.timing_rules.specs.SizeAdvice.{AreSlackTotals, IsOutcome}
use Rattle.netlist_store.specs.Numbering.{Stored}
use Rattle.level_workers.specs.Mapped.{IsMap}
use Rattle.eco_analysis.specs.Counting.{tells}

module _ (d : Design) (c : Candidate) (eco : Eco) (e : eco ≡ candidate_eco c) where
  -- the totals of the analysis after an ECO that is accepted
  pub accepted : (a s : Stored) (t : SlackTotals) → Accepts d eco s.design → a ≡ s → AreSlackTotals a.design t → IsOutcome d c (Some t)
  accepted a s t ok same totals =
      (s.design, subst (λ (y : Eco). Accepts d y s.design) e ok, subst (λ (x : Stored). AreSlackTotals x.design t) same totals)

  -- a refused one has none, unless memory was wanting
  refused : (x : Fault) → (x ≡ no_room) ⊎ Refuses d eco x → tells x ≡ true → IsOutcome d c None
  refused x (inl m) told = absurd (true≢false (sym told ∙ ap tells m))
  refused x (inr r) told = (x, subst (λ (y : Eco). Refuses d y x) e r)

  pub refused_outcome : (x : Fault) (r : Result (Option SlackTotals) Memory) → (x ≡ no_room) ⊎ Refuses d eco x → IfOk r (λ outcome. outcome ≡ None) → OnOk r (tells x ≡ true)
      → IfOk r (IsOutcome d c)
  refused_outcome x (Ok outcome) why none told = subst (λ (o : Option SlackTotals). IsOutcome d c o) (sym none) (refused x why told)
  refused_outcome x (Err m) why none told = tt

-- what holds of each outcome with its candidate
pub outcomes_told : (d : Design) (P : Candidate → Option SlackTotals → Type 0) (cs : List Candidate) (os : List (Option SlackTotals))
    → ((c : Candidate) (o : Option SlackTotals) → P c o → IsOutcome d c o) → IsMap P cs os → IsMap (IsOutcome d) cs os
outcomes_told d P [] [] f m = tt
outcomes_told d P [] (o ∷ os) f m = absurd m
outcomes_told d P (c ∷ cs) [] f m = absurd m
outcomes_told d P (c ∷ cs) (o ∷ os) f m = (f c o m.0, outcomes_told d P cs os f m.1)
