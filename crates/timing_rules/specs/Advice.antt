-- The best of some resizes (own: sizing by trying each move): the one with which the worst slack is greatest.
-- Nothing is free.

use Rattle.std.specs.Prelude.{◌≡◌, ◌⊎◌, ℤ, int_lt, if◌then◌else◌, List, [], ◌∷◌, Option, Some, None, ⊤}
use Rattle.timing_defs.specs.declared.kinds.Kind.{Kind}
use Rattle.timing_defs.specs.declared.design.Design.{Design}
use Rattle.timing_defs.specs.declared.edits.Edit.TheVariants.{Repower}
use Rattle.timing_defs.specs.declared.edits.Eco.{Eco}
use Rattle.timing_defs.specs.declared.faults.Fault.{Fault}
use Rattle.timing_defs.specs.declared.reports.Candidate.{Candidate}
use Rattle.timing_defs.specs.declared.reports.Advice.{Advice}
use Rattle.timing_rules.specs.Checks.{Accepts, Refuses}
use Rattle.timing_rules.specs.Reports.{IsWns}

-- the ECO of a candidate: its one resize
abbrev pub candidate_eco : Candidate → Eco
candidate_eco c = record { edits = Repower c.inst c.cell ∷ [] }

-- the value of a candidate: the worst slack of the design after its ECO; none where that is refused or no endpoint has a slack
abbrev pub IsValue : Design → Kind → Candidate → Option ℤ → Type 0
IsValue d kind c value =
    ((d2 : Design) × Accepts d (candidate_eco c) d2 × IsWns d2 kind value)
    ⊎ ((x : Fault) × Refuses d (candidate_eco c) x × (value ≡ None))

abbrev pub AreValues : Design → Kind → List Candidate → List (Option ℤ) → Type 0
AreValues d kind [] [] = ⊤
AreValues d kind [] (value ∷ values) = ⊥
AreValues d kind (c ∷ cs) [] = ⊥
AreValues d kind (c ∷ cs) (value ∷ values) = IsValue d kind c value × AreValues d kind cs values

-- a candidate with its value
abbrev pub advice_of : Candidate → ℤ → Advice
advice_of c value = record { inst = c.inst; cell = c.cell; wns = record { 0 = value } }

-- the first of greatest value
abbrev pub better : Option Advice → Candidate → Option ℤ → Option Advice
better best c None = best
better None c (Some value) = Some (advice_of c value)
better (Some a) c (Some value) = (if int_lt a.wns.0 value then Some (advice_of c value) else Some a)

abbrev pub best_from : Option Advice → List Candidate → List (Option ℤ) → Option Advice
best_from best [] values = best
best_from best (c ∷ cs) [] = best
best_from best (c ∷ cs) (value ∷ values) = best_from (better best c value) cs values

abbrev pub IsAdvice : Design → Kind → List Candidate → Option Advice → Type 0
IsAdvice d kind cs advice =
    (values : List (Option ℤ)) × AreValues d kind cs values × (advice ≡ best_from None cs values)
