-- The advised candidate among all, in plain terms.

use Rattle.std.specs.Prelude.{ℕ, ◌≡◌, ◌<◌, ℤ, ◌<ℤ◌, ◌≤ℤ◌, List, slice_get, Option, Some, None}
use Rattle.timing_defs.specs.declared.kinds.Kind.{Kind}
use Rattle.timing_defs.specs.declared.design.Design.{Design}
use Rattle.timing_defs.specs.declared.reports.Candidate.{Candidate}
use Rattle.timing_defs.specs.declared.reports.Advice.{Advice}
use Rattle.timing_rules.specs.Advice.{AreValues, advice_of}

-- an advice has a candidate and its value: each value before it is less, and none behind it is greater
pub record IsGreatest (cs : List Candidate) (values : List (Option ℤ)) (a : Advice) : Type 0 where
  pub place : ℕ
  pub candidate : Candidate
  pub value : ℤ
  pub there : slice_get cs place ≡ Some candidate
  pub valued : slice_get values place ≡ Some (Some value)
  pub told : a ≡ advice_of candidate value
  pub before : (k : ℕ) (v : ℤ) → k < place → slice_get values k ≡ Some (Some v) → v <ℤ value
  pub behind : (k : ℕ) (v : ℤ) → place < k → slice_get values k ≡ Some (Some v) → v ≤ℤ value

-- no candidate has a value
abbrev pub AreNone : List (Option ℤ) → Type 0
AreNone values = (k : ℕ) (v : ℤ) → slice_get values k ≡ Some (Some v) → ⊥

-- the greatest, or none where no candidate has a value
abbrev pub IsGreatestOf : List Candidate → List (Option ℤ) → Option Advice → Type 0
IsGreatestOf cs values None = AreNone values
IsGreatestOf cs values (Some a) = IsGreatest cs values a

-- the greatest of some candidates, by their values in a design
pub record IsGreatestAdvice (d : Design) (kind : Kind) (cs : List Candidate) (advice : Option Advice) : Type 0 where
  pub values : List (Option ℤ)
  pub tried : AreValues d kind cs values
  pub greatest : IsGreatestOf cs values advice
