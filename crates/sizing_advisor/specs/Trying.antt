-- What the trial of a candidate gives, and the best candidate so far.

use Rattle.std.specs.Prelude.{ℕ, ◌≡◌, ◌≤◌, ◌-◌, ℤ, true, List, map, Option, None, option_map}
use Rattle.sta_units.specs.declared.units.Fs.{Fs}
use Rattle.timing_defs.specs.declared.kinds.Kind.{Kind}
use Rattle.timing_defs.specs.declared.design.Design.{Design}
use Rattle.timing_defs.specs.declared.reports.Candidate.{Candidate}
use Rattle.timing_defs.specs.declared.reports.Advice.{Advice}
use Rattle.timing_rules.specs.Advice.{candidate_eco, IsValue, AreValues, advice_of, best_from}
use Rattle.timing_rules.specs.Cones.{IsCounted, AreCounted}
use Rattle.sizing_advisor.specs.declared.choices.Best.{Best}
use Rattle.sizing_advisor.specs.declared.trials.Tried.{Tried}

-- a slack in fs as a number
abbrev pub as_number : Option Fs → Option ℤ
as_number slack = option_map (λ fs. fs.0) slack

-- the value of a candidate in fs
abbrev pub IsTried : Design → Kind → Candidate → Option Fs → Type 0
IsTried d kind c value = IsValue d kind c (as_number value)

-- the trial of a candidate, with a count of its own
abbrev pub IsTrial : {L : Type 0} → Design → Kind → Candidate → Tried L → Type 0
IsTrial d kind c t = IsTried d kind c t.value × IsCounted d (candidate_eco c) true t.steps

-- the best candidate as an advice
abbrev pub as_advice : Option Best → Option Advice
as_advice best = option_map (λ b. advice_of b.candidate.now b.wns.0) best

-- the best of some candidates, and the steps that their trials counted
pub record IsBest (d : Design) (kind : Kind) (cs : List Candidate) (best : Option Best) (old new : ℕ) : Type 0 where
  pub values : List (Option ℤ)
  pub tried : AreValues d kind cs values
  pub chosen : as_advice best ≡ best_from None cs values
  pub rises : old ≤ new
  pub counted : AreCounted d (map candidate_eco cs) (new - old)
