-- The best resizes in order: each is put before the first that it comes before, and at most so many are kept.

use Rattle.std.specs.Prelude.{ℕ, ◌≡◌, Bool, false, if◌then◌else◌, List, [], ◌∷◌, take, length, filter, is_none, Option, ⊤}
use Rattle.std.specs.List.{list_any}
use Rattle.timing_defs.specs.declared.kinds.Kind.{Kind}
use Rattle.timing_defs.specs.declared.closing.Aim.{Aim}
use Rattle.timing_defs.specs.declared.closing.SizeAdvice.{SizeAdvice}
use Rattle.timing_defs.specs.declared.closing.SlackTotals.{SlackTotals}
use Rattle.timing_defs.specs.declared.closing.AdviceReport.{AdviceReport}
use Rattle.timing_defs.specs.declared.reports.Candidate.{Candidate}
use Rattle.timing_rules.specs.SizeAdvice.{advice_by, improving, advised_before, same_candidate}
use Rattle.size_advice.specs.declared.ordering.Found.{Found}

-- the advice of a resize that improves
abbrev pub advice_of : Found → SizeAdvice
advice_of f = advice_by f.candidate.now f.after

abbrev pub found_first : Kind → Aim → Found → Found → Bool
found_first kind aim f g = advised_before kind aim (advice_of f) (advice_of g)

abbrev pub put_by : {X : Type 0} → (X → X → Bool) → X → List X → List X
put_by before x [] = x ∷ []
put_by before x (y ∷ ys) = (if before x y then x ∷ y ∷ ys else y ∷ put_by before x ys)

-- of items with some more the first so many
abbrev pub kept_by : {X : Type 0} → (X → X → Bool) → ℕ → List X → List X → List X
kept_by before most kept [] = kept
kept_by before most kept (x ∷ xs) = kept_by before most (take most (put_by before x kept)) xs

-- no item is there twice
abbrev pub EachApart : {X : Type 0} → (X → X → Bool) → List X → Type 0
EachApart same [] = ⊤
EachApart same (x ∷ xs) = (list_any (same x) xs ≡ false) × EachApart same xs

abbrev pub AreApart : List Candidate → Type 0
AreApart cs = EachApart same_candidate cs

-- the report on candidates with their outcomes
pub record IsMadeOf (kind : Kind) (aim : Aim) (now : SlackTotals) (cs : List Candidate) (os : List (Option SlackTotals))
    (r : AdviceReport) : Type 0 where
  pub totals : r.now ≡ now
  pub tried : r.tried ≡ length cs
  pub refused : r.refused ≡ length (filter is_none os)
  pub rows : r.rows ≡ kept_by (advised_before kind aim) 5 [] (improving kind aim now cs os)
