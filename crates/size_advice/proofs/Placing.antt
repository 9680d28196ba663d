-- The place of a resize among others in order, and lists of resizes as advices.

use Rattle.std.proofs.Common.{◌≡◌, ℕ, ◌+◌, ◌<◌, ◌≤◌, Bool, true, false, if◌then◌else◌, List, [], ◌∷◌, ◌++◌, take, drop, map, length, get_or, Option, None, Some, refl, sym, ap, ◌∙◌}
use Rattle.std.specs.List.{insert}
use Rattle.std.proofs.lemmas.List.{take-map, drop_more, drop_all, take_more, append_assoc}
use Rattle.timing_defs.specs.declared.kinds.Kind.{Kind}
use Rattle.timing_defs.specs.declared.closing.Aim.{Aim}
use Rattle.timing_defs.specs.declared.closing.SizeAdvice.{SizeAdvice}
use Rattle.timing_defs.specs.declared.closing.SlackTotals.{SlackTotals}
use Rattle.timing_defs.specs.declared.reports.Candidate.{Candidate}
use Rattle.timing_rules.specs.SizeAdvice.{aimed, improves, improving, advised_before, advice_by}
use Rattle.size_advice.specs.declared.ordering.Found.{Found}
use Rattle.size_advice.specs.Keeping.{advice_of, found_first, put_by, kept_by}

pub at_place : {X : Type 0} (xs : List X) (i : ℕ) (x : X) → i < length xs → x ≡ get_or xs i x → drop i xs ≡ x ∷ drop (i + 1) xs
at_place xs i x low is = drop_more xs i x low ∙ ap (λ y. y ∷ drop (i + 1) xs) (sym is)

-- behind those that it does not come before
module _ (kind : Kind) (aim : Aim) where
  pub put_step : (f : Found) (fs : List Found) (i : ℕ) (d : Found) → i < length fs → advised_before kind aim (advice_of f) (advice_of (get_or fs i d)) ≡ false
      → take i fs ++ put_by (found_first kind aim) f (drop i fs) ≡ put_by (found_first kind aim) f fs
      → take (i + 1) fs ++ put_by (found_first kind aim) f (drop (i + 1) fs) ≡ put_by (found_first kind aim) f fs
  put_step f fs i d low never before =
      ap (λ xs. xs ++ put_by (found_first kind aim) f (drop (i + 1) fs)) (take_more fs i d low)
      ∙ append_assoc (take i fs) (get_or fs i d ∷ []) (put_by (found_first kind aim) f (drop (i + 1) fs))
      ∙ ap (λ xs. take i fs ++ xs)
      (sym (ap (λ (b : Bool). if b then f ∷ get_or fs i d ∷ drop (i + 1) fs else get_or fs i d ∷ put_by (found_first kind aim) f (drop (i + 1) fs)) never))
      ∙ ap (λ xs. take i fs ++ put_by (found_first kind aim) f xs) (sym (drop_more fs i d low))
      ∙ before

  pub put_here : (f : Found) (fs : List Found) (i : ℕ) (d : Found) → i < length fs → advised_before kind aim (advice_of f) (advice_of (get_or fs i d)) ≡ true
      → take i fs ++ put_by (found_first kind aim) f (drop i fs) ≡ put_by (found_first kind aim) f fs → insert fs i f ≡ put_by (found_first kind aim) f fs
  put_here f fs i d low so before =
      ap (λ xs. take i fs ++ f ∷ xs) (drop_more fs i d low)
      ∙ ap (λ xs. take i fs ++ xs)
      (sym (ap (λ (b : Bool). if b then f ∷ get_or fs i d ∷ drop (i + 1) fs else get_or fs i d ∷ put_by (found_first kind aim) f (drop (i + 1) fs)) so))
      ∙ ap (λ xs. take i fs ++ put_by (found_first kind aim) f xs) (sym (drop_more fs i d low))
      ∙ before

  pub put_last : (f : Found) (fs : List Found) (i : ℕ) → length fs ≤ i
      → take i fs ++ put_by (found_first kind aim) f (drop i fs) ≡ put_by (found_first kind aim) f fs → insert fs i f ≡ put_by (found_first kind aim) f fs
  put_last f fs i past before =
      ap (λ xs. take i fs ++ f ∷ xs) (drop_all i fs past)
      ∙ ap (λ xs. take i fs ++ put_by (found_first kind aim) f xs) (sym (drop_all i fs past))
      ∙ before

  -- resizes as advices
  put_mapped : (f : Found) (fs : List Found) → map advice_of (put_by (found_first kind aim) f fs) ≡ put_by (advised_before kind aim) (advice_of f) (map advice_of fs)
  put_mapped f [] = refl
  put_mapped f (g ∷ gs) = by (found_first kind aim f g) (put_mapped f gs)
    where
      by : (b : Bool) → map advice_of (put_by (found_first kind aim) f gs) ≡ put_by (advised_before kind aim) (advice_of f) (map advice_of gs)
          → map advice_of (if b then f ∷ g ∷ gs else g ∷ put_by (found_first kind aim) f gs)
          ≡ (if b then advice_of f ∷ advice_of g ∷ map advice_of gs else advice_of g ∷ put_by (advised_before kind aim) (advice_of f) (map advice_of gs))
      by true rest = refl
      by false rest = λ i. advice_of g ∷ rest i

  pub kept_mapped : (f : Found) (old new : List Found) → new ≡ take 5 (put_by (found_first kind aim) f old)
      → map advice_of new ≡ take 5 (put_by (advised_before kind aim) (advice_of f) (map advice_of old))
  kept_mapped f old new e =
      ap (map advice_of) e
      ∙ sym (take-map advice_of 5 (put_by (found_first kind aim) f old))
      ∙ ap (take 5) (put_mapped f old)

  -- one candidate more
  module _ (now : SlackTotals) where
    one_of : (c : Candidate) (cs : List Candidate) (o : Option SlackTotals) (os : List (Option SlackTotals)) (kept : List SizeAdvice)
        → kept_by (advised_before kind aim) 5 kept (improving kind aim now (c ∷ cs) (o ∷ os))
        ≡ kept_by (advised_before kind aim) 5 (kept_by (advised_before kind aim) 5 kept (improving kind aim now (c ∷ []) (o ∷ []))) (improving kind aim now cs os)
    one_of c cs None os kept = refl
    one_of c cs (Some t) os kept = by (improves (aimed kind aim now) (aimed kind aim t))
      where
        by : (b : Bool)
            → kept_by (advised_before kind aim) 5 kept (if b then advice_by c t ∷ improving kind aim now cs os else improving kind aim now cs os)
            ≡ kept_by (advised_before kind aim) 5 (kept_by (advised_before kind aim) 5 kept (if b then advice_by c t ∷ [] else [])) (improving kind aim now cs os)
        by true = refl
        by false = refl

    pub next_one : (cs : List Candidate) (os : List (Option SlackTotals)) (i : ℕ) (c : Candidate) (o : Option SlackTotals) (old new : List SizeAdvice)
        → drop i cs ≡ c ∷ drop (i + 1) cs → drop i os ≡ o ∷ drop (i + 1) os
        → new ≡ kept_by (advised_before kind aim) 5 old (improving kind aim now (c ∷ []) (o ∷ []))
        → kept_by (advised_before kind aim) 5 new (improving kind aim now (drop (i + 1) cs) (drop (i + 1) os))
        ≡ kept_by (advised_before kind aim) 5 old (improving kind aim now (drop i cs) (drop i os))
    next_one cs os i c o old new first second e =
        ap (λ (xs : List SizeAdvice). kept_by (advised_before kind aim) 5 xs (improving kind aim now (drop (i + 1) cs) (drop (i + 1) os))) e
        ∙ sym (one_of c (drop (i + 1) cs) o (drop (i + 1) os) old)
        ∙ ap (λ (xs : List Candidate). kept_by (advised_before kind aim) 5 old (improving kind aim now xs (o ∷ drop (i + 1) os))) (sym first)
        ∙ ap (λ (xs : List (Option SlackTotals)). kept_by (advised_before kind aim) 5 old (improving kind aim now (drop i cs) xs)) (sym second)

    -- a candidate that improves, and one that does not
    pub put_better : (c : Candidate) (t : SlackTotals) (f : Found) (old new : List Found) → improves (aimed kind aim now) (aimed kind aim t) ≡ true
        → new ≡ take 5 (put_by (found_first kind aim) f old) → advice_of f ≡ advice_by c t
        → map advice_of new ≡ kept_by (advised_before kind aim) 5 (map advice_of old) (improving kind aim now (c ∷ []) (Some t ∷ []))
    put_better c t f old new better e same =
        kept_mapped f old new e
        ∙ ap (λ (a : SizeAdvice). take 5 (put_by (advised_before kind aim) a (map advice_of old))) same
        ∙ ap (λ (b : Bool). kept_by (advised_before kind aim) 5 (map advice_of old) (if b then advice_by c t ∷ [] else [])) (sym better)

    pub not_better : (c : Candidate) (t : SlackTotals) (old : List SizeAdvice) → improves (aimed kind aim now) (aimed kind aim t) ≡ false
        → old ≡ kept_by (advised_before kind aim) 5 old (improving kind aim now (c ∷ []) (Some t ∷ []))
    not_better c t old worse =
        ap (λ (b : Bool). kept_by (advised_before kind aim) 5 old (if b then advice_by c t ∷ [] else [])) (sym worse)
