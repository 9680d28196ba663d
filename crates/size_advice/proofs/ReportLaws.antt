-- The report on candidates by their outcomes: the order of resizes that improve is one where a value is there, and no resize is
-- there twice.

use Rattle.std.proofs.Common.{◌≡◌, ℕ, suc, ℤ, pos, Bool, true, false, ◌&&◌, if◌then◌else◌, List, [], ◌∷◌, length, Option, None, Some, Result, Ok, Err, IfOk, refl, sym, ap, subst, ◌∙◌, inl, inr, true≢false}
use Rattle.std.specs.Prelude.{is_some, unwrap_or}
use Rattle.std.specs.List.{Contains}
use Rattle.std.specs.Str.{bytes_eq}
use Rattle.std.specs.Cmp.{IsTotalOrder, then_total, on_total, back_total, nat_cmp_total, int_cmp_total, tied_itself, upto}
use Rattle.std.specs.Cmp.Lexicographic.{slice_cmp, lists_total}
use Rattle.std.specs.Ordering.{nat_cmp, int_cmp, ordering_then, ordering_reverse, is_lt, is_gt}
use Rattle.std.specs.declared.cmp.Ordering.{Ordering}
use Rattle.std.specs.declared.cmp.Ordering.TheVariants.{Less, Equal, Greater}
use Rattle.sta_units.specs.declared.units.Memory.{Memory}
use Rattle.timing_defs.specs.declared.kinds.Kind.{Kind}
use Rattle.timing_defs.specs.declared.closing.Aim.{Aim}
use Rattle.timing_defs.specs.declared.closing.SizeAdvice.{SizeAdvice}
use Rattle.timing_defs.specs.declared.closing.SlackTotals.{SlackTotals}
use Rattle.timing_defs.specs.declared.closing.AdviceReport.{AdviceReport}
use Rattle.timing_defs.specs.declared.design.Design.{Design}
use Rattle.timing_defs.specs.declared.reports.Candidate.{Candidate}
use Rattle.timing_defs.specs.Firsts.{AreFirst}
use Rattle.timing_defs.proofs.Members.{first_in, later_in, in_cases, none_in, any_in}
use Rattle.timing_defs.proofs.SameNames.{same_self}
use Rattle.timing_rules.specs.Checks.{IsSound}
use Rattle.timing_rules.specs.SizeAdvice.{AreSlackTotals, aimed, IsOutcome, AreOutcomes, improves, value_cmp, advice_by, improving, advised_before, IsAdviceReport, same_candidate}
use Rattle.netlist_store.specs.Numbering.{Stored}
use Rattle.level_workers.specs.Mapped.{IsMap}
use Rattle.affected_cone.specs.Analysed.{Analysed, IsAnalysis}
use Rattle.size_advice.specs.Keeping.{AreApart, IsMadeOf}
use Rattle.size_advice.proofs.FirstLists.{IsOrderOf, Apart, first_kept}

pub outcomes_long : (d : Design) (cs : List Candidate) (os : List (Option SlackTotals)) → IsMap (IsOutcome d) cs os → length os ≡ length cs
outcomes_long d [] [] m = refl
outcomes_long d [] (o ∷ os) m = absurd m
outcomes_long d (c ∷ cs) [] m = absurd m
outcomes_long d (c ∷ cs) (o ∷ os) m = ap suc (outcomes_long d cs os m.1)

are_outcomes : (d : Design) (cs : List Candidate) (os : List (Option SlackTotals)) → IsMap (IsOutcome d) cs os → AreOutcomes d cs os
are_outcomes d [] [] m = tt
are_outcomes d [] (o ∷ os) m = absurd m
are_outcomes d (c ∷ cs) [] m = absurd m
are_outcomes d (c ∷ cs) (o ∷ os) m = (m.0, are_outcomes d cs os m.1)

-- a resize is that of one of these candidates
record IsOf (cs : List Candidate) (a : SizeAdvice) : Type 0 where
  candidate : Candidate
  within : Contains cs candidate
  inst : a.inst ≡ candidate.inst
  cell : a.cell ≡ candidate.cell

module _ (kind : Kind) (aim : Aim) where
  -- a value is there
  abbrev Has : SizeAdvice → Type 0
  Has a = is_some (aimed kind aim a.after) ≡ true

  abbrev value_of : SizeAdvice → ℤ
  value_of a = unwrap_or (aimed kind aim a.after) (pos 0)

  abbrev by_value : SizeAdvice → SizeAdvice → Ordering
  by_value a b = int_cmp (value_of b) (value_of a)

  abbrev by_name : SizeAdvice → SizeAdvice → Ordering
  by_name a b = ordering_then (slice_cmp nat_cmp a.inst b.inst) (slice_cmp nat_cmp a.cell b.cell)

  abbrev rank_cmp : SizeAdvice → SizeAdvice → Ordering
  rank_cmp a b = ordering_then (by_value a b) (by_name a b)

  names_total : IsTotalOrder by_name
  names_total =
      then_total {R = λ (a b : SizeAdvice). slice_cmp nat_cmp a.inst b.inst} {S = λ (a b : SizeAdvice). slice_cmp nat_cmp a.cell b.cell}
      (on_total (λ (a : SizeAdvice). a.inst) (lists_total nat_cmp_total)) (on_total (λ (a : SizeAdvice). a.cell) (lists_total nat_cmp_total))

  rank_total : IsTotalOrder rank_cmp
  rank_total = then_total {R = by_value} {S = by_name} (on_total value_of (back_total int_cmp_total)) names_total

  same_value : (o p : Option ℤ) → is_some o ≡ true → is_some p ≡ true → value_cmp o p ≡ int_cmp (unwrap_or o (pos 0)) (unwrap_or p (pos 0))
  same_value (Some x) (Some y) e f = refl
  same_value None p e f = absurd (true≢false (sym e))
  same_value (Some x) None e f = absurd (true≢false (sym f))

  ranked : (a b : SizeAdvice) → Has a → Has b → advised_before kind aim a b ≡ is_lt (rank_cmp a b)
  ranked a b e f =
      ap (λ (o : Ordering). is_lt (ordering_then o (by_name a b))) (same_value (aimed kind aim b.after) (aimed kind aim a.after) f e)

  turned : (o : Ordering) → is_lt (ordering_reverse o) ≡ is_gt o
  turned Less = refl
  turned Equal = refl
  turned Greater = refl

  back : (x y : SizeAdvice) → is_lt (rank_cmp x y) ≡ is_gt (rank_cmp y x)
  back x y = ap is_lt (rank_total.antisymm x y) ∙ turned (rank_cmp y x)

  not_both : (o : Ordering) → is_lt o ≡ true → is_gt o ≡ false
  not_both Less e = refl
  not_both Equal e = absurd (true≢false (sym e))
  not_both Greater e = absurd (true≢false (sym e))

  advised_order : IsOrderOf (advised_before kind aim) Has
  advised_order = record {
    itself = λ x h. ranked x x h h ∙ ap is_lt (tied_itself rank_total x);
    chain = λ x y z h k l e f.
        (ranked x z h l ∙ back x z
        ∙ upto rank_total z y x (sym (back y z) ∙ sym (ranked y z k l) ∙ f) (sym (back x y) ∙ sym (ranked x y h k) ∙ e));
    turns = λ x y h k e. (ranked y x k h ∙ back y x ∙ not_both (rank_cmp x y) (sym (ranked x y h k) ∙ e));
  }

  module _ (now : SlackTotals) where
    there : (o p : Option ℤ) → improves o p ≡ true → is_some p ≡ true
    there None p e = absurd (true≢false (sym e))
    there (Some x) None e = absurd (true≢false (sym e))
    there (Some x) (Some y) e = refl

    later_of : (c : Candidate) (cs : List Candidate) (a : SizeAdvice) → IsOf cs a → IsOf (c ∷ cs) a
    later_of c cs a m = record { candidate = m.candidate; within = later_in c cs m.candidate m.within; inst = m.inst; cell = m.cell }

    first_of : (c : Candidate) (cs : List Candidate) (t : SlackTotals) (a : SizeAdvice) → advice_by c t ≡ a → IsOf (c ∷ cs) a
    first_of c cs t a e = record {
      candidate = c;
      within = first_in c cs;
      inst = sym (ap (λ (x : SizeAdvice). x.inst) e);
      cell = sym (ap (λ (x : SizeAdvice). x.cell) e);
    }

    -- each that improves has a value and is that of a candidate
    each : (cs : List Candidate) (os : List (Option SlackTotals)) (a : SizeAdvice) → Contains (improving kind aim now cs os) a → Has a × IsOf cs a
    each [] os a c = absurd (none_in a c)
    each (x ∷ xs) [] a c = absurd (none_in a c)
    each (x ∷ xs) (None ∷ os) a c = let m = each xs os a c in (m.0, later_of x xs a m.1)
    each (x ∷ xs) (Some t ∷ os) a c = by (improves (aimed kind aim now) (aimed kind aim t)) refl (λ d. each xs os a d) c
      where
        by : (b : Bool) → improves (aimed kind aim now) (aimed kind aim t) ≡ b → (Contains (improving kind aim now xs os) a → Has a × IsOf xs a)
            → Contains (if b then advice_by x t ∷ improving kind aim now xs os else improving kind aim now xs os) a → Has a × IsOf (x ∷ xs) a
        by false e more d = let m = more d in (m.0, later_of x xs a m.1)
        by true e more d = elim (in_cases (advice_by x t) (improving kind aim now xs os) a d) [
          | inl s ↦ (subst Has s (there (aimed kind aim now) (aimed kind aim t) e), first_of x xs t a s)
          | inr f ↦ let m = more f in (m.0, later_of x xs a m.1)
        ]

    same_names : (c b : Candidate) → c.inst ≡ b.inst → c.cell ≡ b.cell → same_candidate c b ≡ true
    same_names c b e f =
        ap (λ (n : List ℕ). bytes_eq c.inst n && bytes_eq c.cell b.cell) (sym e)
        ∙ ap (λ (n : List ℕ). bytes_eq c.inst c.inst && bytes_eq c.cell n) (sym f)
        ∙ ap (λ (b : Bool). b && bytes_eq c.cell c.cell) (same_self c.inst)
        ∙ same_self c.cell

    -- none is there twice
    apart : (cs : List Candidate) (os : List (Option SlackTotals)) → AreApart cs → Apart (improving kind aim now cs os)
    apart [] os p = tt
    apart (x ∷ xs) [] p = tt
    apart (x ∷ xs) (None ∷ os) p = apart xs os p.1
    apart (x ∷ xs) (Some t ∷ os) p = by (improves (aimed kind aim now) (aimed kind aim t)) (apart xs os p.1)
      where
        once : Contains (improving kind aim now xs os) (advice_by x t) → ⊥
        once c =
            let m = (each xs os (advice_by x t) c).1 in
            let hit = any_in (same_candidate x) xs m.candidate m.within (same_names x m.candidate m.inst m.cell) in
            true≢false (sym hit ∙ p.0)

        by : (b : Bool) → Apart (improving kind aim now xs os) → Apart (if b then advice_by x t ∷ improving kind aim now xs os else improving kind aim now xs os)
        by true more = (once, more)
        by false more = more

-- the report on candidates that are tried on a design
pub is_report : (d : Design) (kind : Kind) (aim : Aim) (cs : List Candidate) (os : List (Option SlackTotals)) (now : SlackTotals) (r : AdviceReport)
    → AreSlackTotals d now → IsMap (IsOutcome d) cs os → AreApart cs → IsMadeOf kind aim now cs os r → IsAdviceReport d kind aim cs r
is_report d kind aim cs os now r totals told each_once made = (
  subst (λ (t : SlackTotals). AreSlackTotals d t) (sym made.totals) totals,
  made.tried,
  (
    os,
    are_outcomes d cs os told,
    made.refused,
    subst (λ (t : SlackTotals). AreFirst (advised_before kind aim) 5 (Contains (improving kind aim t cs os)) r.rows) (sym made.totals)
        (subst (λ (rows : List SizeAdvice). AreFirst (advised_before kind aim) 5 (Contains (improving kind aim now cs os)) rows) (sym made.rows)
        (first_kept (advised_before kind aim) (Has kind aim) (advised_order kind aim) 5 (improving kind aim now cs os) (apart kind aim now cs os each_once)
        (λ y c. (each kind aim now cs os y c).0))),
  ),
)

-- the same of lists that are these
pub report_told : (s a : Stored) (kind : Kind) (aim : Aim) (cs cs1 cs2 : List Candidate) (os os1 : List (Option SlackTotals)) (now : SlackTotals) (r : Result AdviceReport Memory)
    → s ≡ a → cs1 ≡ cs → cs2 ≡ cs → os1 ≡ os → AreSlackTotals a.design now → IsMap (IsOutcome s.design) cs1 os → AreApart cs
    → IfOk r (IsMadeOf kind aim now cs2 os1) → IfOk r (IsAdviceReport s.design kind aim cs)
report_told s a kind aim cs cs1 cs2 os os1 now (Err m) same first second third totals told each_once made = tt
report_told s a kind aim cs cs1 cs2 os os1 now (Ok r) same first second third totals told each_once made =
    is_report s.design kind aim cs os now r (subst (λ (x : Stored). AreSlackTotals x.design now) (sym same) totals)
    (subst (λ (xs : List Candidate). IsMap (IsOutcome s.design) xs os) first told) each_once
    (subst (λ (xs : List Candidate). IsMadeOf kind aim now xs os r) second
    (subst (λ (ys : List (Option SlackTotals)). IsMadeOf kind aim now cs2 ys r) third made))

-- the design of an analysed store is sound
pub sound_of : (s : Stored) (a : Analysed) → s ≡ a.stored → IsAnalysis a → IsSound s.design
sound_of s a same is = subst (λ (x : Stored). IsSound x.design) (sym same) is.sound
