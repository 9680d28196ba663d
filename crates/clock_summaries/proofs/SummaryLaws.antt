-- The totals by clock over what captures the endpoints in the order of their numbers are those of the design.

use Rattle.std.proofs.Common.{◌≡◌, ℕ, zero, suc, ◌+◌, ◌<◌, List, [], ◌∷◌, ◌++◌, take, length, None, refl, sym, ap, subst, ◌∙◌, arith}
use Rattle.std.specs.Prelude.{is_none}
use Rattle.std.proofs.lemmas.List.Sums.{length-filter}
use Rattle.timing_defs.specs.declared.kinds.Kind.{Kind}
use Rattle.timing_defs.specs.declared.constraints.Clock.{Clock}
use Rattle.timing_defs.specs.declared.closing.ClockSummary.{ClockSummary}
use Rattle.timing_defs.specs.declared.closing.TimingSummary.{TimingSummary}
use Rattle.timing_rules.specs.Summaries.{Captured, slack_under, clock_slacks, clock_summary, clock_summaries, IsSummary}
use Rattle.netlist_store.specs.Linked.{IsLinked}
use Rattle.netlist_store.specs.Numbering.{Stored, IsNumbered}
use Rattle.level_workers.specs.Mapped.{IsMap}
use Rattle.affected_cone.specs.Analysed.{ends_of}
use Rattle.clock_summaries.specs.Captures.{IsCapturedAt}
use Rattle.clock_summaries.specs.Totals.{is_under, fails_under, IsSummaryOf}
use Rattle.clock_summaries.proofs.EndCounts.{in_their_order}
use Rattle.clock_summaries.proofs.TotalLaws.{rows_alike}

-- the rows of the first clocks, and of one more
one_clock : (cs : List Captured) (n : ℕ) (clocks : List Clock) (i : ℕ) → i < length clocks
    → clock_summaries n (take (suc i) clocks) cs ≡ clock_summaries n (take i clocks) cs ++ clock_summary (n + i) (clock_slacks (n + i) cs) ∷ []
one_clock cs n [] i low = absurd (omega arith)
one_clock cs n (c ∷ clocks) zero low = ap (λ k. clock_summary k (clock_slacks k cs) ∷ []) (let e : n ≡ n + 0 = omega arith in e)
one_clock cs n (c ∷ clocks) (suc i) low =
    ap (λ rows. clock_summary n (clock_slacks n cs) ∷ rows)
    (one_clock cs (n + 1) clocks i (omega arith)
    ∙ ap (λ k. clock_summaries (n + 1) (take i clocks) cs ++ clock_summary k (clock_slacks k cs) ∷ []) (let e : n + 1 + i ≡ n + suc i = omega arith in e))

pub clock_put : (clocks : List Clock) (cs : List Captured) (i : ℕ) (before after : List ClockSummary) (one : ClockSummary) → i < length clocks
    → before ≡ clock_summaries 0 (take i clocks) cs → one ≡ clock_summary i (clock_slacks i cs) → after ≡ before ++ one ∷ []
    → after ≡ clock_summaries 0 (take (i + 1) clocks) cs
clock_put clocks cs i before after one low so_far is more =
    more ∙ ap (λ rows. rows ++ one ∷ []) so_far ∙ ap (λ r. clock_summaries 0 (take i clocks) cs ++ r ∷ []) is
    ∙ ap (λ k. clock_summaries 0 (take i clocks) cs ++ clock_summary k (clock_slacks k cs) ∷ []) (let e : i ≡ 0 + i = omega arith in e)
    ∙ sym (one_clock cs 0 clocks i low) ∙ ap (λ k. clock_summaries 0 (take k clocks) cs) (let e : suc i ≡ i + 1 = omega arith in e)

all_alike : (cs ds : List Captured) → ((place : ℕ) → clock_summary place (clock_slacks place cs) ≡ clock_summary place (clock_slacks place ds)) → (n : ℕ) (clocks : List Clock)
    → clock_summaries n clocks cs ≡ clock_summaries n clocks ds
all_alike cs ds each n [] = refl
all_alike cs ds each n (c ∷ clocks) =
    ap (λ r. r ∷ clock_summaries (n + 1) clocks cs) (each n) ∙ ap (λ rows. clock_summary n (clock_slacks n ds) ∷ rows) (all_alike cs ds each (n + 1) clocks)

pub summary_told : (s : Stored) (num : IsNumbered s) (linked : IsLinked s.design) (kind : Kind) (cs told : List Captured) (r : TimingSummary)
    → IsMap (IsCapturedAt s kind) (ends_of s) cs → told ≡ cs → IsSummaryOf s.design.constraints.clocks told r → IsSummary s.design kind r
summary_told s num linked kind cs told r m same is =
    let o = in_their_order s num linked kind cs m in
    let here = subst (λ (xs : List Captured). IsSummaryOf s.design.constraints.clocks xs r) same is in (
      o.list,
      o.are,
      here.rows
          ∙ all_alike cs o.list
          (λ place. rows_alike place cs o.list (o.count (is_under place)) (o.count (fails_under place)) (o.least (slack_under place) None) (o.sum (slack_under place)))
          0 s.design.constraints.clocks,
      here.untested ∙ o.count is_none ∙ sym (length-filter is_none o.list),
    )
