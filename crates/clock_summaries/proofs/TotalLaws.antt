-- The totals of a clock, over what captures all endpoints.

use Rattle.std.proofs.Common.{◌≡◌, ℕ, ◌+◌, ℤ, pos, ◌+ℤ◌, cond, List, [], ◌∷◌, map, filter, length, Option, None, Some, refl, sym, ap, ◌∙◌, inl, inr, arith}
use Rattle.std.specs.Prelude.{is_some, count_by, negsuc, ◌-◌, ◌^◌}
use Rattle.std.specs.Int.{int_max}
use Rattle.std.specs.List.{cons_option, filter_map}
use Rattle.std.proofs.lemmas.Bool.{cases_Bool}
use Rattle.std.proofs.lemmas.Int.{ints}
use Rattle.sta_units.specs.declared.units.Fs.{Fs}
use Rattle.timing_defs.specs.declared.closing.ClockSummary.{ClockSummary}
use Rattle.timing_defs.specs.declared.kinds.Split.TheVariants.{Early}
use Rattle.timing_rules.specs.Rows.{as_fs, outer_some}
use Rattle.timing_rules.specs.Reports.{least_slack, negative_part, negative_sum, total_slack}
use Rattle.timing_rules.specs.Summaries.{Captured, is_negative, fails, slack_under, clock_slacks, clock_summary}
use Rattle.affected_cone.specs.Floors.{floored}
use Rattle.affected_cone.proofs.SumLaws.{total_is}
use Rattle.clock_summaries.specs.Totals.{is_under, fails_under}
use Rattle.clock_summaries.proofs.Reordering.{count_more}

-- one item more, where it has a slack
long_one : (o : Option ℤ) (xs : List ℤ) (n : ℕ) → length xs ≡ n → length (cons_option o xs) ≡ cond (is_some o) 1 0 + n
long_one None xs n e = omega (arith, e)
long_one (Some z) xs n e = omega (arith, e)

fail_one : (o : Option ℤ) (xs : List ℤ) (n : ℕ) → length (filter is_negative xs) ≡ n → length (filter is_negative (cons_option o xs)) ≡ cond (fails o) 1 0 + n
fail_one None xs n e = omega (arith, e)
fail_one (Some z) xs n e = elim (cases_Bool (is_negative z)) [
  | inl h ↦ rw h (omega (arith, e))
  | inr h ↦ rw h (omega (arith, e))
]

none_less : (b : Option ℤ) → outer_some Early b None ≡ b
none_less None = refl
none_less (Some z) = refl

least_one : (b o : Option ℤ) (xs : List ℤ) → least_slack b (map Some (cons_option o xs)) ≡ least_slack (outer_some Early b o) (map Some xs)
least_one b None xs = ap (λ c. least_slack c (map Some xs)) (sym (none_less b))
least_one b (Some z) xs = refl

nothing_more : (z : ℤ) → z ≡ pos 0 +ℤ z
nothing_more z = omega (arith, ints)

sum_one : (o : Option ℤ) (xs : List ℤ) → negative_sum (map Some (cons_option o xs)) ≡ negative_part o +ℤ negative_sum (map Some xs)
sum_one None xs = nothing_more (negative_sum (map Some xs))
sum_one (Some z) xs = refl

module _ (h : Captured → Option ℤ) where
  long_is : (cs : List Captured) → length (filter_map h cs) ≡ count_by (λ c. is_some (h c)) cs
  long_is [] = refl
  long_is (c ∷ cs) =
      long_one (h c) (filter_map h cs) (count_by (λ c. is_some (h c)) cs) (long_is cs) ∙ sym (count_more (λ c. is_some (h c)) c cs)

  fail_is : (cs : List Captured) → length (filter is_negative (filter_map h cs)) ≡ count_by (λ c. fails (h c)) cs
  fail_is [] = refl
  fail_is (c ∷ cs) = fail_one (h c) (filter_map h cs) (count_by (λ c. fails (h c)) cs) (fail_is cs) ∙ sym (count_more (λ c. fails (h c)) c cs)

  least_is : (b : Option ℤ) (cs : List Captured) → least_slack b (map Some (filter_map h cs)) ≡ least_slack b (map h cs)
  least_is b [] = refl
  least_is b (c ∷ cs) = least_one b (h c) (filter_map h cs) ∙ least_is (outer_some Early b (h c)) cs

  sum_is : (cs : List Captured) → negative_sum (map Some (filter_map h cs)) ≡ negative_sum (map h cs)
  sum_is [] = refl
  sum_is (c ∷ cs) = sum_one (h c) (filter_map h cs) ∙ ap (λ z. negative_part (h c) +ℤ z) (sum_is cs)

-- a row of a clock by its numbers
abbrev pub row : ℕ → ℕ → ℕ → Option ℤ → ℤ → ClockSummary
row place tested failing least total = record { clock = place; tested = tested; failing = failing; wns = as_fs least; tns = record { 0 = total } }

abbrev pub floor : ℤ
floor = negsuc (2 ^ 63 - 2)

same_row : (place t u f g : ℕ) (l m : Option ℤ) (y z : ℤ) → t ≡ u → f ≡ g → l ≡ m → y ≡ z → row place t f l y ≡ row place u g m z
same_row place t u f g l m y z a b c e = λ k. row place (a k) (b k) (c k) (e k)

-- the row of a clock by counts and sums over all endpoints
pub row_is : (place : ℕ) (cs : List Captured) → clock_summary place (clock_slacks place cs)
    ≡ row place (count_by (is_under place) cs) (count_by (fails_under place) cs) (least_slack None (map (slack_under place) cs)) (int_max floor (negative_sum (map (slack_under place) cs)))
row_is place cs =
    same_row place (length (clock_slacks place cs)) (count_by (is_under place) cs) (length (filter is_negative (clock_slacks place cs))) (count_by (fails_under place) cs)
    (least_slack None (map Some (clock_slacks place cs))) (least_slack None (map (slack_under place) cs)) (total_slack (map Some (clock_slacks place cs)))
    (int_max floor (negative_sum (map (slack_under place) cs))) (long_is (slack_under place) cs) (fail_is (slack_under place) cs) (least_is (slack_under place) None cs)
    (ap (int_max floor) (sum_is (slack_under place) cs))

-- the row that is made of what was found
pub row_told : (place : ℕ) (cs : List Captured) (tested failing : ℕ) (least : Option Fs) (total : Fs) → tested ≡ count_by (is_under place) cs → failing ≡ count_by (fails_under place) cs
    → least ≡ as_fs (least_slack None (map (slack_under place) cs)) → total.0 ≡ floored (pos 0) (map (slack_under place) cs)
    → ◌≡◌ {A = ClockSummary} (record { clock = place; tested = tested; failing = failing; wns = least; tns = total }) (clock_summary place (clock_slacks place cs))
row_told place cs tested failing least total a b c e =
    (λ k. record { clock = place; tested = a k; failing = b k; wns = c k; tns = record { 0 = (e ∙ total_is (map (slack_under place) cs)) k } }) ∙ sym (row_is place cs)

-- rows over items of which the counts and sums are the same
pub rows_alike : (place : ℕ) (cs ds : List Captured) → count_by (is_under place) cs ≡ count_by (is_under place) ds → count_by (fails_under place) cs ≡ count_by (fails_under place) ds
    → least_slack None (map (slack_under place) cs) ≡ least_slack None (map (slack_under place) ds)
    → negative_sum (map (slack_under place) cs) ≡ negative_sum (map (slack_under place) ds)
    → clock_summary place (clock_slacks place cs) ≡ clock_summary place (clock_slacks place ds)
rows_alike place cs ds a b c e =
    row_is place cs
    ∙ same_row place (count_by (is_under place) cs) (count_by (is_under place) ds) (count_by (fails_under place) cs) (count_by (fails_under place) ds)
    (least_slack None (map (slack_under place) cs)) (least_slack None (map (slack_under place) ds)) (int_max floor (negative_sum (map (slack_under place) cs)))
    (int_max floor (negative_sum (map (slack_under place) ds))) a b c (ap (int_max floor) e)
    ∙ sym (row_is place ds)
