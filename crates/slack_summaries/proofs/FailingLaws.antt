-- The negative rows among the worst endpoints are those that fail.

use Rattle.std.proofs.Common.{◌≡◌, ◌⊎◌, ℕ, suc, ◌<◌, ℤ, Bool, true, false, cond, not, List, [], ◌∷◌, map, filter, take, length, Option, None, Some, refl, sym, ap, subst, ◌∙◌, inl, inr, arith}
use Rattle.std.specs.Prelude.{Contains, IsSome, IfSome, ◌&&◌}
use Rattle.std.specs.List.{IsDistinct, list_any}
use Rattle.std.specs.Str.{bytes_eq}
use Rattle.std.proofs.lemmas.Bool.{cases_Bool, false≢true, and_parts, not-true}
use Rattle.std.proofs.lemmas.Cmp.{eq_by_cmp_equiv}
use Rattle.std.proofs.lemmas.List.{length-take-le}
use Rattle.std.proofs.lemmas.Map.Made.{length-from_same_keys}
use Rattle.timing_defs.specs.declared.kinds.Kind.{Kind}
use Rattle.timing_defs.specs.declared.closing.FailingEndpoints.{FailingEndpoints}
use Rattle.timing_defs.specs.declared.reports.EndRow.{EndRow}
use Rattle.timing_defs.specs.declared.reports.Query.{Query}
use Rattle.timing_defs.specs.declared.reports.Report.{Report}
use Rattle.timing_defs.specs.declared.reports.Query.TheVariants.{Worst}
use Rattle.timing_defs.specs.declared.reports.Report.TheVariants.{Ends}
use Rattle.timing_defs.specs.declared.design.Design.{Design}
use Rattle.timing_defs.specs.Firsts.{AreFirst}
use Rattle.timing_defs.specs.Netlist.{Pin, name_of, pins, is_listed, are_distinct}
use Rattle.timing_defs.proofs.ListLemmas.{bool_iff}
use Rattle.timing_defs.proofs.Members.{some_is, first_in, later_in, in_cases, none_in, any_in, any_back}
use Rattle.timing_defs.proofs.SameNames.{same_self}
use Rattle.timing_rules.specs.Paths.{IsSlack}
use Rattle.timing_rules.specs.Reports.{endpoints, AreSlacks, least_slack, IsWns, IsEndRow, goes_before, AreWorst}
use Rattle.timing_rules.specs.Questions.{Told}
use Rattle.timing_rules.specs.Summaries.{is_negative, fails, IsFailing, AreFailing}
use Rattle.timing_rules.specs.Tests.{is_endpoint}
use Rattle.netlist_store.specs.Linked.{IsLinked}
use Rattle.netlist_store.specs.Numbering.{Stored, IsNumbered}
use Rattle.level_workers.specs.Mapped.{IsMap}
use Rattle.store_pins.proofs.PinNames.{pins_apart}
use Rattle.affected_cone.specs.declared.ends.EndSlacks.{EndSlacks}
use Rattle.affected_cone.specs.Analysed.{ends_of, slack_in, IsEnd}
use Rattle.affected_cone.proofs.TotalLaws.{least_told}
use Rattle.affected_cone.proofs.OrderLaws.{row_cmp, row_total, ties, ties_same}
use Rattle.affected_cone.proofs.SlackLaws.{slack_one}
use Rattle.slack_summaries.specs.Failures.{negative_count, listed_count, AreWorstRows}
use Rattle.slack_summaries.proofs.RowOrder.{AreUp, ups, taken_in, up_apart, all_by, few_is, few, firsts, lead, lead_low, lead_is, lead_negative, lead_all, lead_short, not_behind}

-- distinct names stay distinct in a part
unlisted_part : (keep : Pin → Bool) (xs : List Pin) (q : List ℕ) → is_listed (map name_of xs) q ≡ false → is_listed (map name_of (filter keep xs)) q ≡ false
unlisted_part keep [] q h = refl
unlisted_part keep (x ∷ xs) q h = elim (cases_Bool (bytes_eq q (name_of x))) [
  | inl e ↦
      let bad : true ≡ false = rw e at h in
      absurd (false≢true (sym bad))
  | inr e ↦
      let rest : is_listed (map name_of xs) q ≡ false = rw e at h in
      elim (cases_Bool (keep x)) [
        | inl k ↦ rw (k, e) (unlisted_part keep xs q rest)
        | inr k ↦ rw k (unlisted_part keep xs q rest)
      ]
]

distinct_part : (keep : Pin → Bool) (xs : List Pin) → are_distinct (map name_of xs) ≡ true → are_distinct (map name_of (filter keep xs)) ≡ true
distinct_part keep [] h = refl
distinct_part keep (x ∷ xs) h =
    let parts = and_parts (not (is_listed (map name_of xs) (name_of x))) (are_distinct (map name_of xs)) h in
    let none = unlisted_part keep xs (name_of x) (not-true (is_listed (map name_of xs) (name_of x)) parts.0) in
    elim (cases_Bool (keep x)) [
      | inl k ↦ rw k (ap (λ b. not b && are_distinct (map name_of (filter keep xs))) none ∙ distinct_part keep xs parts.1)
      | inr k ↦ rw k (distinct_part keep xs parts.1)
    ]

pub ends_apart : (d : Design) → IsLinked d → are_distinct (endpoints d) ≡ true
ends_apart d linked = distinct_part (is_endpoint d) (pins d) (pins_apart d linked)

tied : (a : EndRow) → ties a a ≡ true
tied a = (eq_by_cmp_equiv row_total).refl a

-- the failing rows of endpoints with their slacks
abbrev row_at : List ℕ → ℤ → EndRow
row_at pin slack = record { pin = pin; slack = record { 0 = slack } }

abbrev failing_rows : List (List ℕ) → List (Option ℤ) → List EndRow
failing_rows [] ss = []
failing_rows (e ∷ es) [] = []
failing_rows (e ∷ es) (None ∷ ss) = failing_rows es ss
failing_rows (e ∷ es) (Some s ∷ ss) = cond (is_negative s) (row_at e s ∷ failing_rows es ss) (failing_rows es ss)

module _ (d : Design) (kind : Kind) where
  rows_counted : (es : List (List ℕ)) (ss : List (Option ℤ)) → AreSlacks d kind es ss → length (failing_rows es ss) ≡ length (filter fails ss)
  rows_counted [] [] are = refl
  rows_counted [] (s ∷ ss) are = absurd are
  rows_counted (e ∷ es) [] are = absurd are
  rows_counted (e ∷ es) (None ∷ ss) are = rows_counted es ss are.1
  rows_counted (e ∷ es) (Some s ∷ ss) are = elim (cases_Bool (is_negative s)) [
    | inl h ↦ rw h (ap suc (rows_counted es ss are.1))
    | inr h ↦ rw h (rows_counted es ss are.1)
  ]

  record Fails (es : List (List ℕ)) (r : EndRow) : Type 0 where
    within : Contains es r.pin
    slack : IsSlack d kind r.pin (Some r.slack.0)
    negative : is_negative r.slack.0 ≡ true

  later_fails : (e : List ℕ) (es : List (List ℕ)) (r : EndRow) → Fails es r → Fails (e ∷ es) r
  later_fails e es r f = record { within = later_in e es r.pin f.within; slack = f.slack; negative = f.negative }

  rows_sound : (es : List (List ℕ)) (ss : List (Option ℤ)) → AreSlacks d kind es ss → (r : EndRow) → Contains (failing_rows es ss) r → Fails es r
  rows_sound [] ss are r c = absurd (none_in r c)
  rows_sound (e ∷ es) [] are r c = absurd are
  rows_sound (e ∷ es) (None ∷ ss) are r c = later_fails e es r (rows_sound es ss are.1 r c)
  rows_sound (e ∷ es) (Some s ∷ ss) are r c = elim (cases_Bool (is_negative s)) [
    | inl h ↦ elim (in_cases (row_at e s) (failing_rows es ss) r (subst (λ b. Contains (cond b (row_at e s ∷ failing_rows es ss) (failing_rows es ss)) r) h c)) [
      | inl same ↦ subst (λ (x : EndRow). Fails (e ∷ es) x) same (record { within = first_in e es; slack = are.0; negative = h })
      | inr k ↦ later_fails e es r (rows_sound es ss are.1 r k)
    ]
    | inr h ↦
        later_fails e es r (rows_sound es ss are.1 r (subst (λ b. Contains (cond b (row_at e s ∷ failing_rows es ss) (failing_rows es ss)) r) h c))
  ]

  rows_all : (es : List (List ℕ)) (ss : List (Option ℤ)) → AreSlacks d kind es ss → (r : EndRow) → Fails es r → Contains (failing_rows es ss) r
  rows_all [] ss are r f = absurd (none_in r.pin f.within)
  rows_all (e ∷ es) [] are r f = absurd are
  rows_all (e ∷ es) (o ∷ ss) are r f = elim (in_cases e es r.pin f.within) [
    | inl same ↦
        let slack : o ≡ Some r.slack.0 =
        slack_one d kind e o (Some r.slack.0) are.0 (subst (λ (w : List ℕ). IsSlack d kind w (Some r.slack.0)) (sym same) f.slack) in
        subst (λ (p : Option ℤ). Contains (failing_rows (e ∷ es) (p ∷ ss)) r) (sym slack)
        (subst (λ b. Contains (cond b (row_at e r.slack.0 ∷ failing_rows es ss) (failing_rows es ss)) r) (sym f.negative)
        (subst (λ (w : List ℕ). Contains (row_at w r.slack.0 ∷ failing_rows es ss) r) (sym same) (first_in r (failing_rows es ss))))
    | inr k ↦ more o (rows_all es ss are.1 r (record { within = k; slack = f.slack; negative = f.negative }))
  ]
    where
      more : (p : Option ℤ) → Contains (failing_rows es ss) r → Contains (failing_rows (e ∷ es) (p ∷ ss)) r
      more None c = c
      more (Some s) c = elim (cases_Bool (is_negative s)) [
        | inl h ↦ subst (λ b. Contains (cond b (row_at e s ∷ failing_rows es ss) (failing_rows es ss)) r) (sym h) (later_in (row_at e s) (failing_rows es ss) r c)
        | inr h ↦ subst (λ b. Contains (cond b (row_at e s ∷ failing_rows es ss) (failing_rows es ss)) r) (sym h) c
      ]

  rows_apart : (es : List (List ℕ)) (ss : List (Option ℤ)) → are_distinct es ≡ true → AreSlacks d kind es ss → IsDistinct ties (failing_rows es ss)
  unfolding IsDistinct
  rows_apart [] ss apart are = tt
  rows_apart (e ∷ es) [] apart are = absurd are
  rows_apart (e ∷ es) (None ∷ ss) apart are = rows_apart es ss (and_parts (not (is_listed es e)) (are_distinct es) apart).1 are.1
  rows_apart (e ∷ es) (Some s ∷ ss) apart are = by (rows_apart es ss parts.1 are.1) (cases_Bool (is_negative s))
    where
      parts : (not (is_listed es e) ≡ true) × (are_distinct es ≡ true)
      parts = and_parts (not (is_listed es e)) (are_distinct es) apart

      alone : (y : EndRow) → Contains (failing_rows es ss) y → ties (row_at e s) y ≡ false
      alone y c = elim (cases_Bool (ties (row_at e s) y)) [
        | inl t ↦
            let pin : y.pin ≡ e = ap (λ (r : EndRow). r.pin) (sym (ties_same (row_at e s) y t)) in
            let listed : Contains es e = subst (λ (w : List ℕ). Contains es w) pin (rows_sound es ss are.1 y c).within in
            absurd (false≢true (sym (not-true (is_listed es e) parts.0) ∙ any_in (bytes_eq e) es e listed (same_self e)))
        | inr f ↦ f
      ]

      by : IsDistinct ties (failing_rows es ss) → (is_negative s ≡ true) ⊎ (is_negative s ≡ false)
          → IsDistinct ties (cond (is_negative s) (row_at e s ∷ failing_rows es ss) (failing_rows es ss))
      by rest (inl h) =
          subst (λ b. IsDistinct ties (cond b (row_at e s ∷ failing_rows es ss) (failing_rows es ss))) (sym h)
          (all_by (λ (y : EndRow). ties (row_at e s) y ≡ false) (failing_rows es ss) alone, rest)
      by rest (inr h) = subst (λ b. IsDistinct ties (cond b (row_at e s ∷ failing_rows es ss) (failing_rows es ss))) (sym h) rest

  -- the worst rows before the first that is not negative
  module _ (linked : IsLinked d) (count : ℕ) (rows : List EndRow) (worst : AreWorst d kind count rows) (enough : lead rows < count) where
    up : AreUp rows
    up = ups rows worst.1

    abbrev leading : List EndRow
    leading = take (lead rows) rows

    sound : (r : EndRow) → Contains leading r → IsFailing d kind r
    sound r c = (worst.0 r (taken_in (lead rows) rows r c), lead_negative rows r c)

    all : (r : EndRow) → IsFailing d kind r → Contains leading r
    all r is = elim (cases_Bool (list_any (ties r) rows)) [
      | inl e ↦
          let x = any_back (ties r) rows e in
          lead_all rows up r (subst (λ (s : EndRow). Contains rows s) (sym (ties_same r x.item x.passes)) x.within) is.1
      | inr none ↦
          let left = worst.3 r is.0 (λ c. false≢true (sym none ∙ any_in (ties r) rows r c (tied r))) in
          let long = left.0 in
          let s = lead_short rows (omega (arith, enough, long)) in
          absurd (not_behind s.0 r (left.1 s.0 s.1) s.2 is.1)
    ]

    counted : (ss : List (Option ℤ)) → AreSlacks d kind (endpoints d) ss → lead rows ≡ length (filter fails ss)
    counted ss are =
        sym (length-take-le (lead rows) rows (lead_low rows))
        ∙ length-from_same_keys (eq_by_cmp_equiv row_total) leading (failing_rows (endpoints d) ss) (up_apart (lead rows) rows up)
        (rows_apart (endpoints d) ss (ends_apart d linked) are) same
        ∙ rows_counted (endpoints d) ss are
      where
        there : (q : EndRow) → list_any (ties q) leading ≡ true → list_any (ties q) (failing_rows (endpoints d) ss) ≡ true
        there q e =
            let x = any_back (ties q) leading e in
            let f = sound x.item x.within in
            any_in (ties q) (failing_rows (endpoints d) ss) x.item
            (rows_all (endpoints d) ss are x.item (record { within = f.0.0; slack = f.0.1; negative = f.1 })) x.passes

        back : (q : EndRow) → list_any (ties q) (failing_rows (endpoints d) ss) ≡ true → list_any (ties q) leading ≡ true
        back q e =
            let x = any_back (ties q) (failing_rows (endpoints d) ss) e in
            let f = rows_sound (endpoints d) ss are x.item x.within in
            any_in (ties q) leading x.item (all x.item ((f.within, f.slack), f.negative)) x.passes

        same : (q : EndRow) → list_any (ties q) leading ≡ list_any (ties q) (failing_rows (endpoints d) ss)
        same q = bool_iff (list_any (ties q) leading) (list_any (ties q) (failing_rows (endpoints d) ss)) (there q) (back q)

    failing_by : (wns : Option ℤ) → IsWns d kind wns → (f : FailingEndpoints) → f.count ≡ lead rows → f.rows ≡ take (few (lead rows) 10000) rows → AreFailing d kind f
    failing_by wns (ss, are, least) f count listed = (
      (ss, are, count ∙ counted ss are),
      subst (λ (rs : List EndRow). AreFirst goes_before 10000 (IsFailing d kind) rs) (sym listed) (firsts 10000 (lead rows) rows (IsFailing d kind) up sound all),
    )

  pub failing_told : IsLinked d → (wns : Option ℤ) → IsWns d kind wns → (count : ℕ) (rows : List EndRow) → AreWorst d kind count rows → negative_count rows < count
      → (f : FailingEndpoints) → f.count ≡ negative_count rows → f.rows ≡ take (listed_count (negative_count rows)) rows → AreFailing d kind f
  failing_told linked wns is count rows worst enough f number listed =
      failing_by linked count rows worst (subst (λ n. n < count) (lead_is rows) enough) wns is f (number ∙ lead_is rows)
      (listed ∙ ap (λ n. take n rows) (few_is (negative_count rows) 10000 ∙ ap (λ n. few n 10000) (lead_is rows)))

-- the same of a store and its analysis
pub failing_for : (s t : Stored) → s ≡ t → IsNumbered s → IsLinked s.design → (ends : List EndSlacks) → IsMap (IsEnd t) (ends_of t) ends → (kind : Kind) (count : ℕ) (rows : List EndRow)
    → AreWorstRows t.design kind count rows → negative_count rows < count → (f : FailingEndpoints) → f.count ≡ negative_count rows
    → f.rows ≡ take (listed_count (negative_count rows)) rows → AreFailing t.design kind f
failing_for s t same num linked ends m kind count rows worst enough f number listed =
    failing_told t.design kind there (least_slack None (map (slack_in kind) ends)) (least_told t (subst IsNumbered same num) there kind ends m) count rows worst.worst enough f number listed
  where
    there : IsLinked t.design
    there = subst (λ (x : Stored). IsLinked x.design) same linked

-- what the question for the worst is told
worst_as : (d : Design) (kind : Kind) (count : ℕ) (rows : List EndRow) → Told d (Worst kind count) (Ends rows) → AreWorstRows d kind count rows
worst_as d kind count rows told =
    record { worst = subst (λ (rs : List EndRow). AreWorst d kind count rs) (sym (same_ends rows told.1.0 told.1.2)) told.1.1 }
  where
    same_ends : (a b : List EndRow) → Ends a ≡ Ends b → a ≡ b
    same_ends a b e = cc

pub worst_of : (d : Design) (kind : Kind) (count : ℕ) (q : Query) (r : Report) {rows : List EndRow} → q ≡ Worst kind count → r ≡ Ends rows → Told d q r → AreWorstRows d kind count rows
worst_of d kind count q r {rows} asked is told =
    worst_as d kind count rows (subst (λ (x : Report). Told d (Worst kind count) x) is (subst (λ (x : Query). Told d x r) asked told))

-- the same by what the rows are cut with
pub failing_cut : (s t : Stored) → s ≡ t → IsNumbered s → IsLinked s.design → (ends : List EndSlacks) → IsMap (IsEnd t) (ends_of t) ends → (kind : Kind) (count : ℕ) (rows slice : List EndRow)
    → AreWorstRows t.design kind count rows → slice ≡ rows → (negative : ℕ) → negative ≡ negative_count slice → negative < count
    → (listed : ℕ) → listed ≡ listed_count negative → (first : List EndRow) → first ≡ take listed rows
    → AreFailing t.design kind (record { count = negative; rows = first })
failing_cut s t same num linked ends m kind count rows slice worst whole negative is enough listed cut first told =
    failing_for s t same num linked ends m kind count rows worst (subst (λ n. n < count) number enough) (record { count = negative; rows = first }) number
    (told ∙ ap (λ n. take n rows) (cut ∙ ap listed_count number))
  where
    number : negative ≡ negative_count rows
    number = is ∙ ap negative_count whole
