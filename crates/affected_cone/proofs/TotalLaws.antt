-- The totals over the endpoints of a store are those over the endpoints of its design.

use Rattle.std.proofs.Common.{◌≡◌, ℕ, ◌+◌, ℤ, pos, Bool, true, false, cond, not, List, [], ◌∷◌, map, filter, length, None, refl, sym, ap, subst, ◌∙◌, inl, inr, arith}
use Rattle.std.specs.Prelude.{nat_eq, count_by, Contains, ◌&&◌, ◌||◌, if◌then◌else◌, negsuc, ◌-◌, ◌^◌}
use Rattle.std.specs.List.{list_any}
use Rattle.std.specs.Option.{unwrap_or}
use Rattle.std.specs.Int.{int_max}
use Rattle.std.specs.Str.{bytes_eq}
use Rattle.std.proofs.lemmas.Bool.{cases_Bool, false≢true, and_parts, not-true, eqb-true}
use Rattle.timing_defs.specs.declared.kinds.Kind.{Kind}
use Rattle.timing_defs.specs.declared.kinds.Kind.TheVariants.{Setup, Hold}
use Rattle.timing_defs.specs.declared.scripts.Totals.{Totals}
use Rattle.timing_defs.specs.Netlist.{Pin, name_of, pins, is_listed, are_distinct}
use Rattle.timing_rules.specs.Tests.{is_endpoint}
use Rattle.timing_rules.specs.Reports.{AreSlacks, IsWns, IsTns, AreTotals, least_slack}
use Rattle.timing_rules.specs.Rows.{as_fs}
use Rattle.timing_defs.proofs.ListLemmas.{bool_iff}
use Rattle.netlist_store.specs.Linked.{IsLinked}
use Rattle.netlist_store.specs.Numbering.{Stored, name_at, number_of, IsNumbered}
use Rattle.level_workers.specs.Mapped.{IsMap}
use Rattle.store_pins.proofs.PinNames.{pins_apart}
use Rattle.timing_defs.proofs.Members.{some_is, first_in, later_in, in_filter, passes_in, kept_in, any_in, any_back, listed_in}
use Rattle.store_pins.proofs.PinLaws.{HasNumber, pin_told}
use Rattle.affected_cone.specs.declared.ends.EndSlacks.{EndSlacks}
use Rattle.affected_cone.specs.Analysed.{is_end, ends_of, slack_in, IsEnd}
use Rattle.affected_cone.specs.Floors.{floored}
use Rattle.affected_cone.proofs.EndNumbers.{end_pin, pin_end, end_listed, listed_end}
use Rattle.affected_cone.proofs.SumLaws.{count_cons, reordered, AreReordered, total_is}
use Rattle.affected_cone.proofs.RisingLists.{rises, once}

-- distinct names stay distinct in a part
unlisted_part : (keep : Pin → Bool) (xs : List Pin) (q : List ℕ) → is_listed (map name_of xs) q ≡ false → is_listed (map name_of (filter keep xs)) q ≡ false
unlisted_part keep [] q h = refl
unlisted_part keep (x ∷ xs) q h = elim (cases_Bool (bytes_eq q (name_of x))) [
  | inl e ↦
      let bad : true ≡ false = rw e at h in
      absurd (false≢true (sym bad))
  | inr e ↦
      let rest : is_listed (map name_of xs) q ≡ false = rw e at h in
      elim (cases_Bool (keep x)) [
        | inl k ↦ rw (k, e) (unlisted_part keep xs q rest)
        | inr k ↦ rw k (unlisted_part keep xs q rest)
      ]
]

distinct_part : (keep : Pin → Bool) (xs : List Pin) → are_distinct (map name_of xs) ≡ true → are_distinct (map name_of (filter keep xs)) ≡ true
distinct_part keep [] h = refl
distinct_part keep (x ∷ xs) h =
    let parts = and_parts (not (is_listed (map name_of xs) (name_of x))) (are_distinct (map name_of xs)) h in
    let none = unlisted_part keep xs (name_of x) (not-true (is_listed (map name_of xs) (name_of x)) parts.0) in
    elim (cases_Bool (keep x)) [
      | inl k ↦ rw k (ap (λ b. not b && are_distinct (map name_of (filter keep xs))) none ∙ distinct_part keep xs parts.1)
      | inr k ↦ rw k (distinct_part keep xs parts.1)
    ]

module _ (s : Stored) (num : IsNumbered s) (linked : IsLinked s.design) where
  number : Pin → ℕ
  number p = unwrap_or (number_of s.pins (name_of p)) 0

  numbered : (p : Pin) → Contains (pins s.design) p → HasNumber s p (number p)
  unfolding number
  numbered p c =
      let n = pin_told s num linked p c in
      subst (λ (m : ℕ). HasNumber s p m) (sym (ap (λ o. unwrap_or o 0) n.1.number)) n.1

  -- the number of a pin stands once among those of distinct pins
  once_among : (n : ℕ) (qs : List Pin) → are_distinct (map name_of qs) ≡ true → ((q : Pin) → Contains qs q → Contains (pins s.design) q)
      → count_by (nat_eq n) (map number qs) ≡ (if list_any (λ q. nat_eq n (number q)) qs then 1 else 0)
  once_among n [] apart there = refl
  once_among n (q ∷ qs) apart there =
      let parts = and_parts (not (is_listed (map name_of qs) (name_of q))) (are_distinct (map name_of qs)) apart in
      let rest = once_among n qs parts.1 (λ r c. there r (later_in q qs r c)) in
      let here = count_cons n (number q) (map number qs) in
      elim (cases_Bool (nat_eq n (number q))) [
        | inl h ↦
            let others : list_any (λ r. nat_eq n (number r)) qs ≡ false = elim (cases_Bool (list_any (λ r. nat_eq n (number r)) qs)) [
              | inl any ↦
                  let r = any_back (λ r. nat_eq n (number r)) qs any in
                  let same : number q ≡ number r.item = sym (eqb-true n (number q) h) ∙ eqb-true n (number r.item) r.passes in
                  let a = numbered q (there q (first_in q qs)) in
                  let b = numbered r.item (there r.item (later_in q qs r.item r.within)) in
                  let names : name_of r.item ≡ name_of q = some_is (sym b.name ∙ ap (name_at s.pins) (sym same) ∙ a.name) in
                  let twice : is_listed (map name_of qs) (name_of q) ≡ true = ap (is_listed (map name_of qs)) (sym names) ∙ listed_in name_of qs r.item r.within in
                  absurd (false≢true (sym (not-true (is_listed (map name_of qs) (name_of q)) parts.0) ∙ twice))
              | inr none ↦ none
            ] in
            here ∙ ap (λ b. cond {A = ℕ} b 1 0 + count_by (nat_eq n) (map number qs)) h
            ∙ ap (λ m. 1 + m) (rest ∙ ap (λ b. if b then 1 else 0) others)
            ∙ (let e : 1 + 0 ≡ 1 = omega arith in e)
            ∙ sym (ap (λ b. if b || list_any (λ r. nat_eq n (number r)) qs then 1 else 0) h)
        | inr h ↦
            here ∙ ap (λ b. cond {A = ℕ} b 1 0 + count_by (nat_eq n) (map number qs)) h
            ∙ (let e : 0 + count_by (nat_eq n) (map number qs) ≡ count_by (nat_eq n) (map number qs) = omega arith in e) ∙ rest
            ∙ sym (ap (λ b. if b || list_any (λ r. nat_eq n (number r)) qs then 1 else 0) h)
      ]

  abbrev end_pins : List Pin
  end_pins = filter (is_endpoint s.design) (pins s.design)

  of_pins : (q : Pin) → Contains end_pins q → Contains (pins s.design) q
  of_pins q c = kept_in (is_endpoint s.design) (pins s.design) q c

  is_among : (n : ℕ) → list_any (nat_eq n) (ends_of s) ≡ list_any (λ q. nat_eq n (number q)) end_pins
  unfolding number
  is_among n =
      bool_iff (list_any (nat_eq n) (ends_of s)) (list_any (λ q. nat_eq n (number q)) end_pins)
      (λ e. let r = any_back (nat_eq n) (ends_of s) e in
      let p = end_pin s num linked r.item (listed_end s num linked r.item r.within) in
      let own : number p.pin ≡ r.item = ap (λ o. unwrap_or o 0) p.has.number in
      any_in (λ q. nat_eq n (number q)) end_pins p.pin (in_filter (is_endpoint s.design) (pins s.design) p.pin p.has.within p.end)
      (ap (nat_eq n) own ∙ r.passes))
      (λ e. let r = any_back (λ q. nat_eq n (number q)) end_pins e in
      let has = numbered r.item (of_pins r.item r.within) in
      let end = pin_end s num linked r.item (number r.item) has (passes_in (is_endpoint s.design) (pins s.design) r.item r.within) in
      any_in (nat_eq n) (ends_of s) (number r.item) (end_listed s num linked (number r.item) end) r.passes)

  same_counts : (n : ℕ) → count_by (nat_eq n) (ends_of s) ≡ count_by (nat_eq n) (map number end_pins)
  same_counts n =
      once n (ends_of s) (rises (is_end s) 0 (length s.pins)) ∙ ap (λ b. if b then 1 else 0) (is_among n)
      ∙ sym (once_among n end_pins (distinct_part (is_endpoint s.design) (pins s.design) (pins_apart s.design linked)) of_pins)

  slacks_told : (kind : Kind) (qs : List Pin) (ends : List EndSlacks) → ((q : Pin) → Contains qs q → Contains (pins s.design) q)
      → IsMap (IsEnd s) (map number qs) ends → AreSlacks s.design kind (map name_of qs) (map (slack_in kind) ends)
  slacks_told kind [] [] there m = tt
  slacks_told kind [] (e ∷ ends) there m = absurd m
  slacks_told kind (q ∷ qs) [] there m = absurd m
  slacks_told kind (q ∷ qs) (e ∷ ends) there m = (
    m.0.slack kind (name_of q) (numbered q (there q (first_in q qs))).name,
    slacks_told kind qs ends (λ r c. there r (later_in q qs r c)) m.1,
  )

  module _ (kind : Kind) (ends : List EndSlacks) (m : IsMap (IsEnd s) (ends_of s) ends) where
    in_their_order : AreReordered (IsEnd s) (slack_in kind) (map number end_pins) ends
    in_their_order = reordered (IsEnd s) (slack_in kind) (map number end_pins) (ends_of s) ends m same_counts

    pub least_told : IsWns s.design kind (least_slack None (map (slack_in kind) ends))
    least_told =
        let r = in_their_order in
        (map (slack_in kind) r.list, slacks_told kind end_pins r.list of_pins r.mapped, r.least None)

    pub total_told : IsTns s.design kind (floored (pos 0) (map (slack_in kind) ends))
    total_told =
        let r = in_their_order in (
          map (slack_in kind) r.list,
          slacks_told kind end_pins r.list of_pins r.mapped,
          total_is (map (slack_in kind) ends) ∙ ap (int_max (negsuc (2 ^ 63 - 2))) r.sum,
        )

  -- the totals of both kinds
  pub totals_told : (ends told : List EndSlacks) → told ≡ ends → IsMap (IsEnd s) (ends_of s) ends → (number : ℕ) (t : Totals) → t.number ≡ number
      → t.setup_wns ≡ as_fs (least_slack None (map (slack_in Setup) told)) → t.setup_tns.0 ≡ floored (pos 0) (map (slack_in Setup) told)
      → t.hold_wns ≡ as_fs (least_slack None (map (slack_in Hold) told)) → t.hold_tns.0 ≡ floored (pos 0) (map (slack_in Hold) told)
      → AreTotals s.design number t
  totals_told ends told same m number t n a b c e =
      let k = subst (λ (es : List EndSlacks). IsMap (IsEnd s) (ends_of s) es) (sym same) m in (
        n,
        (least_slack None (map (slack_in Setup) told), least_told Setup told k, a),
        subst (λ (z : ℤ). IsTns s.design Setup z) (sym b) (total_told Setup told k),
        (least_slack None (map (slack_in Hold) told), least_told Hold told k, c),
        subst (λ (z : ℤ). IsTns s.design Hold z) (sym e) (total_told Hold told k),
      )
