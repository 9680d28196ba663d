-- Each endpoint of a design has its number once among those of a store.

use Rattle.std.proofs.Common.{◌≡◌, ℕ, ◌+◌, ℤ, Bool, true, false, cond, not, List, [], ◌∷◌, map, filter, length, Option, refl, sym, ap, subst, ◌∙◌, inl, inr, arith}
use Rattle.std.specs.Prelude.{nat_eq, count_by, Contains, ◌&&◌, ◌||◌, if◌then◌else◌}
use Rattle.std.specs.List.{list_any}
use Rattle.std.specs.Option.{unwrap_or}
use Rattle.std.specs.Str.{bytes_eq}
use Rattle.std.proofs.lemmas.Bool.{cases_Bool, false≢true, and_parts, not-true, eqb-true}
use Rattle.timing_defs.specs.declared.kinds.Kind.{Kind}
use Rattle.timing_defs.specs.declared.design.Design.{Design}
use Rattle.timing_defs.specs.Netlist.{Pin, name_of, pins, is_listed, are_distinct}
use Rattle.timing_defs.proofs.ListLemmas.{bool_iff}
use Rattle.timing_defs.proofs.Members.{some_is, first_in, later_in, in_filter, passes_in, kept_in, any_in, any_back, listed_in}
use Rattle.timing_rules.specs.Reports.{endpoints, least_slack, negative_sum}
use Rattle.timing_rules.specs.Summaries.{Captured, AreCaptured}
use Rattle.timing_rules.specs.Tests.{is_endpoint}
use Rattle.netlist_store.specs.Linked.{IsLinked}
use Rattle.netlist_store.specs.Numbering.{Stored, name_at, number_of, IsNumbered}
use Rattle.store_pins.proofs.PinNames.{pins_apart}
use Rattle.store_pins.proofs.PinLaws.{HasNumber, pin_told}
use Rattle.level_workers.specs.Mapped.{IsMap}
use Rattle.affected_cone.specs.Analysed.{is_end, ends_of}
use Rattle.affected_cone.proofs.EndNumbers.{end_pin, pin_end, end_listed, listed_end}
use Rattle.affected_cone.proofs.RisingLists.{rises, once}
use Rattle.clock_summaries.specs.Captures.{IsCapturedAt}
use Rattle.clock_summaries.proofs.Reordering.{count_more, reordered}

-- distinct names stay distinct in a part
unlisted_part : (keep : Pin → Bool) (xs : List Pin) (q : List ℕ) → is_listed (map name_of xs) q ≡ false → is_listed (map name_of (filter keep xs)) q ≡ false
unlisted_part keep [] q h = refl
unlisted_part keep (x ∷ xs) q h = elim (cases_Bool (bytes_eq q (name_of x))) [
  | inl e ↦
      let bad : true ≡ false = rw e at h in
      absurd (false≢true (sym bad))
  | inr e ↦
      let rest : is_listed (map name_of xs) q ≡ false = rw e at h in
      elim (cases_Bool (keep x)) [
        | inl k ↦ rw (k, e) (unlisted_part keep xs q rest)
        | inr k ↦ rw k (unlisted_part keep xs q rest)
      ]
]

distinct_part : (keep : Pin → Bool) (xs : List Pin) → are_distinct (map name_of xs) ≡ true → are_distinct (map name_of (filter keep xs)) ≡ true
distinct_part keep [] h = refl
distinct_part keep (x ∷ xs) h =
    let parts = and_parts (not (is_listed (map name_of xs) (name_of x))) (are_distinct (map name_of xs)) h in
    let none = unlisted_part keep xs (name_of x) (not-true (is_listed (map name_of xs) (name_of x)) parts.0) in
    elim (cases_Bool (keep x)) [
      | inl k ↦ rw k (ap (λ b. not b && are_distinct (map name_of (filter keep xs))) none ∙ distinct_part keep xs parts.1)
      | inr k ↦ rw k (distinct_part keep xs parts.1)
    ]

-- what captures the endpoints of a design, in their order, with the counts and sums of a list
pub record AreOfDesign (d : Design) (kind : Kind) (cs : List Captured) : Type 0 where
  pub list : List Captured
  pub are : AreCaptured d kind (endpoints d) list
  pub count : (p : Captured → Bool) → count_by p cs ≡ count_by p list
  pub sum : (w : Captured → Option ℤ) → negative_sum (map w cs) ≡ negative_sum (map w list)
  pub least : (w : Captured → Option ℤ) (b : Option ℤ) → least_slack b (map w cs) ≡ least_slack b (map w list)

module _ (s : Stored) (num : IsNumbered s) (linked : IsLinked s.design) where
  number : Pin → ℕ
  number p = unwrap_or (number_of s.pins (name_of p)) 0

  numbered : (p : Pin) → Contains (pins s.design) p → HasNumber s p (number p)
  unfolding number
  numbered p c =
      let n = pin_told s num linked p c in
      subst (λ (m : ℕ). HasNumber s p m) (sym (ap (λ o. unwrap_or o 0) n.1.number)) n.1

  -- the number of a pin stands once among those of distinct pins
  once_among : (n : ℕ) (qs : List Pin) → are_distinct (map name_of qs) ≡ true → ((q : Pin) → Contains qs q → Contains (pins s.design) q)
      → count_by (nat_eq n) (map number qs) ≡ (if list_any (λ q. nat_eq n (number q)) qs then 1 else 0)
  once_among n [] apart there = refl
  once_among n (q ∷ qs) apart there =
      let parts = and_parts (not (is_listed (map name_of qs) (name_of q))) (are_distinct (map name_of qs)) apart in
      let rest = once_among n qs parts.1 (λ r c. there r (later_in q qs r c)) in
      let here = count_more (nat_eq n) (number q) (map number qs) in
      elim (cases_Bool (nat_eq n (number q))) [
        | inl h ↦
            let others : list_any (λ r. nat_eq n (number r)) qs ≡ false = elim (cases_Bool (list_any (λ r. nat_eq n (number r)) qs)) [
              | inl any ↦
                  let r = any_back (λ r. nat_eq n (number r)) qs any in
                  let same : number q ≡ number r.item = sym (eqb-true n (number q) h) ∙ eqb-true n (number r.item) r.passes in
                  let a = numbered q (there q (first_in q qs)) in
                  let b = numbered r.item (there r.item (later_in q qs r.item r.within)) in
                  let names : name_of r.item ≡ name_of q = some_is (sym b.name ∙ ap (name_at s.pins) (sym same) ∙ a.name) in
                  let twice : is_listed (map name_of qs) (name_of q) ≡ true = ap (is_listed (map name_of qs)) (sym names) ∙ listed_in name_of qs r.item r.within in
                  absurd (false≢true (sym (not-true (is_listed (map name_of qs) (name_of q)) parts.0) ∙ twice))
              | inr none ↦ none
            ] in
            here ∙ ap (λ b. cond {A = ℕ} b 1 0 + count_by (nat_eq n) (map number qs)) h
            ∙ ap (λ m. 1 + m) (rest ∙ ap (λ b. if b then 1 else 0) others)
            ∙ (let e : 1 + 0 ≡ 1 = omega arith in e)
            ∙ sym (ap (λ b. if b || list_any (λ r. nat_eq n (number r)) qs then 1 else 0) h)
        | inr h ↦
            here ∙ ap (λ b. cond {A = ℕ} b 1 0 + count_by (nat_eq n) (map number qs)) h
            ∙ (let e : 0 + count_by (nat_eq n) (map number qs) ≡ count_by (nat_eq n) (map number qs) = omega arith in e) ∙ rest
            ∙ sym (ap (λ b. if b || list_any (λ r. nat_eq n (number r)) qs then 1 else 0) h)
      ]

  abbrev end_pins : List Pin
  end_pins = filter (is_endpoint s.design) (pins s.design)

  of_pins : (q : Pin) → Contains end_pins q → Contains (pins s.design) q
  of_pins q c = kept_in (is_endpoint s.design) (pins s.design) q c

  is_among : (n : ℕ) → list_any (nat_eq n) (ends_of s) ≡ list_any (λ q. nat_eq n (number q)) end_pins
  unfolding number
  is_among n =
      bool_iff (list_any (nat_eq n) (ends_of s)) (list_any (λ q. nat_eq n (number q)) end_pins)
      (λ e. let r = any_back (nat_eq n) (ends_of s) e in
      let p = end_pin s num linked r.item (listed_end s num linked r.item r.within) in
      let own : number p.pin ≡ r.item = ap (λ o. unwrap_or o 0) p.has.number in
      any_in (λ q. nat_eq n (number q)) end_pins p.pin (in_filter (is_endpoint s.design) (pins s.design) p.pin p.has.within p.end)
      (ap (nat_eq n) own ∙ r.passes))
      (λ e. let r = any_back (λ q. nat_eq n (number q)) end_pins e in
      let has = numbered r.item (of_pins r.item r.within) in
      let end = pin_end s num linked r.item (number r.item) has (passes_in (is_endpoint s.design) (pins s.design) r.item r.within) in
      any_in (nat_eq n) (ends_of s) (number r.item) (end_listed s num linked (number r.item) end) r.passes)

  same_counts : (n : ℕ) → count_by (nat_eq n) (ends_of s) ≡ count_by (nat_eq n) (map number end_pins)
  same_counts n =
      once n (ends_of s) (rises (is_end s) 0 (length s.pins)) ∙ ap (λ b. if b then 1 else 0) (is_among n)
      ∙ sym (once_among n end_pins (distinct_part (is_endpoint s.design) (pins s.design) (pins_apart s.design linked)) of_pins)

  captured_by_pins : (kind : Kind) (qs : List Pin) (cs : List Captured) → ((q : Pin) → Contains qs q → Contains (pins s.design) q)
      → IsMap (IsCapturedAt s kind) (map number qs) cs → AreCaptured s.design kind (map name_of qs) cs
  captured_by_pins kind [] [] there m = tt
  captured_by_pins kind [] (c ∷ cs) there m = absurd m
  captured_by_pins kind (q ∷ qs) [] there m = absurd m
  captured_by_pins kind (q ∷ qs) (c ∷ cs) there m = (
    m.0 (name_of q) (numbered q (there q (first_in q qs))).name,
    captured_by_pins kind qs cs (λ r k. there r (later_in q qs r k)) m.1,
  )

  -- what captures the endpoints, in the order of the design
  pub in_their_order : (kind : Kind) (cs : List Captured) → IsMap (IsCapturedAt s kind) (ends_of s) cs → AreOfDesign s.design kind cs
  in_their_order kind cs m =
      let r = reordered (IsCapturedAt s kind) (map number end_pins) (ends_of s) cs m same_counts in
      record {
        list = r.list;
        are = captured_by_pins kind end_pins r.list of_pins r.mapped;
        count = r.count;
        sum = r.sum;
        least = r.least;
      }
