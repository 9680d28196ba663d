-- The links into and out of one pin are those of all links that end or begin there.

use Rattle.std.proofs.Common.{◌≡◌, ℕ, zero, suc, ◌+◌, ◌<◌, ◌==◌, Bool, true, false, List, [], ◌∷◌, ◌++◌, map, filter, length, Option, None, Some, refl, sym, ap, subst, ◌∙◌, inl, inr, arith}
use Rattle.std.specs.Prelude.{nat_eq, option_map, ◌&&◌, ◌||◌, if◌then◌else◌, Contains}
use Rattle.std.specs.List.{list_any, filter_map, range_with_len}
use Rattle.std.specs.Option.{option_to_list}
use Rattle.std.proofs.lemmas.Bool.{cases_Bool, cases_eq, false≢true, and_parts, and_from, eqb-true, eq-eqb, ne_eqb}
use Rattle.std.proofs.lemmas.Cmp.{nat_eq_equiv}
use Rattle.std.proofs.lemmas.List.{append-nil}
use Rattle.std.proofs.lemmas.List.Elements.{Contains-append_left, Contains-append_right, Contains-append_cases}
use Rattle.std.proofs.lemmas.List.Folds.{list_any-append}
use Rattle.netlist_store.specs.Numbering.{Stored}
use Rattle.levelizer.specs.declared.links.Link.{Link}
use Rattle.levelizer.specs.Levels.{fan_in}
use Rattle.levelizer.specs.Reaching.{has_mark, is_led_to}
use Rattle.pin_graph.specs.declared.pin_arcs.PinArc.{PinArc}
use Rattle.pin_graph.specs.Joins.{pin_arcs, before, link_from, link_into, net_links, link_of, pin_links}
use Rattle.pin_graph.specs.Networks.{is_comb_arc, comb_link, network_links, turned}
use Rattle.pin_graph.specs.Pulls.{arcs_into, arcs_from, from_pin, to_pin, pins_before, is_driven_by, sinks_of, pins_behind, network_tails, network_heads}
use Rattle.timing_defs.proofs.Members.{some_is, in_map, in_map_back, in_filter_map, in_filter_map_back, in_filter, passes_in, kept_in, any_in, any_back, number_in}
use Rattle.pin_graph.proofs.JoinLaws.{mapped_back}
use Rattle.pin_graph.proofs.WalkLaws.{both_same}
use Rattle.pin_graph.proofs.ArcLaws.{mapped_numbers_more}
use Rattle.pin_graph.proofs.PullLaws.{driven_so, driven_by}

-- of arcs that are made links
link_ends : (arcs : List PinArc) (pin : ℕ) → fan_in (map link_of arcs) pin ≡ map from_pin (filter (λ arc. arc.to == pin) arcs)
link_ends [] pin = refl
link_ends (a ∷ more) pin = elim (cases_Bool (a.to == pin)) [
  | inl e ↦ rw e (ap (λ xs. a.from ∷ xs) (link_ends more pin))
  | inr e ↦ rw e (link_ends more pin)
]

fan_in_both : (xs ys : List Link) (pin : ℕ) → fan_in (xs ++ ys) pin ≡ fan_in xs pin ++ fan_in ys pin
fan_in_both [] ys pin = refl
fan_in_both (x ∷ xs) ys pin = elim (cases_Bool (x.to == pin)) [
  | inl e ↦ rw e (ap (λ zs. x.from ∷ zs) (fan_in_both xs ys pin))
  | inr e ↦ rw e (fan_in_both xs ys pin)
]

module _ (s : Stored) where
  -- the net arc into a pin, of those into the pins below a bound
  abbrev empty : List ℕ
  empty = []

  one_end : (n pin : ℕ) → fan_in (option_to_list (link_into s n)) pin ≡ (if n == pin then option_to_list (before s n) else [])
  one_end n pin = by (before s n)
    where
      none : (b : Bool) → empty ≡ (if b then empty else empty)
      none true = refl
      none false = refl

      by : (o : Option ℕ) → fan_in (option_to_list (option_map (link_from n) o)) pin ≡ (if n == pin then option_to_list o else [])
      by None = none (n == pin)
      by (Some from) = elim (cases_Bool (n == pin)) [ inl e ↦ rw e refl | inr e ↦ rw e refl ]

  links_more : (n : ℕ) → filter_map (link_into s) (range_with_len 0 (suc n)) ≡ filter_map (link_into s) (range_with_len 0 n) ++ option_to_list (link_into s n)
  links_more n =
      let e : suc n ≡ n + 1 = omega arith in
      ap (λ k. filter_map (link_into s) (range_with_len 0 k)) e
      ∙ sym (mapped_numbers_more (link_into s) n (filter_map (link_into s) (range_with_len 0 n)) (filter_map (link_into s) (range_with_len 0 n) ++ option_to_list (link_into s n))
      (link_into s n) refl refl refl)

  ends_more : (n pin : ℕ) → fan_in (filter_map (link_into s) (range_with_len 0 (suc n))) pin
      ≡ fan_in (filter_map (link_into s) (range_with_len 0 n)) pin ++ (if n == pin then option_to_list (before s n) else [])
  ends_more n pin =
      ap (λ ls. fan_in ls pin) (links_more n)
      ∙ fan_in_both (filter_map (link_into s) (range_with_len 0 n)) (option_to_list (link_into s n)) pin
      ∙ ap (λ xs. fan_in (filter_map (link_into s) (range_with_len 0 n)) pin ++ xs) (one_end n pin)

  net_none : (n pin : ℕ) → n < pin + 1 → fan_in (filter_map (link_into s) (range_with_len 0 n)) pin ≡ []
  net_none zero pin low = refl
  net_none (suc n) pin low =
      ends_more n pin
      ∙ ap (λ b. fan_in (filter_map (link_into s) (range_with_len 0 n)) pin ++ (if b then option_to_list (before s n) else [])) (ne_eqb n pin (λ e. omega arith))
      ∙ append-nil (fan_in (filter_map (link_into s) (range_with_len 0 n)) pin) ∙ net_none n pin (omega arith)

  net_ends : (n pin : ℕ) → pin < n → fan_in (filter_map (link_into s) (range_with_len 0 n)) pin ≡ option_to_list (before s pin)
  net_ends zero pin low = absurd (omega arith)
  net_ends (suc n) pin low = elim (cases_eq n pin) [
    | inl same ↦
        ends_more n pin
        ∙ ap (λ b. fan_in (filter_map (link_into s) (range_with_len 0 n)) pin ++ (if b then option_to_list (before s n) else [])) (eq-eqb n pin same)
        ∙ ap (λ xs. xs ++ option_to_list (before s n)) (net_none n pin (omega arith)) ∙ ap (λ k. option_to_list (before s k)) same
    | inr other ↦
        ends_more n pin
        ∙ ap (λ b. fan_in (filter_map (link_into s) (range_with_len 0 n)) pin ++ (if b then option_to_list (before s n) else [])) (ne_eqb n pin other)
        ∙ append-nil (fan_in (filter_map (link_into s) (range_with_len 0 n)) pin) ∙ net_ends n pin (omega arith)
  ]

  -- the pins from which links lead to a pin
  pub fan_in_is : (pin : ℕ) → pin < length s.pins → fan_in (pin_links s) pin ≡ pins_before s pin
  fan_in_is pin low =
      fan_in_both (net_links s) (map link_of (pin_arcs s)) pin
      ∙ (λ k. net_ends (length s.pins) pin low k ++ link_ends (pin_arcs s) pin k)

-- the combinational arcs among those that are made links
comb_ends : (arcs : List PinArc) (pin : ℕ) → fan_in (filter_map comb_link arcs) pin ≡ map from_pin (filter is_comb_arc (filter (λ arc. arc.to == pin) arcs))
comb_ends [] pin = refl
comb_ends (a ∷ more) pin = elim (cases_Bool (is_comb_arc a)) [
  | inl c ↦ elim (cases_Bool (a.to == pin)) [
    | inl e ↦ rw c (rw e (rw c (ap (λ xs. a.from ∷ xs) (comb_ends more pin))))
    | inr e ↦ rw c (rw e (comb_ends more pin))
  ]
  | inr c ↦ elim (cases_Bool (a.to == pin)) [
    | inl e ↦ rw c (rw e (rw c (comb_ends more pin)))
    | inr e ↦ rw c (rw e (comb_ends more pin))
  ]
]

-- whether an arc leads from a marked one, by the list of those from which arcs lead
led_by : (links : List Link) (marks : List Bool) (pin : ℕ) → is_led_to links marks pin ≡ list_any (has_mark marks) (fan_in links pin)
led_by [] marks pin = refl
led_by (l ∷ ls) marks pin = elim (cases_Bool (nat_eq l.to pin)) [
  | inl e ↦ rw e (ap (λ b. has_mark marks l.from || b) (led_by ls marks pin))
  | inr e ↦ rw e (led_by ls marks pin)
]

module _ (s : Stored) where
  pub network_in_is : (pin : ℕ) → pin < length s.pins → fan_in (network_links s) pin ≡ network_tails s pin
  network_in_is pin low =
      fan_in_both (net_links s) (filter_map comb_link (pin_arcs s)) pin
      ∙ (λ k. net_ends s (length s.pins) pin low k ++ comb_ends (pin_arcs s) pin k)

  -- whether clocks go to a pin from a marked one
  pub led_from : (marks : List Bool) (pin : ℕ) → pin < length s.pins → is_led_to (network_links s) marks pin ≡ list_any (has_mark marks) (network_tails s pin)
  led_from marks pin low = led_by (network_links s) marks pin ∙ ap (list_any (has_mark marks)) (network_in_is pin low)

  -- whether clocks go from a pin to a marked one
  turned_in : (l : Link) (pin : ℕ) → Contains (network_links s) l → l.from ≡ pin → Contains (network_heads s pin) l.to
  turned_in l pin c e = elim (Contains-append_cases (net_links s) (filter_map comb_link (pin_arcs s)) l c) [
    | inl h ↦
        let m = in_filter_map_back (link_into s) (range_with_len 0 (length s.pins)) l h in
        let f = mapped_back (link_from m.item) (before s m.item) l m.same in
        let from : f.0 ≡ pin = ap (λ (x : Link). x.from) f.2 ∙ e in
        let to : m.item ≡ l.to = ap (λ (x : Link). x.to) f.2 in
        Contains-append_left (sinks_of s pin) (map to_pin (filter is_comb_arc (arcs_from s pin))) l.to
        (subst (λ (q : ℕ). Contains (sinks_of s pin) q) to
        (in_filter (is_driven_by s pin) (range_with_len 0 (length s.pins)) m.item m.within (driven_by s pin m.item (f.1 ∙ ap Some from))))
    | inr h ↦
        let m = in_filter_map_back comb_link (pin_arcs s) l h in
        let k = comb_told m.item m.same in
        let from : m.item.from ≡ pin = ap (λ (x : Link). x.from) k.1 ∙ e in
        Contains-append_right (sinks_of s pin) (map to_pin (filter is_comb_arc (arcs_from s pin))) l.to
        (subst (λ (q : ℕ). Contains (map to_pin (filter is_comb_arc (arcs_from s pin))) q) (ap (λ (x : Link). x.to) k.1)
        (in_map to_pin (filter is_comb_arc (arcs_from s pin)) m.item
        (in_filter is_comb_arc (arcs_from s pin) m.item (in_filter (λ arc. arc.from == pin) (pin_arcs s) m.item m.within (eq-eqb m.item.from pin from)) k.0)))
  ]
    where
      comb_told : (a : PinArc) → comb_link a ≡ Some l → (is_comb_arc a ≡ true) × (link_of a ≡ l)
      comb_told a h = elim (cases_Bool (is_comb_arc a)) [
        | inl f ↦ let g : Some (link_of a) ≡ Some l = rw f at h in (f, some_is g)
        | inr f ↦ let g : None ≡ Some l = rw f at h in absurd (cc)
      ]

  turned_back : (pin q : ℕ) → Contains (network_heads s pin) q → Contains (network_links s) (link_from q pin)
  turned_back pin q c = elim (Contains-append_cases (sinks_of s pin) (map to_pin (filter is_comb_arc (arcs_from s pin))) q c) [
    | inl h ↦
        let is = driven_so s pin q (passes_in (is_driven_by s pin) (range_with_len 0 (length s.pins)) q h) in
        Contains-append_left (net_links s) (filter_map comb_link (pin_arcs s)) (link_from q pin)
        (in_filter_map (link_into s) (range_with_len 0 (length s.pins)) q (link_from q pin) (kept_in (is_driven_by s pin) (range_with_len 0 (length s.pins)) q h)
        (ap (option_map (link_from q)) is))
    | inr h ↦
        let m = in_map_back to_pin (filter is_comb_arc (arcs_from s pin)) q h in
        let comb = passes_in is_comb_arc (arcs_from s pin) m.item m.within in
        let d = kept_in is_comb_arc (arcs_from s pin) m.item m.within in
        let from = eqb-true m.item.from pin (passes_in (λ arc. arc.from == pin) (pin_arcs s) m.item d) in
        let made : comb_link m.item ≡ Some (link_from q pin) =
        ap (λ b. if b then Some (link_of m.item) else None) comb ∙ (λ k. Some (record { from = from k; to = m.same k })) in
        Contains-append_right (net_links s) (filter_map comb_link (pin_arcs s)) (link_from q pin)
        (in_filter_map comb_link (pin_arcs s) m.item (link_from q pin) (kept_in (λ arc. arc.from == pin) (pin_arcs s) m.item d) made)
  ]

  pub led_back : (marks : List Bool) (pin : ℕ) → is_led_to (map turned (network_links s)) marks pin ≡ list_any (has_mark marks) (network_heads s pin)
  led_back marks pin =
      both_same (is_led_to (map turned (network_links s)) marks pin) (list_any (has_mark marks) (network_heads s pin))
      (λ e.
      let r = any_back (λ (l : Link). nat_eq l.to pin && has_mark marks l.from) (map turned (network_links s)) e in
      let parts = and_parts (nat_eq r.item.to pin) (has_mark marks r.item.from) r.passes in
      let m = in_map_back turned (network_links s) r.item r.within in
      let from : m.item.from ≡ pin = ap (λ (x : Link). x.to) m.same ∙ eqb-true r.item.to pin parts.0 in
      any_in (has_mark marks) (network_heads s pin) m.item.to (turned_in m.item pin m.within from) (ap (λ (x : Link). has_mark marks x.from) m.same ∙ parts.1))
      (λ e.
      let r = any_back (has_mark marks) (network_heads s pin) e in
      any_in (λ (l : Link). nat_eq l.to pin && has_mark marks l.from) (map turned (network_links s)) (turned (link_from r.item pin))
      (in_map turned (network_links s) (link_from r.item pin) (turned_back pin r.item r.within))
      (and_from (nat_eq pin pin) (has_mark marks r.item) (nat_eq_equiv.refl pin) r.passes))

-- an arc that leads from one pin to another is at both
across : (xs ys : List PinArc) (f g : PinArc → ℕ) (a b : ℕ) → ((arc : PinArc) → Contains xs arc → f arc ≡ a → Contains ys arc × (g arc ≡ b))
    → list_any (nat_eq a) (map f xs) ≡ true → list_any (nat_eq b) (map g ys) ≡ true
across xs ys f g a b there e =
    let r = any_back (nat_eq a) (map f xs) e in
    let m = in_map_back f xs r.item r.within in
    let t = there m.item m.within (m.same ∙ sym (eqb-true a r.item r.passes)) in
    any_in (nat_eq b) (map g ys) (g m.item) (in_map g ys m.item t.0) (ap (nat_eq b) t.1 ∙ nat_eq_equiv.refl b)

module _ (s : Stored) (from to : ℕ) where
  goes_in : (arc : PinArc) → Contains (arcs_from s from) arc → arc.to ≡ to → Contains (arcs_into s to) arc × (arc.from ≡ from)
  goes_in arc c e = (
    in_filter (λ arc. arc.to == to) (pin_arcs s) arc (kept_in (λ arc. arc.from == from) (pin_arcs s) arc c) (eq-eqb arc.to to e),
    eqb-true arc.from from (passes_in (λ arc. arc.from == from) (pin_arcs s) arc c),
  )

  goes_out : (arc : PinArc) → Contains (arcs_into s to) arc → arc.from ≡ from → Contains (arcs_from s from) arc × (arc.to ≡ to)
  goes_out arc c e = (
    in_filter (λ arc. arc.from == from) (pin_arcs s) arc (kept_in (λ arc. arc.to == to) (pin_arcs s) arc c) (eq-eqb arc.from from e),
    eqb-true arc.to to (passes_in (λ arc. arc.to == to) (pin_arcs s) arc c),
  )

  arcs_across : list_any (nat_eq to) (map to_pin (arcs_from s from)) ≡ list_any (nat_eq from) (map from_pin (arcs_into s to))
  arcs_across =
      both_same (list_any (nat_eq to) (map to_pin (arcs_from s from))) (list_any (nat_eq from) (map from_pin (arcs_into s to)))
      (across (arcs_from s from) (arcs_into s to) to_pin from_pin to from goes_in)
      (across (arcs_into s to) (arcs_from s from) from_pin to_pin from to goes_out)

  comb_across : list_any (nat_eq to) (map to_pin (filter is_comb_arc (arcs_from s from))) ≡ list_any (nat_eq from) (map from_pin (filter is_comb_arc (arcs_into s to)))
  comb_across =
      both_same (list_any (nat_eq to) (map to_pin (filter is_comb_arc (arcs_from s from)))) (list_any (nat_eq from) (map from_pin (filter is_comb_arc (arcs_into s to))))
      (across (filter is_comb_arc (arcs_from s from)) (filter is_comb_arc (arcs_into s to)) to_pin from_pin to from (λ arc c e.
      let t = goes_in arc (kept_in is_comb_arc (arcs_from s from) arc c) e in
      (in_filter is_comb_arc (arcs_into s to) arc t.0 (passes_in is_comb_arc (arcs_from s from) arc c), t.1)))
      (across (filter is_comb_arc (arcs_into s to)) (filter is_comb_arc (arcs_from s from)) from_pin to_pin from to (λ arc c e.
      let t = goes_out arc (kept_in is_comb_arc (arcs_into s to) arc c) e in
      (in_filter is_comb_arc (arcs_from s from) arc t.0 (passes_in is_comb_arc (arcs_into s to) arc c), t.1)))

  sinks_across : to < length s.pins → list_any (nat_eq to) (sinks_of s from) ≡ list_any (nat_eq from) (option_to_list (before s to))
  sinks_across low =
      both_same (list_any (nat_eq to) (sinks_of s from)) (list_any (nat_eq from) (option_to_list (before s to)))
      (λ e.
      let r = any_back (nat_eq to) (sinks_of s from) e in
      let is = driven_so s from r.item (passes_in (is_driven_by s from) (range_with_len 0 (length s.pins)) r.item r.within) in
      ap (λ o. list_any (nat_eq from) (option_to_list o)) (ap (before s) (eqb-true to r.item r.passes) ∙ is) ∙ ap (λ b. b || false) (nat_eq_equiv.refl from))
      (λ e. at (before s to) refl e)
    where
      same : (d : ℕ) (b : Bool) → nat_eq from d ≡ b → (b || false) ≡ true → from ≡ d
      same d true h k = eqb-true from d h
      same d false h k = absurd (false≢true k)

      at : (o : Option ℕ) → before s to ≡ o → list_any (nat_eq from) (option_to_list o) ≡ true → list_any (nat_eq to) (sinks_of s from) ≡ true
      at None h k = absurd (false≢true k)
      at (Some d) h k =
          any_in (nat_eq to) (sinks_of s from) to
          (in_filter (is_driven_by s from) (range_with_len 0 (length s.pins)) to (number_in (length s.pins) to low)
          (driven_by s from to (h ∙ ap Some (sym (same d (nat_eq from d) refl k))))) (nat_eq_equiv.refl to)

  -- a pin is behind another where that is before it
  pub behind_before : to < length s.pins → list_any (nat_eq to) (pins_behind s from) ≡ list_any (nat_eq from) (pins_before s to)
  behind_before low =
      list_any-append (nat_eq to) (sinks_of s from) (map to_pin (arcs_from s from))
      ∙ (λ k. sinks_across low k || arcs_across k)
      ∙ sym (list_any-append (nat_eq from) (option_to_list (before s to)) (map from_pin (arcs_into s to)))

  pub heads_tails : to < length s.pins → list_any (nat_eq to) (network_heads s from) ≡ list_any (nat_eq from) (network_tails s to)
  heads_tails low =
      list_any-append (nat_eq to) (sinks_of s from) (map to_pin (filter is_comb_arc (arcs_from s from)))
      ∙ (λ k. sinks_across low k || comb_across k)
      ∙ sym (list_any-append (nat_eq from) (option_to_list (before s to)) (map from_pin (filter is_comb_arc (arcs_into s to))))
