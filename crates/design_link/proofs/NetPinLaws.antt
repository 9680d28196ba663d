-- The pins on a net by their numbers, and those that drive it.

use Rattle.std.proofs.Common.{◌≡◌, ℕ, ◌+◌, ◌<◌, ◌≤◌, Bool, true, false, not, cond, List, [], ◌∷◌, map, filter, length, get_or, take, Option, None, Some, refl, sym, ap, ◌∙◌, inl, inr, arith}
use Rattle.std.specs.Prelude.{is_some, nat_eq, nat_lt, option_and_then, option_map, ◌&&◌, if◌then◌else◌, All, Contains, count_by}
use Rattle.std.specs.Option.{option_map_or, unwrap_or}
use Rattle.std.specs.Str.{bytes_eq}
use Rattle.std.proofs.lemmas.Bool.{false≢true, and_parts, and_from, eq-eqb, not_from_false, false_from_ne_true}
use Rattle.std.proofs.lemmas.List.{take_more, length-map, length-append}
use Rattle.std.proofs.lemmas.List.Elements.{filter-append, All-contains}
use Rattle.std.proofs.lemmas.List.Sums.{sum_by-cons}
use Rattle.timing_defs.specs.declared.design.Design.{Design}
use Rattle.timing_defs.specs.Netlist.{Pin, name_of, pins, net_of, is_on, is_driver, drivers, driver, is_listed, are_distinct}
use Rattle.netlist_store.specs.Linked.{IsLinked}
use Rattle.netlist_store.specs.Numbering.{Stored, name_at, number_of, is_number, pin_numbered, net_number, is_on_number, IsNumbered}
use Rattle.store_pins.specs.Drivers.{drives_at}
use Rattle.timing_defs.proofs.SameNames.{same_self}
use Rattle.store_pins.proofs.PinNames.{pins_apart}
use Rattle.timing_defs.proofs.Members.{some_is, first_in, later_in, in_cases, none_in, in_map, in_map_back, in_filter, passes_in, kept_in}
use Rattle.store_pins.proofs.PinLaws.{HasNumber, told_at, there, pin_told, pin_of_number}
use Rattle.store_pins.proofs.DriverLaws.{on_net, on_at}
use Rattle.design_link.proofs.Orders.{in_listed, listed_in}
use Rattle.design_link.proofs.Lists.{bool_iff, same_names, distinct_filter}

-- the name of a pin by its number
abbrev pub called : Stored → ℕ → List ℕ
called s n = unwrap_or (name_at s.pins n) []

-- what is counted is a member
counted_cons : (n x : ℕ) (xs : List ℕ) → count_by (nat_eq n) (x ∷ xs) ≡ cond (nat_eq n x) 1 0 + count_by (nat_eq n) xs
counted_cons n x xs = sum_by-cons (λ y. cond (nat_eq n y) 1 0) x xs

in_counted : (n : ℕ) (xs : List ℕ) → Contains xs n → 1 ≤ count_by (nat_eq n) xs
in_counted n [] c = absurd (none_in n c)
in_counted n (x ∷ xs) c =
    let parts = counted_cons n x xs in
    elim (in_cases x xs n c) [
      | inl same ↦ let one : cond {A = ℕ} (nat_eq n x) 1 0 ≡ 1 = rw (eq-eqb n x (sym same)) refl in omega arith
      | inr d ↦ let more = in_counted n xs d in omega arith
    ]

at_most_one : (b : Bool) (n : ℕ) → n ≡ (if b then 1 else 0) → n ≤ 1
at_most_one true n e = omega arith
at_most_one false n e = omega arith

-- numbers that are counted once have different names
module _ (s : Stored) (num : IsNumbered s) where
  number_is : (n : ℕ) → is_number s.pins n ≡ true → name_at s.pins n ≡ Some (called s n)
  number_is n e = let r = there (name_at s.pins n) e in r.1 ∙ ap Some (sym (ap (λ o. unwrap_or o []) r.1))

  numbers_apart : (items : List ℕ) → ((n : ℕ) → count_by (nat_eq n) items ≤ 1) → ((n : ℕ) → Contains items n → is_number s.pins n ≡ true)
      → are_distinct (map (called s) items) ≡ true
  numbers_apart [] once each = refl
  numbers_apart (x ∷ xs) once each =
      and_from (not (is_listed (map (called s) xs) (called s x))) (are_distinct (map (called s) xs))
      (not_from_false (is_listed (map (called s) xs) (called s x)) (false_from_ne_true (is_listed (map (called s) xs) (called s x)) twice))
      (numbers_apart xs (λ n. let part = counted_cons n x xs in let all = once n in omega arith) (λ n c. each n (later_in x xs n c)))
    where
      twice : is_listed (map (called s) xs) (called s x) ≡ true → ⊥
      twice h =
          let m = in_map_back (called s) xs (called s x) (listed_in (map (called s) xs) (called s x) h) in
          let here = number_is x (each x (first_in x xs)) in
          let other = number_is m.item (each m.item (later_in x xs m.item m.within)) in
          let same : m.item ≡ x =
          some_is (sym (num.pins.distinct m.item (called s x) (other ∙ ap Some m.same)) ∙ num.pins.distinct x (called s x) here) in
          let more = in_counted m.item xs m.within in
          let all = once m.item in
          let part = counted_cons m.item x xs in
          let one : cond {A = ℕ} (nat_eq m.item x) 1 0 ≡ 1 = rw (eq-eqb m.item x same) refl in
          omega arith

-- the pin of a number on a net
pub record IsPinOn (s : Stored) (name : List ℕ) (n : ℕ) : Type 0 where
  pub pin : Pin
  pub has : HasNumber s pin n
  pub on : net_of pin ≡ Some name

-- the pins on a net, by numbers
pub record ArePinsOn (s : Stored) (net : ℕ) (items : List ℕ) : Type 0 where
  pub counts : (pin : ℕ) → count_by (nat_eq pin) items ≡ (if is_on_number s net pin then 1 else 0)
  pub numbers : (pin : ℕ) → Contains items pin → is_number s.pins pin ≡ true
  pub on : (pin : ℕ) → Contains items pin → is_on_number s net pin ≡ true
  pub all : (pin : ℕ) → is_on_number s net pin ≡ true → Contains items pin

pub pins_on_net : (s : Stored) (net : ℕ) (items : List ℕ) → ((pin : ℕ) → count_by (nat_eq pin) items ≡ (if is_on_number s net pin then 1 else 0))
    → All (λ pin. is_number s.pins pin ≡ true) items → All (λ pin. is_on_number s net pin ≡ true) items
    → ((pin : ℕ) → is_on_number s net pin ≡ true → Contains items pin) → ArePinsOn s net items
pins_on_net s net items counts numbers on all = record {
  counts = counts;
  numbers = λ pin c. All-contains (λ p. is_number s.pins p ≡ true) items pin numbers c;
  on = λ pin c. All-contains (λ p. is_on_number s net p ≡ true) items pin on c;
  all = all;
}

module _ (s : Stored) (num : IsNumbered s) (linked : IsLinked s.design) where
  -- on a net by numbers is on it by names
  pub is_pin_on : (net n : ℕ) (name : List ℕ) → name_at s.nets net ≡ Some name → is_on_number s net n ≡ true → IsPinOn s name n
  is_pin_on net n name here on = by (pin_numbered s n) refl
    where
      number : net_number s n ≡ Some net
      number = on_at net (net_number s n) on

      by : (o : Option Pin) → pin_numbered s n ≡ o → IsPinOn s name n
      by None e = let f : net_number s n ≡ None = ap (λ o. option_and_then (number_of s.nets) (option_and_then net_of o)) e in absurd (none_some (sym f ∙ number))
        where
          none_some : None ≡ Some net → ⊥
          none_some g = false≢true (ap is_some g)
      by (Some p) e = record { pin = p; has = pin_of_number s num linked n p e; on = its (net_of p) refl }
        where
          its : (o : Option (List ℕ)) → net_of p ≡ o → net_of p ≡ Some name
          its None f =
              let g : net_number s n ≡ None = ap (λ o. option_and_then (number_of s.nets) (option_and_then net_of o)) e ∙ ap (option_and_then (number_of s.nets)) f in
              absurd (false≢true (ap is_some (sym g ∙ number)))
          its (Some other) f =
              let g : number_of s.nets other ≡ Some net =
              sym (ap (λ o. option_and_then (number_of s.nets) (option_and_then net_of o)) e ∙ ap (option_and_then (number_of s.nets)) f) ∙ number in
              f ∙ sym (told_at s.nets other net g) ∙ here

  pub pin_is_on : (net n : ℕ) (name : List ℕ) (p : Pin) → name_at s.nets net ≡ Some name → HasNumber s p n → net_of p ≡ Some name → is_on_number s net n ≡ true
  pin_is_on net n name p here has on =
      let number : net_number s n ≡ Some net =
      ap (λ o. option_and_then (number_of s.nets) (option_and_then net_of o)) has.pin
      ∙ ap (option_and_then (number_of s.nets)) on ∙ num.nets.distinct net name here in
      ap (λ o. option_map_or (nat_eq net) o false) number ∙ eq-eqb net net refl

  -- the names of pins on a net that pass a test
  module _ (net : ℕ) (name : List ℕ) (items : List ℕ) (here : name_at s.nets net ≡ Some name) (on : ArePinsOn s net items) (test : Pin → Bool) where
    abbrev passes_at : ℕ → Bool
    passes_at n = option_map_or test (pin_numbered s n) false

    pub on_listed : (q : List ℕ) → is_listed (map (called s) (filter passes_at items)) q ≡ is_listed (map name_of (filter (λ pin. test pin && is_on name pin) (pins s.design))) q
    on_listed q =
        bool_iff (is_listed (map (called s) (filter passes_at items)) q) (is_listed (map name_of (filter (λ pin. test pin && is_on name pin) (pins s.design))) q) to back
      where
        to : is_listed (map (called s) (filter passes_at items)) q ≡ true → is_listed (map name_of (filter (λ pin. test pin && is_on name pin) (pins s.design))) q ≡ true
        to e =
            let m = in_map_back (called s) (filter passes_at items) q (listed_in (map (called s) (filter passes_at items)) q e) in
            let member = kept_in passes_at items m.item m.within in
            let r = is_pin_on net m.item name here (on.on m.item member) in
            let passes : test r.pin ≡ true = sym (ap (λ o. option_map_or test o false) r.has.pin) ∙ passes_in passes_at items m.item m.within in
            let is : name_of r.pin ≡ q = sym (ap (λ o. unwrap_or o []) r.has.name) ∙ m.same in
            let c = in_filter (λ pin. test pin && is_on name pin) (pins s.design) r.pin r.has.within
            (and_from (test r.pin) (is_on name r.pin) passes (ap (λ o. option_map_or (bytes_eq name) o false) r.on ∙ same_self name)) in
            ap (is_listed (map name_of (filter (λ pin. test pin && is_on name pin) (pins s.design)))) (sym is)
            ∙ in_listed (map name_of (filter (λ pin. test pin && is_on name pin) (pins s.design))) (name_of r.pin)
            (in_map name_of (filter (λ pin. test pin && is_on name pin) (pins s.design)) r.pin c)

        back : is_listed (map name_of (filter (λ pin. test pin && is_on name pin) (pins s.design))) q ≡ true → is_listed (map (called s) (filter passes_at items)) q ≡ true
        back e =
            let m = in_map_back name_of (filter (λ pin. test pin && is_on name pin) (pins s.design)) q
            (listed_in (map name_of (filter (λ pin. test pin && is_on name pin) (pins s.design))) q e) in
            let passes = and_parts (test m.item) (is_on name m.item) (passes_in (λ pin. test pin && is_on name pin) (pins s.design) m.item m.within) in
            let h = pin_told s num linked m.item (kept_in (λ pin. test pin && is_on name pin) (pins s.design) m.item m.within) in
            let member = on.all h.0 (pin_is_on net h.0 name m.item here h.1 (on_net name (net_of m.item) passes.1)) in
            let c = in_filter passes_at items h.0 member (ap (λ o. option_map_or test o false) h.1.pin ∙ passes.0) in
            let is : called s h.0 ≡ q = ap (λ o. unwrap_or o []) h.1.name ∙ m.same in
            ap (is_listed (map (called s) (filter passes_at items))) (sym is)
            ∙ in_listed (map (called s) (filter passes_at items)) (called s h.0) (in_map (called s) (filter passes_at items) h.0 c)

    pub on_counted : length (filter passes_at items) ≡ length (filter (λ pin. test pin && is_on name pin) (pins s.design))
    on_counted =
        sym (length-map (filter passes_at items) (called s))
        ∙ same_names (map (called s) (filter passes_at items)) (map name_of (filter (λ pin. test pin && is_on name pin) (pins s.design)))
        (distinct_filter (called s) passes_at items (numbers_apart s num items (λ n. at_most_one (is_on_number s net n) (count_by (nat_eq n) items) (on.counts n)) on.numbers))
        (distinct_filter name_of (λ pin. test pin && is_on name pin) (pins s.design) (pins_apart s.design linked)) on_listed
        ∙ length-map (filter (λ pin. test pin && is_on name pin) (pins s.design)) name_of

-- counting the pins that drive
pub driving_more : (s : Stored) (items : List ℕ) (i count count2 : ℕ) → i < length items
    → count ≡ length (filter (drives_at s) (take i items)) → count2 ≡ count + (if drives_at s (get_or items i 0) then 1 else 0)
    → count2 ≡ length (filter (drives_at s) (take (i + 1) items))
driving_more s items i count count2 low had put =
    put ∙ ap (λ c. c + (if drives_at s (get_or items i 0) then 1 else 0)) had
    ∙ by (drives_at s (get_or items i 0)) refl
    ∙ sym (length-append (filter (drives_at s) (take i items)) (filter (drives_at s) (get_or items i 0 ∷ [])))
    ∙ ap length (sym (filter-append (drives_at s) (take i items) (get_or items i 0 ∷ [])))
    ∙ ap (λ xs. length (filter (drives_at s) xs)) (sym (take_more items i 0 low))
  where
    by : (b : Bool) → drives_at s (get_or items i 0) ≡ b
        → length (filter (drives_at s) (take i items)) + (if drives_at s (get_or items i 0) then 1 else 0)
        ≡ length (filter (drives_at s) (take i items)) + length (filter (drives_at s) (get_or items i 0 ∷ []))
    by true e = rw e refl
    by false e = rw e refl

module _ (s : Stored) (num : IsNumbered s) (linked : IsLinked s.design) where
  pub drivers_counted : (net count : ℕ) (items : List ℕ) → is_number s.nets net ≡ true → ArePinsOn s net items → count ≡ length (filter (drives_at s) items)
      → option_map (λ name. length (drivers s.design name)) (name_at s.nets net) ≡ Some count
  drivers_counted net count items e on had =
      let here = there (name_at s.nets net) e in
      ap (option_map (λ name. length (drivers s.design name))) here.1
      ∙ ap Some (sym (had ∙ on_counted s num linked net here.0 items here.1 on is_driver))

-- more than one driver
pub crowded_is : (d : Design) (o : Option (List ℕ)) (count : ℕ) → option_map (λ name. length (drivers d name)) o ≡ Some count
    → nat_lt 1 count ≡ option_map_or (λ net. nat_lt 1 (length (drivers d net))) o false
crowded_is d None count e = absurd (cc)
crowded_is d (Some name) count e = ap (nat_lt 1) (sym (some_is e))
