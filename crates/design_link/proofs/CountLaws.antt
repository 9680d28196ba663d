-- The names that numbers stand for are those of the design, each once.

use Rattle.std.proofs.Common.{◌≡◌, ℕ, zero, suc, ◌+◌, ◌<◌, ◌≤◌, Bool, true, false, List, [], ◌∷◌, ◌++◌, map, filter, length, Option, None, Some, refl, sym, ap, subst, ◌∙◌, inl, inr, arith, le-ltb, length-append}
use Rattle.std.specs.Prelude.{is_some, nat_lt, if◌then◌else◌}
use Rattle.std.specs.List.{filter_map, range_with_len}
use Rattle.std.specs.Option.{option_map_or, option_to_list}
use Rattle.std.specs.Str.{bytes_eq}
use Rattle.std.proofs.lemmas.Bool.{false≢true, false_from_ne_true, or_cases}
use Rattle.std.proofs.lemmas.List.{length-map, append-nil, map-id}
use Rattle.std.proofs.lemmas.List.Elements.{filter-append, filter_map-append}
use Rattle.std.proofs.lemmas.List.FromFn.{map-range_with_len_more, length-range_with_len, get_or-range_with_len}
use Rattle.timing_defs.specs.declared.netlist.Inst.{Inst}
use Rattle.timing_defs.specs.Netlist.{name_of, pins, is_listed, are_distinct}
use Rattle.timing_defs.specs.NetChecks.{most}
use Rattle.netlist_store.specs.Linked.{IsLinked}
use Rattle.netlist_store.specs.Numbering.{Stored, name_at, number_of, is_number, AreNumbers, IsNumbered}
use Rattle.design_link.specs.Counts.{names_below, with_name}
use Rattle.timing_defs.proofs.SameNames.{same_is}
use Rattle.store_pins.proofs.PinNames.{distinct_parts, insts_apart, nets_apart, pins_apart}
use Rattle.timing_defs.proofs.Members.{some_is, any_back, in_filter_map, in_filter_map_back, number_in}
use Rattle.store_pins.proofs.PinLaws.{told_at, below_bound, there}
use Rattle.design_link.proofs.Orders.{in_listed}
use Rattle.design_link.proofs.Lists.{bool_iff, same_names, found_listed}

numbers_more : (n : ℕ) → range_with_len 0 (n + 1) ≡ range_with_len 0 n ++ n ∷ []
numbers_more n = sym (map-id (range_with_len 0 (n + 1))) ∙ map-range_with_len_more (λ (k : ℕ). k) 0 n n (omega arith) ∙ ap (λ ks. ks ++ n ∷ []) (map-id (range_with_len 0 n))

one_mapped : (names : List (Option (List ℕ))) (n : ℕ) → filter_map (name_at names) (n ∷ []) ≡ option_to_list (name_at names n)
one_mapped names n = by (name_at names n) refl
  where
    by : (o : Option (List ℕ)) → name_at names n ≡ o → filter_map (name_at names) (n ∷ []) ≡ option_to_list o
    by None e = rw e refl
    by (Some name) e = rw e refl

pub names_more : (names : List (Option (List ℕ))) (n : ℕ) → names_below names (n + 1) ≡ names_below names n ++ option_to_list (name_at names n)
names_more names n =
    ap (filter_map (name_at names)) (numbers_more n) ∙ filter_map-append (name_at names) (range_with_len 0 n) (n ∷ [])
    ∙ ap (λ zs. names_below names n ++ zs) (one_mapped names n)

pub no_names : (names : List (Option (List ℕ))) → names_below names 0 ≡ []
no_names names = refl

-- one number more is counted
pub count_more : (names : List (Option (List ℕ))) (n count count2 : ℕ) → count ≡ length (names_below names n)
    → count2 ≡ count + (if is_number names n then 1 else 0) → count2 ≡ length (names_below names (n + 1))
count_more names n count count2 had put =
    put ∙ ap (λ c. c + (if is_number names n then 1 else 0)) had ∙ by (name_at names n) refl
    ∙ sym (ap length (names_more names n) ∙ length-append (names_below names n) (option_to_list (name_at names n)))
  where
    by : (o : Option (List ℕ)) → name_at names n ≡ o
        → length (names_below names n) + (if is_number names n then 1 else 0) ≡ length (names_below names n) + length (option_to_list (name_at names n))
    by None e = rw e refl
    by (Some name) e = rw e refl

-- a name that a number below a bound stands for
pub record IsBelow (names : List (Option (List ℕ))) (bound : ℕ) (q : List ℕ) : Type 0 where
  pub number : ℕ
  pub low : number < bound
  pub told : name_at names number ≡ Some q

pub below_back : (names : List (Option (List ℕ))) (bound : ℕ) (q : List ℕ) → is_listed (names_below names bound) q ≡ true → IsBelow names bound q
below_back names bound q e =
    let r = any_back (bytes_eq q) (names_below names bound) e in
    let m = in_filter_map_back (name_at names) (range_with_len 0 bound) r.item r.within in
    let low = m.within.1 in
    let at = get_or-range_with_len 0 bound m.within.0 m.item (omega (arith, low, length-range_with_len 0 bound)) in
    let is = m.within.2 in
    record {
      number = m.item;
      low = omega (arith, low, length-range_with_len 0 bound, at, is);
      told = m.same ∙ ap Some (sym (same_is q r.item r.passes));
    }

pub below_in : (names : List (Option (List ℕ))) (bound n : ℕ) (q : List ℕ) → name_at names n ≡ Some q → n < bound → is_listed (names_below names bound) q ≡ true
below_in names bound n q e low = in_listed (names_below names bound) q (in_filter_map (name_at names) (range_with_len 0 bound) n q (number_in bound n low) e)

module _ (names : List (Option (List ℕ))) (num : AreNumbers names) where
  -- the names of all numbers are those that have numbers
  pub below_listed : (q : List ℕ) → is_listed (names_below names (length names)) q ≡ is_some (number_of names q)
  below_listed q = bool_iff (is_listed (names_below names (length names)) q) (is_some (number_of names q)) to back
    where
      to : is_listed (names_below names (length names)) q ≡ true → is_some (number_of names q) ≡ true
      to e = let r = below_back names (length names) q e in ap is_some (num.distinct r.number q r.told)

      back : is_some (number_of names q) ≡ true → is_listed (names_below names (length names)) q ≡ true
      back e =
          let r = there (number_of names q) e in
          let told = told_at names q r.0 r.1 in
          below_in names (length names) r.0 q told (below_bound names q r.0 told)

  -- and none stands there twice
  pub below_apart : (bound : ℕ) → are_distinct (names_below names bound) ≡ true
  below_apart zero = refl
  below_apart (suc bound) =
      let e : suc bound ≡ bound + 1 = omega arith in
      ap (λ k. are_distinct (names_below names k)) e ∙ ap are_distinct (names_more names bound)
      ∙ distinct_parts (names_below names bound) (option_to_list (name_at names bound)) (below_apart bound) (one_apart (name_at names bound)) new
    where
      one_apart : (o : Option (List ℕ)) → are_distinct (option_to_list o) ≡ true
      one_apart None = refl
      one_apart (Some name) = refl

      only : (o : Option (List ℕ)) (q : List ℕ) → is_listed (option_to_list o) q ≡ true → o ≡ Some q
      only None q h = absurd (false≢true h)
      only (Some name) q h = elim (or_cases (bytes_eq q name) false h) [ inl f ↦ ap Some (sym (same_is q name f)) | inr f ↦ absurd (false≢true f) ]

      new : (q : List ℕ) → is_listed (names_below names bound) q ≡ true → is_listed (option_to_list (name_at names bound)) q ≡ false
      new q c = false_from_ne_true (is_listed (option_to_list (name_at names bound)) q) twice
        where
          twice : is_listed (option_to_list (name_at names bound)) q ≡ true → ⊥
          twice h =
              let r = below_back names bound q c in
              let same : r.number ≡ bound = some_is (sym (num.distinct r.number q r.told) ∙ num.distinct bound q (only (name_at names bound) q h)) in
              let low = r.low in
              omega arith

module _ (s : Stored) (num : IsNumbered s) (linked : IsLinked s.design) where
  pub pins_counted : (n count : ℕ) → n ≡ length s.pins → count ≡ length (names_below s.pins n) → count ≡ length (pins s.design)
  pins_counted n count e had =
      had ∙ ap (λ k. length (names_below s.pins k)) e
      ∙ same_names (names_below s.pins (length s.pins)) (map name_of (pins s.design)) (below_apart s.pins num.pins (length s.pins)) (pins_apart s.design linked)
      (λ q. below_listed s.pins num.pins q ∙ num.pin_names q ∙ found_listed name_of (pins s.design) q)
      ∙ length-map (pins s.design) name_of

  pub insts_counted : (n count : ℕ) → n ≡ length s.insts → count ≡ length (names_below s.insts n) → count ≡ length s.design.insts
  insts_counted n count e had =
      had ∙ ap (λ k. length (names_below s.insts k)) e
      ∙ same_names (names_below s.insts (length s.insts)) (map (λ (i : Inst). i.name) s.design.insts) (below_apart s.insts num.insts (length s.insts))
      (insts_apart s.design linked)
      (λ q. below_listed s.insts num.insts q ∙ num.inst_names q ∙ found_listed (λ (i : Inst). i.name) s.design.insts q)
      ∙ length-map s.design.insts (λ (i : Inst). i.name)

  pub nets_listed : (q : List ℕ) → is_listed (names_below s.nets (length s.nets)) q ≡ is_listed s.design.nets q
  nets_listed q = below_listed s.nets num.nets q ∙ num.net_names q

  pub nets_counted : (n count : ℕ) → n ≡ length s.nets → count ≡ length (names_below s.nets n) → count ≡ length s.design.nets
  nets_counted n count e had =
      had ∙ ap (λ k. length (names_below s.nets k)) e
      ∙ same_names (names_below s.nets (length s.nets)) s.design.nets (below_apart s.nets num.nets (length s.nets)) (nets_apart s.design linked) nets_listed

-- no more names than numbers
few_below : (names : List (Option (List ℕ))) (n : ℕ) → length (names_below names n) ≤ n
few_below names zero = let e = ap length (no_names names) in omega (arith, e)
few_below names (suc n) =
    let e : suc n ≡ n + 1 = omega arith in
    let had = few_below names n in
    let one = at_most (name_at names n) in
    let more = ap length (names_more names n) ∙ length-append (names_below names n) (option_to_list (name_at names n)) in
    let low : length (names_below names (n + 1)) ≤ n + 1 = omega (arith, had, one, more) in
    subst (λ (k : ℕ). length (names_below names k) ≤ k) (sym e) low
  where
    at_most : (o : Option (List ℕ)) → length (option_to_list o) ≤ 1
    at_most None = omega arith
    at_most (Some name) = omega arith

few_is : (count bound : ℕ) → count ≤ bound → bound ≤ most → nat_lt most count ≡ false
few_is count bound low few = le-ltb most count (omega (arith, low, few))

module _ (s : Stored) (num : IsNumbered s) (linked : IsLinked s.design) where
  pub few_pins : length s.pins ≤ most → false ≡ nat_lt most (length (pins s.design))
  few_pins few =
      let e = pins_counted s num linked (length s.pins) (length (names_below s.pins (length s.pins))) refl refl in
      let low = few_below s.pins (length s.pins) in
      sym (few_is (length (pins s.design)) (length s.pins) (omega (arith, e, low)) few)

  pub few_insts : length s.insts ≤ most → false ≡ nat_lt most (length s.design.insts)
  few_insts few =
      let e = insts_counted s num linked (length s.insts) (length (names_below s.insts (length s.insts))) refl refl in
      let low = few_below s.insts (length s.insts) in
      sym (few_is (length s.design.insts) (length s.insts) (omega (arith, e, low)) few)

  pub few_nets : length s.nets ≤ most → false ≡ nat_lt most (length s.design.nets)
  few_nets few =
      let e = nets_counted s num linked (length s.nets) (length (names_below s.nets (length s.nets))) refl refl in
      let low = few_below s.nets (length s.nets) in
      sym (few_is (length s.design.nets) (length s.nets) (omega (arith, e, low)) few)

-- the nets that fail, with one number more
pub failing_more : (test : List ℕ → Bool) (names : List (Option (List ℕ))) (n : ℕ) (failing : Bool) (found found2 : List (List ℕ))
    → found ≡ filter test (names_below names n) → failing ≡ option_map_or test (name_at names n) false → found2 ≡ with_name failing (name_at names n) found
    → found2 ≡ filter test (names_below names (n + 1))
failing_more test names n failing found found2 had is put =
    put ∙ ap (λ xs. with_name failing (name_at names n) xs) had ∙ by (name_at names n) failing is
    ∙ sym (ap (filter test) (names_more names n) ∙ filter-append test (names_below names n) (option_to_list (name_at names n)))
  where
    by : (o : Option (List ℕ)) (b : Bool) → b ≡ option_map_or test o false
        → with_name b o (filter test (names_below names n)) ≡ filter test (names_below names n) ++ filter test (option_to_list o)
    by None true e = absurd (false≢true (sym e))
    by None false e = sym (append-nil (filter test (names_below names n)))
    by (Some name) true e = let f : test name ≡ true = sym e in rw f refl
    by (Some name) false e = let f : test name ≡ false = sym e in rw f (sym (append-nil (filter test (names_below names n))))

-- a gap fails no test, and adds no name
pub gap_passes : (test : List ℕ → Bool) (names : List (Option (List ℕ))) (n : ℕ) → is_number names n ≡ false → false ≡ option_map_or test (name_at names n) false
gap_passes test names n e = by (name_at names n) e
  where
    by : (o : Option (List ℕ)) → is_some o ≡ false → false ≡ option_map_or test o false
    by None h = refl
    by (Some name) h = absurd (false≢true (sym h))

pub gap_added : (names : List (Option (List ℕ))) (n : ℕ) (b : Bool) (xs : List (List ℕ)) → is_number names n ≡ false → xs ≡ with_name b (name_at names n) xs
gap_added names n b xs e = by (name_at names n) b e
  where
    by : (o : Option (List ℕ)) (t : Bool) → is_some o ≡ false → xs ≡ with_name t o xs
    by None true h = refl
    by None false h = refl
    by (Some name) t h = absurd (false≢true (sym h))

pub name_added : (names : List (Option (List ℕ))) (n : ℕ) (name : List ℕ) (b : Bool) (xs ys : List (List ℕ)) → b ≡ true → name_at names n ≡ Some name
    → ys ≡ xs ++ name ∷ [] → ys ≡ with_name b (name_at names n) xs
name_added names n name b xs ys t here put = rw (t, here) put
