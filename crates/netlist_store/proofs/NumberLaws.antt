-- A numbering, as names come and go.

use Rattle.std.proofs.Common.{◌≡◌, ◌≢◌, ℕ, zero, suc, ◌-◌, ◌<◌, ◌≤◌, ◌^◌, true, false, cond, List, [], ◌∷◌, ◌++◌, map, length, set, get_or, Option, None, Some, refl, sym, ap, subst, ◌∙◌, inl, inr, arith, lt-ltb, le-ltb, length-append, length-set}
use Rattle.std.specs.Prelude.{option_and_then, is_some, slice_get}
use Rattle.std.specs.Option.{option_map_or}
use Rattle.std.specs.List.{position_or_len}
use Rattle.std.specs.Str.{bytes_eq}
use Rattle.std.proofs.lemmas.Bool.{cases_Bool, cases_eq, cases_lt, false≢true}
use Rattle.std.proofs.lemmas.List.Quantifiers.{position-Some}
use Rattle.std.proofs.lemmas.List.Sums.{passes_at_first}
use Rattle.std.proofs.lemmas.Option.{slice_get_past, slice_get_within}
use Rattle.std.proofs.lemmas.List.{map-set, map-append, length-map}
use Rattle.netlist_store.specs.declared.numberings.Slot.{Slot}
use Rattle.netlist_store.specs.declared.numberings.Slot.TheVariants.{Named, Waiting, Gap}
use Rattle.netlist_store.specs.Numbering.{name_at, number_of, is_named, is_number, with_name, Agrees, AreNumbers, AreKept}
use Rattle.netlist_store.specs.Slots.{slot_name, slot_name_at, is_waiting}
use Rattle.netlist_store.proofs.ShardLaws.{same_is, same_self}

pub names_at : (slots : List Slot) (n : ℕ) → name_at (map slot_name slots) n ≡ slot_name_at slots n
names_at [] n = refl
names_at (s ∷ ss) zero = refl
names_at (s ∷ ss) (suc n) = names_at ss n

-- a name at a place of a list
at_within : (names : List (Option (List ℕ))) (n : ℕ) (name : List ℕ) → name_at names n ≡ Some name → n < length names
at_within [] n name e = absurd (cc)
at_within (o ∷ os) zero name e = omega arith
at_within (o ∷ os) (suc n) name e = let rest = at_within os n name e in omega arith

at_get : (names : List (Option (List ℕ))) (n : ℕ) (name : List ℕ) → name_at names n ≡ Some name → get_or names n None ≡ Some name
at_get [] n name e = absurd (cc)
at_get (o ∷ os) zero name e = e
at_get (o ∷ os) (suc n) name e = at_get os n name e

get_at : (names : List (Option (List ℕ))) (n : ℕ) → get_or names n None ≡ name_at names n
get_at [] n = refl
get_at (o ∷ os) zero = refl
get_at (o ∷ os) (suc n) = get_at os n

named_is : (name : List ℕ) (o : Option (List ℕ)) → is_named name o ≡ true → o ≡ Some name
named_is name None e = absurd (false≢true e)
named_is name (Some n) e = ap Some (same_is n name e)

pub some_is : {X : Type 0} {x y : X} → Some x ≡ Some y → x ≡ y
some_is e = cc

-- a write at a place, and one more name at the end
pub set_same : (names : List (Option (List ℕ))) (n : ℕ) (o : Option (List ℕ)) → n < length names → name_at (set names n o) n ≡ o
set_same [] n o low = absurd (omega arith)
set_same (x ∷ xs) zero o low = same o
  where
    same : (o : Option (List ℕ)) → option_and_then (λ name. name) (Some o) ≡ o
    same o = refl
set_same (x ∷ xs) (suc n) o low = set_same xs n o (omega arith)

pub set_other : (names : List (Option (List ℕ))) (n m : ℕ) (o : Option (List ℕ)) → m ≢ n → name_at (set names n o) m ≡ name_at names m
set_other [] n m o apart = refl
set_other (x ∷ xs) zero zero o apart = absurd (apart refl)
set_other (x ∷ xs) zero (suc m) o apart = refl
set_other (x ∷ xs) (suc n) zero o apart = refl
set_other (x ∷ xs) (suc n) (suc m) o apart = set_other xs n m o (λ e. apart (ap suc e))

push_same : (names : List (Option (List ℕ))) (n : ℕ) (o : Option (List ℕ)) → n ≡ length names → name_at (names ++ o ∷ []) n ≡ o
push_same [] zero o e = refl
push_same [] (suc n) o e = absurd (omega arith)
push_same (x ∷ xs) zero o e = absurd (omega arith)
push_same (x ∷ xs) (suc n) o e = push_same xs n o (omega arith)

push_other : (names : List (Option (List ℕ))) (m : ℕ) (o : Option (List ℕ)) → m ≢ length names → name_at (names ++ o ∷ []) m ≡ name_at names m
push_other [] zero o apart = absurd (apart refl)
push_other [] (suc m) o apart = refl
push_other (x ∷ xs) zero o apart = refl
push_other (x ∷ xs) (suc m) o apart = push_other xs m o (λ e. apart (omega arith))

pub with_same : (names : List (Option (List ℕ))) (n : ℕ) (name : List ℕ) → n ≤ length names → name_at (with_name names n name) n ≡ Some name
with_same names n name low = elim (cases_lt n (length names)) [
  | inl h ↦ rw (lt-ltb n (length names) h) (set_same names n (Some name) h)
  | inr h ↦ rw (le-ltb n (length names) h) (push_same names n (Some name) (omega arith))
]

pub with_other : (names : List (Option (List ℕ))) (n m : ℕ) (name : List ℕ) → n ≤ length names → m ≢ n → name_at (with_name names n name) m ≡ name_at names m
with_other names n m name low apart = elim (cases_lt n (length names)) [
  | inl h ↦ rw (lt-ltb n (length names) h) (set_other names n m (Some name) apart)
  | inr h ↦ rw (le-ltb n (length names) h) (push_other names m (Some name) (λ e. apart (omega arith)))
]

-- the number of a name is the place where it stands, where it stands at one alone
module _ (number : List ℕ → Option ℕ) (names : List (Option (List ℕ))) (a : Agrees number names) where
  found : (name : List ℕ) → position_or_len (is_named name) names < length names → number name ≡ Some (position_or_len (is_named name) names)
  found name low =
      a.back (position_or_len (is_named name) names) name
      (sym (get_at names (position_or_len (is_named name) names)) ∙ named_is name (get_or names (position_or_len (is_named name) names) None) (passes_at_first (is_named name) names None low))

  first_of : (name : List ℕ) (n : ℕ) → name_at names n ≡ Some name → position_or_len (is_named name) names < length names
  first_of name n e = reach names n e
    where
      reach : (os : List (Option (List ℕ))) (n : ℕ) → name_at os n ≡ Some name → position_or_len (is_named name) os < length os
      reach [] n e = absurd (cc)
      reach (o ∷ os) zero e = rw (e, same_self name) (omega arith)
      reach (o ∷ os) (suc n) e = elim (cases_Bool (is_named name o)) [
        | inl h ↦ rw h (omega arith)
        | inr h ↦ let rest = reach os n e in rw h (omega arith)
      ]

  pub told_from : (name : List ℕ) → number_of names name ≡ number name
  told_from name = by (number name) refl
    where
      by : (o : Option ℕ) → number name ≡ o → number_of names name ≡ o
      by None e = elim (cases_lt (position_or_len (is_named name) names) (length names)) [
        | inl h ↦ let f = found name h in absurd (cc)
        | inr h ↦ rw (le-ltb (position_or_len (is_named name) names) (length names) h) refl
      ]
      by (Some n) e =
          let low = first_of name n (a.told name n e) in
          rw (lt-ltb (position_or_len (is_named name) names) (length names) low) (sym (found name low) ∙ e)

  pub numbers_from : length names < 2 ^ 31 → AreNumbers names
  numbers_from short = record { distinct = λ n name e. told_from name ∙ a.back n name e; below = short }

  -- a name is taken out
  pub agrees_removed : (after : List ℕ → Option ℕ) (n : ℕ) (name : List ℕ) → name_at names n ≡ Some name
      → ((q : List ℕ) → after q ≡ cond (bytes_eq name q) None (number q)) → Agrees after (set names n None)
  agrees_removed after n name here e = record {
    told = λ q m h. elim (cases_Bool (bytes_eq name q)) [
      | inl same ↦ let f : after q ≡ None = e q ∙ ap (λ b. cond b None (number q)) same in absurd (cc)
      | inr other ↦
          let f : number q ≡ Some m = sym (e q ∙ ap (λ b. cond b None (number q)) other) ∙ h in
          let was : name_at names m ≡ Some q = a.told q m f in
          let apart : m ≢ n = λ same. let g : name_at names m ≡ Some name = ap (name_at names) same ∙ here in
          false≢true (sym other ∙ ap (bytes_eq name) (some_is (sym was ∙ g)) ∙ same_self name) in
          set_other names n m None apart ∙ was
    ];
    back = λ m q h. elim (cases_eq m n) [
      | inl same ↦
          let f : name_at (set names n None) m ≡ None = ap (name_at (set names n None)) same ∙ set_same names n None (at_within names n name here) in
          absurd (cc)
      | inr apart ↦
          let was : name_at names m ≡ Some q = sym (set_other names n m None apart) ∙ h in
          let f : number q ≡ Some m = a.back m q was in
          elim (cases_Bool (bytes_eq name q)) [
            | inl same ↦
                let g : number q ≡ Some n = ap number (sym (same_is name q same)) ∙ a.back n name here in
                absurd (apart (some_is (sym f ∙ g)))
            | inr other ↦ e q ∙ ap (λ b. cond b None (number q)) other ∙ f
          ]
    ];
  }

  -- a new name stands at a gap, or after all
  pub agrees_added : (after : List ℕ → Option ℕ) (n : ℕ) (name : List ℕ) → number name ≡ None → name_at names n ≡ None → n ≤ length names
      → ((q : List ℕ) → after q ≡ cond (bytes_eq name q) (Some n) (number q)) → Agrees after (with_name names n name)
  agrees_added after n name new gap low e = record {
    told = λ q m h. elim (cases_Bool (bytes_eq name q)) [
      | inl same ↦
          let f : after q ≡ Some n = e q ∙ ap (λ b. cond b (Some n) (number q)) same in
          let here : m ≡ n = some_is (sym h ∙ f) in
          ap (name_at (with_name names n name)) here ∙ with_same names n name low ∙ ap Some (same_is name q same)
      | inr other ↦
          let f : number q ≡ Some m = sym (e q ∙ ap (λ b. cond b (Some n) (number q)) other) ∙ h in
          let was : name_at names m ≡ Some q = a.told q m f in
          let apart : m ≢ n = λ same. let g : name_at names m ≡ None = ap (name_at names) same ∙ gap in absurd (cc) in
          with_other names n m name low apart ∙ was
    ];
    back = λ m q h. elim (cases_eq m n) [
      | inl same ↦
          let f : name_at (with_name names n name) m ≡ Some name = ap (name_at (with_name names n name)) same ∙ with_same names n name low in
          let this : q ≡ name = some_is (sym h ∙ f) in
          e q ∙ ap (λ b. cond b (Some n) (number q)) (ap (bytes_eq name) this ∙ same_self name) ∙ ap Some (sym same)
      | inr apart ↦
          let was : name_at names m ≡ Some q = sym (with_other names n m name low apart) ∙ h in
          let f : number q ≡ Some m = a.back m q was in
          elim (cases_Bool (bytes_eq name q)) [
            | inl same ↦ let g : number q ≡ None = ap number (sym (same_is name q same)) ∙ new in absurd (cc)
            | inr other ↦ e q ∙ ap (λ b. cond b (Some n) (number q)) other ∙ f
          ]
    ];
  }

-- a numbering that has names in common with a base keeps them as a name comes to it
module _ (base names : List (Option (List ℕ))) (k : AreKept base names) where
  pub kept_added : (n : ℕ) (name : List ℕ) → n ≤ length names
      → ((m : ℕ) → number_of base name ≡ Some m → n ≡ m) → ((old : List ℕ) → name_at base n ≡ Some old → old ≡ name)
      → ((q : List ℕ) → number_of (with_name names n name) q ≡ cond (bytes_eq name q) (Some n) (number_of names q))
      → AreKept base (with_name names n name)
  kept_added n name low number here e = record {
    numbers = λ q i j h g. elim (cases_Bool (bytes_eq name q)) [
      | inl same ↦
          let f : number_of (with_name names n name) q ≡ Some n = e q ∙ ap (λ b. cond b (Some n) (number_of names q)) same in
          let this : j ≡ n = some_is (sym g ∙ f) in
          sym (this ∙ number i (ap (number_of base) (same_is name q same) ∙ h))
      | inr other ↦ k.numbers q i j h (sym (e q ∙ ap (λ b. cond b (Some n) (number_of names q)) other) ∙ g)
    ];
    names = λ i old new h g. elim (cases_eq i n) [
      | inl same ↦
          let f : name_at (with_name names n name) i ≡ Some name = ap (name_at (with_name names n name)) same ∙ with_same names n name low in
          here old (ap (name_at base) (sym same) ∙ h) ∙ some_is (sym f ∙ g)
      | inr apart ↦ k.names i old new h (sym (with_other names n i name low apart) ∙ g)
    ];
  }

-- where a name stands by its number
pub number_at : (names : List (Option (List ℕ))) (name : List ℕ) (n : ℕ) → number_of names name ≡ Some n → name_at names n ≡ Some name
number_at names name n e =
    let p = position-Some (is_named name) names n None e in
    sym (get_at names n) ∙ named_is name (get_or names n None) p.1

at_past : (names : List (Option (List ℕ))) (n : ℕ) → length names ≤ n → name_at names n ≡ None
at_past names n h = ap (option_and_then (λ name. name)) (slice_get_past names n h)

-- the number that a new name has in a base stands for nothing, and for nothing but it in the base
pub base_gap : (base names : List (Option (List ℕ))) (name : List ℕ) (n : ℕ) → AreKept base names → AreNumbers names → number_of names name ≡ None
    → number_of base name ≡ Some n → name_at names n ≡ None
base_gap base names name n kept are new e = by (name_at names n) refl
  where
    by : (o : Option (List ℕ)) → name_at names n ≡ o → o ≡ None
    by None h = refl
    by (Some other) h =
        let same : name ≡ other = kept.names n name other (number_at base name n e) h in
        let f : number_of names name ≡ Some n = are.distinct n name (h ∙ ap Some (sym same)) in
        absurd (cc)

pub base_name : (base : List (Option (List ℕ))) (name : List ℕ) (n : ℕ) → number_of base name ≡ Some n
    → (old : List ℕ) → name_at base n ≡ Some old → old ≡ name
base_name base name n e old h = some_is (sym h ∙ number_at base name n e)

pub past_gap : (names : List (Option (List ℕ))) (n : ℕ) → n ≡ length names → name_at names n ≡ None
past_gap names n e = at_past names n (omega arith)

pub past_base : (base names : List (Option (List ℕ))) (name : List ℕ) (n : ℕ) → length base ≤ length names → n ≡ length names
    → (old : List ℕ) → name_at base n ≡ Some old → old ≡ name
past_base base names name n longer e old h = let f : name_at base n ≡ None = at_past base n (omega arith) in absurd (cc)

-- slots that are written
pub slots_set : (slots : List Slot) (n : ℕ) (name : List ℕ) → n < length slots → map slot_name (set slots n (Named name)) ≡ with_name (map slot_name slots) n name
slots_set slots n name low =
    map-set slot_name slots n (Named name)
    ∙ sym (rw (lt-ltb n (length (map slot_name slots)) (subst (λ k. n < k) (sym (length-map slots slot_name)) low)) refl)

pub slots_push : (slots : List Slot) (n : ℕ) (name : List ℕ) → length slots ≤ n → map slot_name (slots ++ Named name ∷ []) ≡ with_name (map slot_name slots) n name
slots_push slots n name high =
    map-append slot_name slots (Named name ∷ [])
    ∙ sym (rw (le-ltb n (length (map slot_name slots)) (subst (λ k. k ≤ n) (sym (length-map slots slot_name)) high)) refl)

pub slots_gap : (slots : List Slot) (n : ℕ) (next : Option ℕ) → map slot_name (set slots n (Gap next)) ≡ set (map slot_name slots) n None
slots_gap slots n next = map-set slot_name slots n (Gap next)

slots_waiting : (slots : List Slot) (n : ℕ) → map slot_name (set slots n Waiting) ≡ set (map slot_name slots) n None
slots_waiting slots n = map-set slot_name slots n Waiting

-- a gap gives way to another
gap_again : (names : List (Option (List ℕ))) (n : ℕ) → is_number names n ≡ false → set names n None ≡ names
gap_again [] n e = refl
gap_again (None ∷ os) zero e = refl
gap_again (Some o ∷ os) zero e = absurd (false≢true (sym e))
gap_again (o ∷ os) (suc n) e = ap (λ xs. o ∷ xs) (gap_again os n e)

-- a number that waits stands for nothing, and is one of the slots
pub waits_none : (slots : List Slot) (n : ℕ) → option_map_or is_waiting (slice_get slots n) false ≡ true → is_number (map slot_name slots) n ≡ false
waits_none slots n h = ap is_some (names_at slots n) ∙ by (slice_get slots n) h
  where
    by : (o : Option Slot) → option_map_or is_waiting o false ≡ true → is_some (option_and_then slot_name o) ≡ false
    by None h = absurd (false≢true h)
    by (Some (Named name)) h = absurd (false≢true h)
    by (Some Waiting) h = refl
    by (Some (Gap next)) h = absurd (false≢true h)

pub waits_within : (slots : List Slot) (n : ℕ) → option_map_or is_waiting (slice_get slots n) false ≡ true → n < length slots
waits_within slots n h = by (slice_get slots n) refl h
  where
    by : (o : Option Slot) → slice_get slots n ≡ o → option_map_or is_waiting o false ≡ true → n < length slots
    by None e h = absurd (false≢true h)
    by (Some s) e h = slice_get_within slots n s e

pub slots_regap : (slots after : List Slot) (names : List (Option (List ℕ))) (n : ℕ) (next : Option ℕ) → map slot_name slots ≡ names
    → is_number names n ≡ false → after ≡ set slots n (Gap next) → map slot_name after ≡ names
slots_regap slots after names n next view e put =
    ap (map slot_name) put ∙ slots_gap slots n next ∙ ap (λ xs. set xs n None) view ∙ gap_again names n e

pub removed : (number after : List ℕ → Option ℕ) (slots written : List Slot) (names : List (Option (List ℕ))) (n : ℕ) (name : List ℕ)
    → Agrees number (map slot_name slots) → map slot_name slots ≡ names → name_at names n ≡ Some name
    → ((q : List ℕ) → after q ≡ cond (bytes_eq name q) None (number q)) → written ≡ set slots n Waiting → Agrees after (map slot_name written)
removed number after slots written names n name a view here e put =
    subst (Agrees after) (sym (ap (map slot_name) put ∙ slots_waiting slots n))
    (agrees_removed number (map slot_name slots) a after n name (ap (λ xs. name_at xs n) view ∙ here) e)

pub removed_names : (slots written : List Slot) (names : List (Option (List ℕ))) (n : ℕ) → map slot_name slots ≡ names
    → written ≡ set slots n Waiting → map slot_name written ≡ set names n None
removed_names slots written names n view put = ap (map slot_name) put ∙ slots_waiting slots n ∙ ap (λ xs. set xs n None) view

pub still_short : (slots written : List Slot) (n : ℕ) (s : Slot) → written ≡ set slots n s → length slots < 2 ^ 31 → length written < 2 ^ 31
still_short slots written n s put short = subst (λ k. k < 2 ^ 31) (sym (ap length put ∙ length-set slots n s)) short

-- a name comes to it
pub added : (number after : List ℕ → Option ℕ) (slots written : List Slot) (names : List (Option (List ℕ))) (n : ℕ) (name copy : List ℕ)
    → Agrees number (map slot_name slots) → map slot_name slots ≡ names → number_of names name ≡ None → name_at names n ≡ None → n ≤ length names
    → copy ≡ name → ((q : List ℕ) → after q ≡ cond (bytes_eq copy q) (Some n) (number q)) → map slot_name written ≡ with_name (map slot_name slots) n name
    → Agrees after (map slot_name written)
added number after slots written names n name copy a view new gap low same e put =
    subst (Agrees after) (sym put)
    (agrees_added number (map slot_name slots) a after n name
    (sym (told_from number (map slot_name slots) a name) ∙ ap (λ xs. number_of xs name) view ∙ new)
    (ap (λ xs. name_at xs n) view ∙ gap) (subst (λ xs. n ≤ length xs) (sym view) low)
    (λ q. e q ∙ ap (λ k. cond (bytes_eq k q) (Some n) (number q)) same))

length_with : (names : List (Option (List ℕ))) (n : ℕ) (name : List ℕ) → n ≤ length names → n < 2 ^ 31 - 1 → length names < 2 ^ 31 → length (with_name names n name) < 2 ^ 31
length_with names n name low most short = elim (cases_lt n (length names)) [
  | inl h ↦ rw (lt-ltb n (length names) h) (subst (λ k. k < 2 ^ 31) (sym (length-set names n (Some name))) short)
  | inr h ↦ rw (le-ltb n (length names) h) (subst (λ k. k < 2 ^ 31) (sym (length-append names (Some name ∷ []))) (omega arith))
]

pub added_short : (slots written : List Slot) (n : ℕ) (name : List ℕ) → map slot_name written ≡ with_name (map slot_name slots) n name
    → n ≤ length (map slot_name slots) → n < 2 ^ 31 - 1 → length slots < 2 ^ 31 → length written < 2 ^ 31
added_short slots written n name put low most short =
    let long : length written ≡ length (with_name (map slot_name slots) n name) = sym (length-map written slot_name) ∙ ap length put in
    let less = length_with (map slot_name slots) n name low most (subst (λ k. k < 2 ^ 31) (sym (length-map slots slot_name)) short) in
    subst (λ k. k < 2 ^ 31) (sym long) less

pub added_kept : (number after : List ℕ → Option ℕ) (base : List (Option (List ℕ))) (slots written : List Slot) (names : List (Option (List ℕ))) (n : ℕ) (name copy : List ℕ)
    → Agrees number (map slot_name slots) → map slot_name slots ≡ names → number_of names name ≡ None → name_at names n ≡ None → n ≤ length names
    → copy ≡ name → ((q : List ℕ) → after q ≡ cond (bytes_eq copy q) (Some n) (number q)) → map slot_name written ≡ with_name (map slot_name slots) n name
    → AreKept base names → ((m : ℕ) → number_of base name ≡ Some m → n ≡ m) → ((old : List ℕ) → name_at base n ≡ Some old → old ≡ name)
    → AreKept base (map slot_name written)
added_kept number after base slots written names n name copy a view new gap low same e put kept here old =
    subst (AreKept base) (sym (put ∙ ap (λ xs. with_name xs n name) view))
    (kept_added base names kept n name low here old
    (λ q. ap (λ xs. number_of xs q) (sym (put ∙ ap (λ xs. with_name xs n name) view))
    ∙ told_from after (map slot_name written) (added number after slots written names n name copy a view new gap low same e put) q
    ∙ e q ∙ ap (λ k. cond (bytes_eq k q) (Some n) (number q)) same
    ∙ ap (cond (bytes_eq name q) (Some n)) (sym (told_from number (map slot_name slots) a q) ∙ ap (λ xs. number_of xs q) view)))
