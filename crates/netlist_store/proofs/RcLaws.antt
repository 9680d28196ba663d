-- The rows and the numbers of nets with parasitics.

use Rattle.std.proofs.Common.{◌≡◌, ◌≢◌, ℕ, zero, suc, ◌<◌, ◌+◌, Bool, true, false, not, List, [], ◌∷◌, ◌++◌, map, set, length, take, get_or, replicate, Option, None, Some, refl, sym, ap, subst, ◌∙◌, inl, inr, arith, length-set}
use Rattle.std.specs.Prelude.{option_and_then, is_some, nat_eq, ◌||◌}
use Rattle.std.specs.List.{list_any, filter_map}
use Rattle.std.specs.Option.{option_or}
use Rattle.std.specs.Str.{bytes_eq}
use Rattle.std.proofs.lemmas.Bool.{cases_Bool, cases_eq, false≢true}
use Rattle.std.proofs.lemmas.Bool.Decides.{eqb_tells}
use Rattle.std.proofs.lemmas.List.{map-append, take_more}
use Rattle.std.proofs.lemmas.List.Elements.{filter_map-append}
use Rattle.std.proofs.lemmas.List.Folds.{find-append}
use Rattle.timing_defs.specs.declared.parasitics.NetRc.{NetRc}
use Rattle.timing_defs.specs.Netlist.{is_listed, are_distinct}
use Rattle.netlist_store.specs.Numbering.{name_at, number_of, AreNumbers}
use Rattle.timing_defs.specs.Documents.{differ}
use Rattle.netlist_store.specs.Stores.{at}
use Rattle.netlist_store.specs.Building.{rc_named, with_row, AreRcRows}
use Rattle.netlist_store.proofs.NumberLaws.{number_at, some_is}
use Rattle.netlist_store.proofs.OrderLaws.{get_set_same, get_set_other}
use Rattle.netlist_store.proofs.PinLists.{and_left, and_right, and_both}
use Rattle.netlist_store.proofs.PlaceLaws.{found_listed, new_behind}
use Rattle.netlist_store.proofs.ShardLaws.{same_is, same_self}

at_within : (names : List (Option (List ℕ))) (n : ℕ) (name : List ℕ) → name_at names n ≡ Some name → n < length names
at_within [] n name e = absurd (cc)
at_within (o ∷ os) zero name e = omega arith
at_within (o ∷ os) (suc n) name e = let rest = at_within os n name e in omega arith

pub number_within : (names : List (Option (List ℕ))) (name : List ℕ) (n : ℕ) → number_of names name ≡ Some n → n < length names
number_within names name n e = at_within names n name (number_at names name n e)

-- rows without anything
at_none : (count n : ℕ) → at (replicate {A = Option NetRc} count None) n ≡ None
at_none zero n = refl
at_none (suc count) zero = refl
at_none (suc count) (suc n) = at_none count n

long_none : (count : ℕ) → length (replicate {A = Option NetRc} count None) ≡ count
long_none zero = refl
long_none (suc count) = ap suc (long_none count)

pub no_rcs : (nets : List (Option (List ℕ))) (rows : List (Option NetRc)) (count : ℕ) → count ≡ length nets → rows ≡ replicate count None → AreRcRows nets [] rows
no_rcs nets rows count long e = record {
  long = ap length e ∙ long_none count ∙ long;
  told = λ n. ap (λ xs. at xs n) e ∙ at_none count n ∙ sym (nothing (name_at nets n));
}
  where
    nothing : (o : Option (List ℕ)) → option_and_then (rc_named []) o ≡ None
    nothing None = refl
    nothing (Some q) = refl

-- the parasitics of one net more
module _ (nets : List (Option (List ℕ))) (numbers : AreNumbers nets) (rcs : List NetRc) (rc : NetRc) (rows after : List (Option NetRc))
    (had : AreRcRows nets rcs rows) (new : is_listed (map (λ r. r.net) rcs) rc.net ≡ false) where
  more_named : (q : List ℕ) → rc_named (rcs ++ rc ∷ []) q ≡ option_or (rc_named rcs q) (rc_named (rc ∷ []) q)
  more_named q = find-append (λ r. bytes_eq r.net q) rcs (rc ∷ [])

  same_named : (q : List ℕ) → bytes_eq rc.net q ≡ false → rc_named (rcs ++ rc ∷ []) q ≡ rc_named rcs q
  same_named q other = more_named q ∙ rw other (either (rc_named rcs q))
    where
      either : (o : Option NetRc) → option_or o None ≡ o
      either None = refl
      either (Some r) = refl

  its_named : rc_named (rcs ++ rc ∷ []) rc.net ≡ Some rc
  its_named = more_named rc.net ∙ rw (same_self rc.net) (first (rc_named rcs rc.net) (found_listed (λ r. r.net) rcs rc.net ∙ new))
    where
      first : (o : Option NetRc) → is_some o ≡ false → option_or o (Some rc) ≡ Some rc
      first None h = refl
      first (Some r) h = absurd (false≢true (sym h))

  -- at a number that does not stand for the net nothing changes
  kept_at : (n : ℕ) → name_at nets n ≢ Some rc.net → option_and_then (rc_named (rcs ++ rc ∷ [])) (name_at nets n) ≡ option_and_then (rc_named rcs) (name_at nets n)
  kept_at n apart = by (name_at nets n) refl
    where
      by : (o : Option (List ℕ)) → name_at nets n ≡ o → option_and_then (rc_named (rcs ++ rc ∷ [])) o ≡ option_and_then (rc_named rcs) o
      by None e = refl
      by (Some q) e = same_named q (elim (cases_Bool (bytes_eq rc.net q)) [
        | inl h ↦ absurd (apart (e ∙ ap Some (sym (same_is rc.net q h))))
        | inr h ↦ h
      ])

  pub more_rcs : after ≡ with_row (number_of nets rc.net) rc rows → AreRcRows nets (rcs ++ rc ∷ []) after
  more_rcs put = by (number_of nets rc.net) refl
    where
      by : (o : Option ℕ) → number_of nets rc.net ≡ o → AreRcRows nets (rcs ++ rc ∷ []) after
      by None e =
          let same : after ≡ rows = put ∙ ap (λ o. with_row o rc rows) e in
          record {
            long = ap length same ∙ had.long;
            told = λ n. ap (λ xs. at xs n) same ∙ had.told n ∙ sym (kept_at n (λ h. let f : number_of nets rc.net ≡ Some n = numbers.distinct n rc.net h in absurd (cc)));
          }
      by (Some k) e =
          let written : after ≡ set rows k (Some rc) = put ∙ ap (λ o. with_row o rc rows) e in
          let low : k < length rows = subst (λ m. k < m) (sym had.long) (number_within nets rc.net k e) in
          record {
            long = ap length written ∙ length-set rows k (Some rc) ∙ had.long;
            told = λ n. elim (cases_eq n k) [
              | inl same ↦
                  ap (λ xs. at xs n) written ∙ ap (at (set rows k (Some rc))) same
                  ∙ ap (option_and_then (λ row. row)) (get_set_same rows k (Some rc) low)
                  ∙ sym (ap (λ m. option_and_then (rc_named (rcs ++ rc ∷ [])) (name_at nets m)) same
                  ∙ ap (option_and_then (rc_named (rcs ++ rc ∷ []))) (number_at nets rc.net k e) ∙ its_named)
              | inr apart ↦
                  ap (λ xs. at xs n) written
                  ∙ ap (option_and_then (λ row. row)) (get_set_other rows k n (Some rc) apart)
                  ∙ had.told n
                  ∙ sym (kept_at n (λ h. apart (some_is (sym (numbers.distinct n rc.net h) ∙ e))))
            ];
          }

-- as the loop has it
pub next_rcs : (nets : List (Option (List ℕ))) (rcs front rest : List NetRc) (rc : NetRc) (rows after : List (Option NetRc)) → AreNumbers nets
    → are_distinct (map (λ r. r.net) rcs) ≡ true → rcs ≡ front ++ rc ∷ rest → after ≡ with_row (number_of nets rc.net) rc rows
    → AreRcRows nets front rows → AreRcRows nets (front ++ rc ∷ []) after
next_rcs nets rcs front rest rc rows after numbers d e put had =
    more_rcs nets numbers front rc rows after had
    (new_behind (map (λ (r : NetRc). r.net) front) (map (λ (r : NetRc). r.net) rest) rc.net
    (ap are_distinct (sym (ap (map (λ (r : NetRc). r.net)) e ∙ map-append (λ (r : NetRc). r.net) front (rc ∷ rest))) ∙ d))
    put

-- the numbers of distinct nets are distinct
pub numbers_differ : (nets : List (Option (List ℕ))) (rcs : List NetRc) → are_distinct (map (λ r. r.net) rcs) ≡ true
    → differ nat_eq (filter_map (λ r. number_of nets r.net) rcs) ≡ true
numbers_differ nets [] d = refl
numbers_differ nets (r ∷ rs) d =
    by (number_of nets r.net) refl (numbers_differ nets rs (and_right (not (is_listed (map (λ s. s.net) rs) r.net)) (are_distinct (map (λ s. s.net) rs)) d))
  where
    lone : (m : ℕ) → number_of nets r.net ≡ Some m → (ss : List NetRc) → not (is_listed (map (λ s. s.net) ss) r.net) ≡ true
        → not (list_any (nat_eq m) (filter_map (λ s. number_of nets s.net) ss)) ≡ true
    lone m e [] h = refl
    lone m e (s ∷ ss) h = each (lone m e ss rest) (number_of nets s.net) refl
      where
        apart : bytes_eq r.net s.net ≡ false
        apart = left (bytes_eq r.net s.net) (is_listed (map (λ t. t.net) ss) r.net) h
          where
            left : (a b : Bool) → not (a || b) ≡ true → a ≡ false
            left true b h = absurd (false≢true h)
            left false b h = refl

        rest : not (is_listed (map (λ t. t.net) ss) r.net) ≡ true
        rest = right (bytes_eq r.net s.net) (is_listed (map (λ t. t.net) ss) r.net) h
          where
            right : (a b : Bool) → not (a || b) ≡ true → not b ≡ true
            right true b h = absurd (false≢true h)
            right false b h = h

        each : not (list_any (nat_eq m) (filter_map (λ t. number_of nets t.net) ss)) ≡ true → (o : Option ℕ) → number_of nets s.net ≡ o → not (list_any (nat_eq m) (filter_map (λ t. number_of nets t.net) (s ∷ ss))) ≡ true
        each again None f = rw f again
        each again (Some k) f =
            let other : nat_eq m k ≡ false = elim (eqb_tells m k) [
              | inl g ↦
                  let same : Some s.net ≡ Some r.net = sym (number_at nets s.net k f) ∙ ap (name_at nets) (sym g.1) ∙ number_at nets r.net m e in
                  absurd (false≢true (sym apart ∙ ap (bytes_eq r.net) (some_is same) ∙ same_self r.net))
              | inr g ↦ g.0
            ] in
            rw f (rw other again)

    by : (o : Option ℕ) → number_of nets r.net ≡ o → differ nat_eq (filter_map (λ s. number_of nets s.net) rs) ≡ true
        → differ nat_eq (filter_map (λ s. number_of nets s.net) (r ∷ rs)) ≡ true
    by None e rest = rw e rest
    by (Some m) e rest =
        rw e (and_both (not (list_any (nat_eq m) (filter_map (λ s. number_of nets s.net) rs))) (differ nat_eq (filter_map (λ s. number_of nets s.net) rs))
        (lone m e rs (and_left (not (is_listed (map (λ s. s.net) rs) r.net)) (are_distinct (map (λ s. s.net) rs)) d)) rest)

-- the next of distinct numbers is not among those before it
pub next_number : (numbers : List ℕ) (i n : ℕ) → differ nat_eq numbers ≡ true → i < length numbers → n ≡ get_or numbers i n → list_any (nat_eq n) (take i numbers) ≡ false
next_number [] i n d low e = absurd (omega (arith, low))
next_number (x ∷ xs) zero n d low e = refl
next_number (x ∷ xs) (suc i) n d low e =
    let rest = next_number xs i n (and_right (not (list_any (nat_eq x) xs)) (differ nat_eq xs) d) (omega (arith, low)) e in
    let other : nat_eq n x ≡ false = elim (eqb_tells n x) [
      | inl h ↦ absurd (false≢true
          (sym (ap not (within xs i (omega (arith, low)) (sym h.1 ∙ e ∙ ap (get_or xs i) h.1)))
          ∙ and_left (not (list_any (nat_eq x) xs)) (differ nat_eq xs) d))
      | inr h ↦ h.0
    ] in
    rw other rest
  where
    within : (ys : List ℕ) (j : ℕ) → j < length ys → x ≡ get_or ys j x → list_any (nat_eq x) ys ≡ true
    within [] j low e = absurd (omega (arith, low))
    within (y ∷ ys) zero low e = let same : x ≡ y = e in elim (eqb_tells x y) [ inl h ↦ rw h.0 refl | inr h ↦ absurd (h.1 same) ]
    within (y ∷ ys) (suc j) low e = elim (cases_Bool (nat_eq x y)) [ inl h ↦ rw h refl | inr h ↦ rw h (within ys j (omega (arith, low)) e) ]

-- the numbers of nets with parasitics, as the loop has them
pub next_numbers : (nets : List (Option (List ℕ))) (rcs : List NetRc) (i : ℕ) (rc : NetRc) (before after : List ℕ) → i < length rcs → rc ≡ get_or rcs i rc
    → after ≡ before ++ filter_map (λ r. number_of nets r.net) (rc ∷ []) → before ≡ filter_map (λ r. number_of nets r.net) (take i rcs)
    → after ≡ filter_map (λ r. number_of nets r.net) (take (i + 1) rcs)
next_numbers nets rcs i rc before after low here put had =
    put ∙ ap (λ xs. xs ++ filter_map (λ r. number_of nets r.net) (rc ∷ [])) had
    ∙ sym (filter_map-append (λ r. number_of nets r.net) (take i rcs) (rc ∷ []))
    ∙ ap (filter_map (λ r. number_of nets r.net)) (sym (take_more rcs i rc low ∙ ap (λ r. take i rcs ++ r ∷ []) (sym here)))

pub numbers_apart : (nets : List (Option (List ℕ))) (rcs : List NetRc) (numbers : List ℕ) → are_distinct (map (λ r. r.net) rcs) ≡ true
    → numbers ≡ filter_map (λ r. number_of nets r.net) rcs → differ nat_eq numbers ≡ true
numbers_apart nets rcs numbers d e = ap (differ nat_eq) e ∙ numbers_differ nets rcs d

pub next_number_at : (numbers : List ℕ) (i : ℕ) → differ nat_eq numbers ≡ true → i < length numbers
    → list_any (nat_eq (get_or numbers i 0)) (take i numbers) ≡ false
next_number_at numbers i d low = next_number numbers i (get_or numbers i 0) d low (any_default numbers i 0 (get_or numbers i 0) low)
  where
    any_default : (xs : List ℕ) (j a b : ℕ) → j < length xs → get_or xs j a ≡ get_or xs j b
    any_default [] j a b h = absurd (omega (arith, h))
    any_default (x ∷ xs) zero a b h = refl
    any_default (x ∷ xs) (suc j) a b h = any_default xs j a b (omega (arith, h))
