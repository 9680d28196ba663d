-- The last colon of a word, as it is read from the front.

use Rattle.std.proofs.Common.{◌≡◌, ℕ, zero, suc, ◌+◌, ◌<◌, ◌≤◌, true, false, List, [], ◌∷◌, ◌++◌, length, take, drop, Option, None, Some, refl, sym, ap, subst, ◌∙◌, inl, inr, arith, add-one}
use Rattle.std.specs.Prelude.{◌==◌, not, nat_eq, if◌then◌else◌, MatchOption}
use Rattle.std.specs.List.{list_any, list_all}
use Rattle.std.proofs.lemmas.Bool.{cases_Bool, false≢true, true≢false, and_parts, and_from, or_parts, not_from_false, eqb-true, eq-eqb, ne_eqb}
use Rattle.timing_defs.specs.Names.{is_graphic, is_name}
use Rattle.timing_defs.specs.Edits.{has_colon, before_last, after_last}
use Rattle.netlist_store.specs.Words.{IsLastColon}

-- the place of the last colon so far, and of the last one after all
abbrev pub colon_from : ℕ → Option ℕ → List ℕ → Option ℕ
colon_from n last [] = last
colon_from n last (b ∷ bs) = colon_from (n + 1) (if nat_eq b 58 then Some n else last) bs

eq_sym : (a b : ℕ) → nat_eq a b ≡ false → nat_eq b a ≡ false
eq_sym a b h = elim (cases_Bool (nat_eq b a)) [
  | inl e ↦ let f : b ≡ a = eqb-true b a e in absurd (true≢false (sym (eq-eqb a b (sym f)) ∙ h))
  | inr e ↦ e
]

none_later : (n : ℕ) (last : Option ℕ) (bs : List ℕ) → list_any (nat_eq 58) bs ≡ false → colon_from n last bs ≡ last
none_later n last [] h = refl
none_later n last (b ∷ bs) h =
    let k = or_parts (nat_eq 58 b) (list_any (nat_eq 58) bs) h in
    let f : nat_eq b 58 ≡ false = eq_sym 58 b k.0 in
    rw f (none_later (n + 1) last bs k.1)

-- where there is a colon, the word is its two parts around it
record Parts (n : ℕ) (last : Option ℕ) (bs : List ℕ) : Type 0 where
  pub whole : before_last bs ++ 58 ∷ after_last bs ≡ bs
  pub place : colon_from n last bs ≡ Some (n + length (before_last bs))

parts : (n : ℕ) (last : Option ℕ) (bs : List ℕ) → list_any (nat_eq 58) bs ≡ true → Parts n last bs
parts n last [] h = absurd (false≢true h)
parts n last (b ∷ bs) h = elim (cases_Bool (list_any (nat_eq 58) bs)) [
  | inl e ↦
      let rest = parts (n + 1) (if nat_eq b 58 then Some n else last) bs e in
      record {
        whole = rw e (ap (λ xs. b ∷ xs) rest.whole);
        place = rw e (rest.place ∙ ap Some (omega arith));
      }
  | inr e ↦ elim (cases_Bool (nat_eq b 58)) [
    | inl f ↦ record {
      whole = rw e (rw f (ap (λ x. x ∷ bs) (sym (eqb-true b 58 f))));
      place = rw e (rw f (none_later (n + 1) (Some n) bs e ∙ ap Some (omega arith)));
    }
    | inr f ↦ absurd (false≢true (sym (none b f e) ∙ h))
  ]
]
  where
    none : (b : ℕ) → nat_eq b 58 ≡ false → list_any (nat_eq 58) bs ≡ false → list_any (nat_eq 58) (b ∷ bs) ≡ false
    none b f e = rw (eq_sym b 58 f, e) refl

pub whole_word : (word : List ℕ) → has_colon word ≡ true → before_last word ++ 58 ∷ after_last word ≡ word
whole_word word h = (parts 0 None word h).whole

take_before : (xs ys : List ℕ) → take (length xs) (xs ++ ys) ≡ xs
take_before [] ys = refl
take_before (x ∷ xs) ys = ap (λ zs. x ∷ zs) (take_before xs ys)

drop_after : (xs : List ℕ) (y : ℕ) (ys : List ℕ) → drop (suc (length xs)) (xs ++ y ∷ ys) ≡ ys
drop_after [] y ys = refl
drop_after (x ∷ xs) y ys = drop_after xs y ys

shorter : (xs : List ℕ) (y : ℕ) (ys : List ℕ) → length xs < length (xs ++ y ∷ ys)
shorter [] y ys = omega arith
shorter (x ∷ xs) y ys = let rest = shorter xs y ys in omega arith

colon_found : (word : List ℕ) (last : Option ℕ) → last ≡ colon_from 0 None word
    → MatchOption last (has_colon word ≡ false) (λ colon. IsLastColon word colon)
colon_found word last e = elim (cases_Bool (has_colon word)) [
  | inl h ↦
      let p = parts 0 None word h in
      let place : last ≡ Some (length (before_last word)) = e ∙ p.place ∙ ap Some (omega arith) in
      rw place (record {
        colon = h;
        within = subst (λ xs. length (before_last word) < length xs) p.whole (shorter (before_last word) 58 (after_last word));
        before = sym (ap (take (length (before_last word))) p.whole) ∙ take_before (before_last word) (58 ∷ after_last word);
        after =
            ap (λ k. drop k word) (add-one (length (before_last word))) ∙ sym (ap (drop (suc (length (before_last word)))) p.whole)
            ∙ drop_after (before_last word) 58 (after_last word);
      })
  | inr h ↦ let place : last ≡ None = e ∙ none_later 0 None word h in rw place h
]

drop_past : (word : List ℕ) (place : ℕ) → length word ≤ place → drop place word ≡ []
drop_past [] zero low = refl
drop_past [] (suc n) low = refl
drop_past (b ∷ bs) zero low = absurd (omega arith)
drop_past (b ∷ bs) (suc n) low = drop_past bs n (omega arith)

pub colon_told : (word : List ℕ) (last : Option ℕ) (place : ℕ) → length word ≤ place → colon_from place last (drop place word) ≡ colon_from 0 None word
    → MatchOption last (has_colon word ≡ false) (λ colon. IsLastColon word colon)
colon_told word last place low e = colon_found word last (sym (ap (colon_from place last) (drop_past word place low)) ∙ e)

-- what is before a colon is a name, where it is not empty
graphic_before : (n : ℕ) (word : List ℕ) → list_all is_graphic word ≡ true → list_all is_graphic (take n word) ≡ true
graphic_before n [] h = ap (list_all is_graphic) (take_none n)
  where
    take_none : (n : ℕ) → take {A = ℕ} n [] ≡ []
    take_none zero = refl
    take_none (suc n) = refl
graphic_before zero (b ∷ bs) h = refl
graphic_before (suc n) (b ∷ bs) h =
    let k = and_parts (is_graphic b) (list_all is_graphic bs) h in and_from (is_graphic b) (list_all is_graphic (take n bs)) k.0 (graphic_before n bs k.1)

longer : (n : ℕ) (word : List ℕ) → 0 < n → n < length word → 0 < length (take n word)
longer zero word low high = absurd (omega arith)
longer (suc n) [] low high = absurd (omega arith)
longer (suc n) (b ∷ bs) low high = omega arith

pub name_before : (n : ℕ) (word : List ℕ) → is_name word ≡ true → 0 < n → n < length word → is_name (take n word) ≡ true
name_before n word h low high =
    let k = and_parts (not (length word == 0)) (list_all is_graphic word) h in
    let long = longer n word low high in
    and_from (not (length (take n word) == 0)) (list_all is_graphic (take n word))
    (not_from_false (length (take n word) == 0) (ne_eqb (length (take n word)) 0 (λ e. omega (arith, long, e)))) (graphic_before n word k.1)
