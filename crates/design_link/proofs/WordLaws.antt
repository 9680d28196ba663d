-- Words as the names of pins.

use Rattle.std.proofs.Common.{◌≡◌, ℕ, zero, suc, ◌<◌, ◌==◌, true, false, not, ◌&&◌, List, [], ◌∷◌, length, get_or, set, refl, sym, ap, ◌∙◌, inl, inr, arith}
use Rattle.std.specs.List.{list_any, list_all}
use Rattle.std.proofs.lemmas.Bool.{cases_Bool, cases_lt, and_parts, and_from, ne_eqb}
use Rattle.std.proofs.lemmas.List.{set_past}
use Rattle.std.proofs.lemmas.List.Folds.{list_any_at}
use Rattle.timing_defs.specs.Names.{is_graphic, is_name}
use Rattle.timing_defs.specs.Names.{is_split, as_pin}
use Rattle.design_link.specs.Words.{IsLastSplit}

-- no mark at all
whole_word : (word : List ℕ) → ((k : ℕ) → k < length word → is_split (get_or word k 0) ≡ false) → as_pin word ≡ word
whole_word [] h = refl
whole_word (b ∷ bs) h =
    let here : is_split b ≡ false = h 0 (omega arith) in
    rw here (ap (λ xs. b ∷ xs) (whole_word bs (λ k l. h (suc k) (omega arith))))

no_more : (bs : List ℕ) → ((k : ℕ) → k < length bs → is_split (get_or bs k 0) ≡ false) → list_any is_split bs ≡ false
no_more [] h = refl
no_more (b ∷ bs) h =
    let here : is_split b ≡ false = h 0 (omega arith) in
    rw here (no_more bs (λ k l. h (suc k) (omega arith)))

-- the last mark becomes a colon
split_word : (word : List ℕ) (place : ℕ) → place < length word → is_split (get_or word place 0) ≡ true
    → ((k : ℕ) → place < k → k < length word → is_split (get_or word k 0) ≡ false) → as_pin word ≡ set word place 58
split_word [] place l mark after = absurd (omega arith)
split_word (b ∷ bs) zero l mark after =
    let rest : list_any is_split bs ≡ false = no_more bs (λ k m. after (suc k) (omega arith) (omega arith)) in
    rw (mark, rest) refl
split_word (b ∷ bs) (suc place) l mark after =
    let rest : list_any is_split bs ≡ true = list_any_at is_split bs place 0 (omega arith) mark in
    let more : as_pin bs ≡ set bs place 58 = split_word bs place (omega arith) mark (λ k m n. after (suc k) (omega arith) (omega arith)) in
    let here : as_pin (b ∷ bs) ≡ b ∷ as_pin bs = elim (cases_Bool (is_split b)) [
      | inl split ↦ rw (split, rest) refl
      | inr other ↦ rw other refl
    ] in
    here ∙ ap (λ xs. b ∷ xs) more

pub pin_split : (word : List ℕ) (place : ℕ) → IsLastSplit word place → set word place 58 ≡ as_pin word
pin_split word place h = elim (cases_lt place (length word)) [
  | inl low ↦ sym (split_word word place low (h.mark low) h.after)
  | inr high ↦
      let end = h.within in
      set_past word place 58 high ∙ sym (whole_word word (h.whole (omega arith)))
]

-- the pin of a name is a name
all_graphic : (word : List ℕ) → list_all is_graphic word ≡ true → list_all is_graphic (as_pin word) ≡ true
all_graphic [] h = refl
all_graphic (b ∷ bs) h =
    let parts = and_parts (is_graphic b) (list_all is_graphic bs) h in
    elim (cases_Bool (is_split b && not (list_any is_split bs))) [
      | inl here ↦ rw here parts.1
      | inr other ↦ rw other (and_from (is_graphic b) (list_all is_graphic (as_pin bs)) parts.0 (all_graphic bs parts.1))
    ]

pub pin_name : (word : List ℕ) → is_name word ≡ true → is_name (as_pin word) ≡ true
pin_name [] h = h
pin_name (b ∷ bs) h =
    let parts = and_parts (not (length (b ∷ bs) == 0)) (list_all is_graphic (b ∷ bs)) h in
    and_from (not (length (as_pin (b ∷ bs)) == 0)) (list_all is_graphic (as_pin (b ∷ bs))) some (all_graphic (b ∷ bs) parts.1)
  where
    some : not (length (as_pin (b ∷ bs)) == 0) ≡ true
    some = elim (cases_Bool (is_split b && not (list_any is_split bs))) [
      | inl here ↦ rw here (ap not (ne_eqb (length (58 ∷ bs)) 0 (λ e. omega (arith, e))))
      | inr other ↦ rw other (ap not (ne_eqb (length (b ∷ as_pin bs)) 0 (λ e. omega (arith, e))))
    ]
