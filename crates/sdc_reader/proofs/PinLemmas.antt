-- The name of a pin: its word with a colon in the place of its last mark.
use Rattle.std.proofs.Common.{◌≡◌, ℕ, zero, suc, ◌<◌, ◌==◌, true, false, not, ◌&&◌, List, [], ◌∷◌, length, get_or, slice_set, refl, ap, ◌∙◌, inl, inr, sym, arith}
use Rattle.std.specs.List.{list_any, list_all}
use Rattle.std.proofs.lemmas.Bool.{cases_Bool, and_parts}
use Rattle.std.proofs.lemmas.List.Folds.{list_any_at}
use Rattle.timing_defs.specs.Names.{is_graphic, is_name}
use Rattle.timing_defs.specs.Names.{is_split, as_pin}
use Rattle.sdc_reader.specs.Words.{IsLastSplit}

-- no mark at all
pub whole_word : (word : List ℕ) → ((k : ℕ) → k < length word → is_split (get_or word k 0) ≡ false) → as_pin word ≡ word
whole_word [] h = refl
whole_word (b ∷ bs) h =
    let here : is_split b ≡ false = h 0 (omega arith) in
    rw here (ap (λ xs. b ∷ xs) (whole_word bs (λ k l. h (suc k) (omega arith))))

no_more : (bs : List ℕ) → ((k : ℕ) → k < length bs → is_split (get_or bs k 0) ≡ false) → list_any is_split bs ≡ false
no_more [] h = refl
no_more (b ∷ bs) h =
    let here : is_split b ≡ false = h 0 (omega arith) in
    rw here (no_more bs (λ k l. h (suc k) (omega arith)))

-- the last mark becomes a colon
pub split_word : (word : List ℕ) (place : ℕ) → place < length word → is_split (get_or word place 0) ≡ true
    → ((k : ℕ) → place < k → k < length word → is_split (get_or word k 0) ≡ false) → slice_set word place 58 ≡ as_pin word
split_word [] place l mark after = absurd (omega arith)
split_word (b ∷ bs) zero l mark after =
    let rest : list_any is_split bs ≡ false = no_more bs (λ k m. after (suc k) (omega arith) (omega arith)) in
    rw (mark, rest) refl
split_word (b ∷ bs) (suc place) l mark after =
    let rest : list_any is_split bs ≡ true = list_any_at is_split bs place 0 (omega arith) mark in
    let more : slice_set bs place 58 ≡ as_pin bs = split_word bs place (omega arith) mark (λ k m n. after (suc k) (omega arith) (omega arith)) in
    ap (λ xs. b ∷ xs) more ∙ (elim (cases_Bool (is_split b)) [
      | inl split ↦ rw (split, rest) refl
      | inr other ↦ rw other refl
    ])

length_pin : (word : List ℕ) → length (as_pin word) ≡ length word
length_pin [] = refl
length_pin (b ∷ bs) = elim (cases_Bool (is_split b && not (list_any is_split bs))) [
  | inl here ↦ rw here refl
  | inr other ↦ rw other (ap suc (length_pin bs))
]

all_pin : (word : List ℕ) → list_all is_graphic word ≡ true → list_all is_graphic (as_pin word) ≡ true
all_pin [] h = refl
all_pin (b ∷ bs) h =
    let parts = and_parts (is_graphic b) (list_all is_graphic bs) h in
    elim (cases_Bool (is_split b && not (list_any is_split bs))) [
      | inl here ↦ rw here parts.1
      | inr other ↦ rw (other, parts.0) (all_pin bs parts.1)
    ]

-- the name of a pin is one
pub name_pin : (word : List ℕ) → is_name word ≡ true → is_name (as_pin word) ≡ true
name_pin word h =
    let parts = and_parts (not (length word == 0)) (list_all is_graphic word) h in
    rw (length_pin word, parts.0) (all_pin word parts.1)

-- the word with a colon in the place of its last mark, or without a mark
pub pin_at : (word : List ℕ) (place : ℕ) → IsLastSplit word place → place < length word → slice_set word place 58 ≡ as_pin word
pin_at word place last low = split_word word place low (last.mark low) last.after

pub whole_at : (word : List ℕ) (place : ℕ) → IsLastSplit word place → place ≡ length word → word ≡ as_pin word
whole_at word place last end = sym (whole_word word (last.whole end))
