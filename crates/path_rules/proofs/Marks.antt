-- Words split at their last mark.
use Rattle.std.proofs.Common.{◌≡◌, ℕ, zero, suc, ◌<◌, ◌==◌, Bool, true, false, not, ◌&&◌, List, [], ◌∷◌, ◌++◌, length, get_or, take, drop, refl, ap, ◌∙◌, inl, inr, arith}
use Rattle.std.specs.List.{list_any}
use Rattle.std.specs.Str.{bytes_eq}
use Rattle.std.proofs.lemmas.Bool.{cases_Bool, and_parts}
use Rattle.std.proofs.lemmas.List.Folds.{list_any_at}
use Rattle.timing_defs.specs.Names.{is_split, as_pin}

-- no mark at all
pub whole_word : (word : List ℕ) → ((k : ℕ) → k < length word → is_split (get_or word k 0) ≡ false) → as_pin word ≡ word
whole_word [] h = refl
whole_word (b ∷ bs) h =
    let here : is_split b ≡ false = h 0 (omega arith) in
    rw here (ap (λ xs. b ∷ xs) (whole_word bs (λ k l. h (suc k) (omega arith))))

no_more : (bs : List ℕ) → ((k : ℕ) → k < length bs → is_split (get_or bs k 0) ≡ false) → list_any is_split bs ≡ false
no_more [] h = refl
no_more (b ∷ bs) h =
    let here : is_split b ≡ false = h 0 (omega arith) in
    rw here (no_more bs (λ k l. h (suc k) (omega arith)))

-- the last mark becomes a colon
pub split_word : (word : List ℕ) (place : ℕ) → place < length word → is_split (get_or word place 0) ≡ true
    → ((k : ℕ) → place < k → k < length word → is_split (get_or word k 0) ≡ false) → as_pin word ≡ take place word ++ 58 ∷ drop (suc place) word
split_word [] place l mark after = absurd (omega arith)
split_word (b ∷ bs) zero l mark after =
    let rest : list_any is_split bs ≡ false = no_more bs (λ k m. after (suc k) (omega arith) (omega arith)) in
    rw (mark, rest) refl
split_word (b ∷ bs) (suc place) l mark after =
    let rest : list_any is_split bs ≡ true = list_any_at is_split bs place 0 (omega arith) mark in
    let more : as_pin bs ≡ take place bs ++ 58 ∷ drop (suc place) bs = split_word bs place (omega arith) mark (λ k m n. after (suc k) (omega arith) (omega arith)) in
    let here : as_pin (b ∷ bs) ≡ b ∷ as_pin bs = elim (cases_Bool (is_split b)) [
      | inl split ↦ rw (split, rest) refl
      | inr other ↦ rw other refl
    ] in
    here ∙ ap (λ xs. b ∷ xs) more

around : (e m t d : Bool) → (e && ((m && t) && d)) ≡ ((m && (e && t)) && d)
around true m t d = refl
around false true t d = refl
around false false t d = refl

-- a comparison of two words of one length, round a place of the first
pub same_around : (pin word : List ℕ) (place : ℕ) → length pin ≡ length word → place < length word
    → bytes_eq pin (take place word ++ 58 ∷ drop (suc place) word)
    ≡ (((get_or pin place 0 == 58) && bytes_eq (take place pin) (take place word)) && bytes_eq (drop (suc place) pin) (drop (suc place) word))
same_around [] [] place e l = absurd (omega arith)
same_around [] (b ∷ bs) place e l = absurd (omega arith)
same_around (a ∷ pin) [] place e l = absurd (omega arith)
same_around (a ∷ pin) (b ∷ bs) zero e l = elim (cases_Bool (a == 58)) [
  | inl here ↦ rw here refl
  | inr none ↦ rw none refl
]
same_around (a ∷ pin) (b ∷ bs) (suc place) e l =
    ap (λ t. (a == b) && t) (same_around pin bs place (omega arith) (omega arith))
    ∙ around (a == b) (get_or pin place 0 == 58) (bytes_eq (take place pin) (take place bs)) (bytes_eq (drop (suc place) pin) (drop (suc place) bs))

length_same : (xs ys : List ℕ) → bytes_eq xs ys ≡ true → length xs ≡ length ys
length_same [] [] e = refl
length_same [] (y ∷ ys) e = let wrong : false ≡ true = e in cc
length_same (x ∷ xs) [] e = let wrong : false ≡ true = e in cc
length_same (x ∷ xs) (y ∷ ys) e = ap suc (length_same xs ys (and_parts (x == y) (bytes_eq xs ys) e).1)

length_pin : (word : List ℕ) → length (as_pin word) ≡ length word
length_pin [] = refl
length_pin (b ∷ bs) = elim (cases_Bool (is_split b && not (list_any is_split bs))) [
  | inl here ↦ rw here refl
  | inr other ↦ rw other (ap suc (length_pin bs))
]

-- words of other lengths differ
pub other_length : (pin word : List ℕ) → (length pin ≡ length word → ⊥) → bytes_eq pin (as_pin word) ≡ false
other_length pin word other = elim (cases_Bool (bytes_eq pin (as_pin word))) [
  | inl same ↦ absurd (other (length_same pin (as_pin word) same ∙ length_pin word))
  | inr differ ↦ differ
]

-- a comparison with a word that has a mark, `next` being the place after it
pub pin_at : (pin word : List ℕ) (place next : ℕ) → next ≡ suc place → length pin ≡ length word → place < length word
    → is_split (get_or word place 0) ≡ true → ((k : ℕ) → place < k → k < length word → is_split (get_or word k 0) ≡ false)
    → bytes_eq pin (as_pin word) ≡ (((get_or pin place 0 == 58) && bytes_eq (take place pin) (take place word)) && bytes_eq (drop next pin) (drop next word))
pin_at pin word place next e same low mark after =
    rw e (ap (bytes_eq pin) (split_word word place low mark after) ∙ same_around pin word place same low)
