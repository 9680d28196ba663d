-- The first line of a text, and the first word of a line.
use Rattle.std.proofs.Common.{◌≡◌, ℕ, suc, ◌+◌, ◌<◌, List, [], ◌∷◌, length, take, drop, refl, ap, arith, inl, inr}
use Rattle.std.specs.Prelude.{◌==◌, not}
use Rattle.std.specs.List.{prefix_len, slice_split, onto_first}
use Rattle.std.proofs.lemmas.Bool.{cases_Bool}
use Rattle.std.proofs.lemmas.Grind.{common_steps}
use Rattle.eco_journal.specs.Lines.{cut_lines, onto, is_space}

empty : (xs : List ℕ) → length xs ≡ 0 → xs ≡ []
empty [] none = refl
empty (x ∷ xs) none = grind arith

last_line : (b : ℕ) (bs : List ℕ) → drop (prefix_len (λ b. not (b == 10)) (b ∷ bs)) (b ∷ bs) ≡ []
    → cut_lines (b ∷ bs) ≡ take (prefix_len (λ b. not (b == 10)) (b ∷ bs)) (b ∷ bs) ∷ []
unfolding cut_lines
last_line b [] none = elim (cases_Bool (b == 10)) [
  | inl hit ↦ let e : b ∷ [] ≡ [] = rw hit at none in grind arith
  | inr miss ↦ rw miss refl
]
last_line b (d ∷ ds) none = elim (cases_Bool (b == 10)) [
  | inl hit ↦ let e : b ∷ d ∷ ds ≡ [] = rw hit at none in grind arith
  | inr miss ↦
      let more : 1 + prefix_len (λ b. not (b == 10)) (d ∷ ds) ≡ suc (prefix_len (λ b. not (b == 10)) (d ∷ ds)) = omega arith in
      let e : drop (prefix_len (λ b. not (b == 10)) (d ∷ ds)) (d ∷ ds) ≡ [] = rw more at (rw miss at none) in
      rw (miss, more) (ap (onto b) (last_line d ds e))
]

-- without a line feed a text that is not empty is one line
pub only_line : (bs : List ℕ) → 0 < length bs → length (drop (prefix_len (λ b. not (b == 10)) bs) bs) ≡ 0
    → cut_lines bs ≡ take (prefix_len (λ b. not (b == 10)) bs) bs ∷ []
only_line [] some none = grind arith
only_line (b ∷ bs) some none = last_line b bs (empty _ none)

-- a line ends at the first line feed
pub first_line : (bs : List ℕ) (c : ℕ) (tail : List ℕ) → drop (prefix_len (λ b. not (b == 10)) bs) bs ≡ c ∷ tail
    → cut_lines bs ≡ take (prefix_len (λ b. not (b == 10)) bs) bs ∷ cut_lines tail
unfolding cut_lines
first_line [] c tail found = grind (arith, common_steps)
first_line (b ∷ bs) c tail found = elim (cases_Bool (b == 10)) [
  | inl hit ↦ let e : b ∷ bs ≡ c ∷ tail = rw hit at found in rw hit (ap (λ rest. [] ∷ cut_lines (drop 1 rest)) e)
  | inr miss ↦
      let more : 1 + prefix_len (λ b. not (b == 10)) bs ≡ suc (prefix_len (λ b. not (b == 10)) bs) = omega arith in
      let e : drop (prefix_len (λ b. not (b == 10)) bs) bs ≡ c ∷ tail = rw more at (rw miss at found) in
      rw (miss, more) (ap (onto b) (first_line bs c tail e))
]

last_word : (bs : List ℕ) → drop (prefix_len (λ b. not (b == 32)) bs) bs ≡ []
    → slice_split is_space bs ≡ take (prefix_len (λ b. not (b == 32)) bs) bs ∷ []
last_word [] none = refl
last_word (b ∷ bs) none = elim (cases_Bool (b == 32)) [
  | inl hit ↦ let e : b ∷ bs ≡ [] = rw hit at none in grind arith
  | inr miss ↦
      let more : 1 + prefix_len (λ b. not (b == 32)) bs ≡ suc (prefix_len (λ b. not (b == 32)) bs) = omega arith in
      let e : drop (prefix_len (λ b. not (b == 32)) bs) bs ≡ [] = rw more at (rw miss at none) in
      rw (miss, more) (ap (onto_first b) (last_word bs e))
]

-- without a blank the text is one word
pub only_word : (bs : List ℕ) → length (drop (prefix_len (λ b. not (b == 32)) bs) bs) ≡ 0
    → slice_split is_space bs ≡ take (prefix_len (λ b. not (b == 32)) bs) bs ∷ []
only_word bs none = last_word bs (empty _ none)

-- a word ends at the first blank
pub first_word : (bs : List ℕ) (c : ℕ) (tail : List ℕ) → drop (prefix_len (λ b. not (b == 32)) bs) bs ≡ c ∷ tail
    → slice_split is_space bs ≡ take (prefix_len (λ b. not (b == 32)) bs) bs ∷ slice_split is_space tail
first_word [] c tail found = grind (arith, common_steps)
first_word (b ∷ bs) c tail found = elim (cases_Bool (b == 32)) [
  | inl hit ↦ let e : b ∷ bs ≡ c ∷ tail = rw hit at found in rw hit (ap (λ rest. [] ∷ slice_split is_space (drop 1 rest)) e)
  | inr miss ↦
      let more : 1 + prefix_len (λ b. not (b == 32)) bs ≡ suc (prefix_len (λ b. not (b == 32)) bs) = omega arith in
      let e : drop (prefix_len (λ b. not (b == 32)) bs) bs ≡ c ∷ tail = rw more at (rw miss at found) in
      rw (miss, more) (ap (onto_first b) (first_word bs c tail e))
]
