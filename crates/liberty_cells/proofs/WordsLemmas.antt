use Rattle.std.proofs.Common.{◌≡◌, ℕ, suc, ◌+◌, List, [], ◌∷◌, ◌++◌, Bool, true, false, not, take, drop, cond, refl, ap, sym, append_assoc, append-nil, arith, ◌∙◌}
use Rattle.std.specs.List.{prefix_len}
use Rattle.liberty_cells.specs.Tables.{separates, joins, begins_word, word_then, words_on}

-- a byte that separates words ends one
ends : (commas : Bool) (w : List ℕ) (b : ℕ) (bs : List ℕ) → separates commas b ≡ true → words_on commas w (b ∷ bs) ≡ word_then w (words_on commas [] bs)
unfolding words_on
ends commas w b bs e = ap (λ s. cond s (word_then w (words_on commas [] bs)) (words_on commas (w ++ b ∷ []) bs)) e

-- another one belongs to it
goes_on : (commas : Bool) (w : List ℕ) (b : ℕ) (bs : List ℕ) → separates commas b ≡ false → words_on commas w (b ∷ bs) ≡ words_on commas (w ++ b ∷ []) bs
unfolding words_on
goes_on commas w b bs e = ap (λ s. cond s (word_then w (words_on commas [] bs)) (words_on commas (w ++ b ∷ []) bs)) e

-- bytes that separate words are passed over
pub after_space : (commas : Bool) (bs : List ℕ) → words_on commas [] (drop (prefix_len (separates commas) bs) bs) ≡ words_on commas [] bs
after_space commas [] = refl
after_space commas (b ∷ bs) = by_cases (after_space commas bs) (separates commas b) refl
  where
    by_cases : words_on commas [] (drop (prefix_len (separates commas) bs) bs) ≡ words_on commas [] bs → (s : Bool) → separates commas b ≡ s → words_on commas [] (drop (cond s (1 + prefix_len (separates commas) bs) 0) (b ∷ bs)) ≡ words_on commas [] (b ∷ bs)
    by_cases rest true e =
        let one : 1 + prefix_len (separates commas) bs ≡ suc (prefix_len (separates commas) bs) = omega arith in
        rw one (rest ∙ sym (ends commas [] b bs e))
    by_cases rest false e = refl

-- they are followed by a word
pub before_word : (commas : Bool) (bs : List ℕ) → begins_word commas (drop (prefix_len (separates commas) bs) bs) ≡ true
before_word commas [] = refl
before_word commas (b ∷ bs) = by_cases (before_word commas bs) (separates commas b) refl
  where
    by_cases : begins_word commas (drop (prefix_len (separates commas) bs) bs) ≡ true → (s : Bool) → separates commas b ≡ s → begins_word commas (drop (cond s (1 + prefix_len (separates commas) bs) 0) (b ∷ bs)) ≡ true
    by_cases rest true e =
        let one : 1 + prefix_len (separates commas) bs ≡ suc (prefix_len (separates commas) bs) = omega arith in
        rw one rest
    by_cases rest false e = ap not e

at_end : (commas : Bool) (w : List ℕ) → words_on commas w [] ≡ word_then (w ++ []) (words_on commas [] [])
unfolding words_on
at_end commas w = ap (λ x. word_then x []) (sym (append-nil w))

-- a word that has begun goes on
word_ends : (commas : Bool) (w bs : List ℕ) → words_on commas w bs ≡ word_then (w ++ take (prefix_len (joins commas) bs) bs) (words_on commas [] (drop (prefix_len (joins commas) bs) bs))
word_ends commas w [] = at_end commas w
word_ends commas w (b ∷ bs) = by_cases (word_ends commas (w ++ b ∷ []) bs) (separates commas b) refl
  where
    by_cases : words_on commas (w ++ b ∷ []) bs ≡ word_then ((w ++ b ∷ []) ++ take (prefix_len (joins commas) bs) bs) (words_on commas [] (drop (prefix_len (joins commas) bs) bs)) → (s : Bool) → separates commas b ≡ s → words_on commas w (b ∷ bs) ≡ word_then (w ++ take (cond (not s) (1 + prefix_len (joins commas) bs) 0) (b ∷ bs)) (words_on commas [] (drop (cond (not s) (1 + prefix_len (joins commas) bs) 0) (b ∷ bs)))
    by_cases rest true e =
        ends commas w b bs e ∙ ap (λ x. word_then x (words_on commas [] bs)) (sym (append-nil w))
        ∙ ap (λ x. word_then (w ++ []) x) (sym (ends commas [] b bs e))
    by_cases rest false e =
        let one : 1 + prefix_len (joins commas) bs ≡ suc (prefix_len (joins commas) bs) = omega arith in
        rw one
        (goes_on commas w b bs e ∙ rest
        ∙ ap (λ x. word_then x (words_on commas [] (drop (prefix_len (joins commas) bs) bs))) (append_assoc w (b ∷ []) (take (prefix_len (joins commas) bs) bs)))

some_word : (n k b : ℕ) (bs : List ℕ) (ws : List (List ℕ)) → n ≡ suc k → word_then (take n (b ∷ bs)) ws ≡ take n (b ∷ bs) ∷ ws
some_word n k b bs ws e = rw e refl

-- an empty text has no word
pub no_word : (commas : Bool) (text : List ℕ) → text ≡ [] → words_on commas [] text ≡ []
unfolding words_on
no_word commas text e = rw e refl

begun : (commas : Bool) (b : ℕ) (bs : List ℕ) → joins commas b ≡ true → words_on commas [] (b ∷ bs) ≡ take (prefix_len (joins commas) (b ∷ bs)) (b ∷ bs) ∷ words_on commas [] (drop (prefix_len (joins commas) (b ∷ bs)) (b ∷ bs))
begun commas b bs h =
    let one : 1 + prefix_len (joins commas) bs ≡ suc (prefix_len (joins commas) bs) = omega arith in
    let n : prefix_len (joins commas) (b ∷ bs) ≡ suc (prefix_len (joins commas) bs) = ap (λ s. cond s (1 + prefix_len (joins commas) bs) 0) h ∙ one in
    word_ends commas [] (b ∷ bs) ∙ some_word (prefix_len (joins commas) (b ∷ bs)) (prefix_len (joins commas) bs) b bs (words_on commas [] (drop (prefix_len (joins commas) (b ∷ bs)) (b ∷ bs))) n

-- the word that a text begins with
pub first_word : (commas : Bool) (text : List ℕ) (b : ℕ) (bs : List ℕ) → text ≡ b ∷ bs → begins_word commas text ≡ true → words_on commas [] text ≡ take (prefix_len (joins commas) text) text ∷ words_on commas [] (drop (prefix_len (joins commas) text) text)
first_word commas [] b bs e h = cc
first_word commas (x ∷ xs) b bs e h = begun commas x xs h
