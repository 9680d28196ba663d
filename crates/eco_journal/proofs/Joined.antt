-- A line whose words single blanks join is cut into these words, and holds no line feed.
use Rattle.std.proofs.Common.{◌≡◌, ℕ, Bool, true, false, List, [], ◌∷◌, ◌++◌, refl, ap, arith}
use Rattle.std.specs.Prelude.{◌==◌, nat_le}
use Rattle.std.specs.List.{list_all, flat_map, slice_split, onto_first}
use Rattle.std.proofs.lemmas.Bool.{and_from}
use Rattle.std.proofs.lemmas.List.Folds.{list_all-append}
use Rattle.timing_defs.specs.Names.{is_graphic, is_name}
use Rattle.timing_defs.specs.Output.{word, line}
use Rattle.eco_journal.specs.Lines.{is_space, onto, cut_lines}

abbrev pub graphic : List ℕ → Bool
graphic text = list_all is_graphic text

-- words joined by single blanks
abbrev pub joined : List ℕ → List (List ℕ) → List ℕ
joined first rest = first ++ flat_map word rest

-- a byte of a line of words
abbrev pub is_printed : ℕ → Bool
is_printed b = nat_le 32 b

no_space : (b : ℕ) → is_graphic b ≡ true → (b == 32) ≡ false
no_space b h = grind arith

head_of : (b : ℕ) (bs : List ℕ) → graphic (b ∷ bs) ≡ true → is_graphic b ≡ true
head_of b bs h = grind arith

tail_of : (b : ℕ) (bs : List ℕ) → graphic (b ∷ bs) ≡ true → graphic bs ≡ true
tail_of b bs h = grind arith

-- a word ends at the blank behind it
word_cut : (first rest : List ℕ) → graphic first ≡ true → slice_split is_space (first ++ 32 ∷ rest) ≡ first ∷ slice_split is_space rest
word_cut [] rest h = refl
word_cut (b ∷ bs) rest h = rw (no_space b (head_of b bs h)) (ap (onto_first b) (word_cut bs rest (tail_of b bs h)))

word_last : (first : List ℕ) → graphic first ≡ true → slice_split is_space (first ++ []) ≡ first ∷ []
word_last [] h = refl
word_last (b ∷ bs) h = rw (no_space b (head_of b bs h)) (ap (onto_first b) (word_last bs (tail_of b bs h)))

pub words_cut : (first : List ℕ) (rest : List (List ℕ)) → graphic first ≡ true → list_all graphic rest ≡ true
    → slice_split is_space (joined first rest) ≡ first ∷ rest
words_cut first [] h hs = word_last first h
words_cut first (w ∷ ws) h hs =
    let here : graphic w ≡ true = grind arith in
    let behind : list_all graphic ws ≡ true = grind arith in
    rw (word_cut first (joined w ws) h) (ap (λ parts. first ∷ parts) (words_cut w ws here behind))

printed : (text : List ℕ) → graphic text ≡ true → list_all is_printed text ≡ true
printed [] h = refl
printed (b ∷ bs) h = grind (arith, printed bs (tail_of b bs h), head_of b bs h)

printed_words : (ws : List (List ℕ)) → list_all graphic ws ≡ true → list_all is_printed (flat_map word ws) ≡ true
printed_words [] hs = refl
printed_words (w ∷ ws) hs =
    let here : graphic w ≡ true = grind arith in
    let behind : list_all graphic ws ≡ true = grind arith in
    rw (list_all-append is_printed w (flat_map word ws)) (and_from _ _ (printed w here) (printed_words ws behind))

-- lines of words hold printed bytes alone
pub printed_line : (first : List ℕ) (rest : List (List ℕ)) → graphic first ≡ true → list_all graphic rest ≡ true
    → list_all is_printed (joined first rest) ≡ true
printed_line first rest h hs =
    rw (list_all-append is_printed first (flat_map word rest)) (and_from _ _ (printed first h) (printed_words rest hs))

no_feed : (b : ℕ) → is_printed b ≡ true → (b == 10) ≡ false
no_feed b h = grind arith

-- a line ends at its line feed
pub line_cut : (text rest : List ℕ) → list_all is_printed text ≡ true → cut_lines (line text ++ rest) ≡ text ∷ cut_lines rest
unfolding cut_lines
line_cut [] rest h = refl
line_cut (b ∷ bs) rest h =
    let here : is_printed b ≡ true = grind arith in
    let behind : list_all is_printed bs ≡ true = grind arith in
    rw (no_feed b here) (ap (onto b) (line_cut bs rest behind))

-- a name is graphic
pub name_graphic : (name : List ℕ) → is_name name ≡ true → graphic name ≡ true
name_graphic name h = grind arith
