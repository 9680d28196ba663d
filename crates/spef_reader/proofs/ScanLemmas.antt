-- The first token of a text, wherever the text stands.
use Rattle.std.proofs.Common.{◌≡◌, ℕ, zero, suc, ◌+◌, ◌-◌, ◌<◌, ◌≤◌, List, [], ◌∷◌, Bool, true, false, ◌==◌, ◌&&◌, ◌||◌, not, length, take, drop, cond, Option, Some, None, MatchOption, refl, ap, arith, sym, ◌∙◌, subst, add-one, add-zero}
use Rattle.std.specs.List.{prefix_len}
use Rattle.std.proofs.lemmas.Bool.{false≢true}
use Rattle.std.proofs.lemmas.Bool.Decides.{nat_tests}
use Rattle.timing_defs.specs.Names.{is_graphic}
use Rattle.timing_defs.specs.declared.texts.Sort.{Sort}
use Rattle.timing_defs.specs.declared.texts.Sort.TheVariants.{Word}
use Rattle.timing_defs.specs.declared.texts.Style.TheVariants.{Spef}
use Rattle.sta_text.specs.Bytes.{begins, is_white, deeper, ends_word, word_end}
use Rattle.sta_text.specs.declared.pieces.Context.{Context}
use Rattle.sta_text.specs.declared.pieces.Context.TheVariants.{Fresh, Within}
use Rattle.sta_text.specs.Pieces.{spef_piece, passed, made}
use Rattle.sta_text.specs.declared.token.Token.{Token}
use Rattle.sta_text.specs.Tokens.{Tok, tok, tok_of, told, tokens}
use Rattle.spef_reader.specs.Scans.{is_common, tokens_at, moved, IsFirst}

longer : (b : ℕ) (bs : List ℕ) → length (b ∷ bs) ≡ suc (length bs)
longer b bs = grind arith

taken_le : (m : ℕ) (xs : List ℕ) → length (take m xs) ≤ length xs
taken_le zero xs = omega arith
taken_le (suc m) [] = omega arith
taken_le (suc m) (x ∷ xs) = omega (arith, taken_le m xs, longer x xs, longer x (take m xs))

-- bytes of a piece before are left out at once
skip_taken : (n : ℕ) (c : Context) (at : ℕ) (bs : List ℕ) → tokens Spef n c at bs ≡ tokens_at (at + length (take n bs)) (drop (length (take n bs)) bs)
unfolding tokens
skip_taken zero c at [] = refl
skip_taken zero c at (b ∷ bs) = rw (add-zero at) refl
skip_taken (suc n) c at [] = refl
skip_taken (suc n) c at (b ∷ bs) =
    let len : length (b ∷ take n bs) ≡ suc (length (take n bs)) = longer b (take n bs) in
    let place : at + 1 + length (take n bs) ≡ at + suc (length (take n bs)) = omega arith in
    skip_taken n c (at + 1) bs
    ∙ (ap (λ (k : ℕ). tokens_at k (drop (length (take n bs)) bs)) place
    ∙ ap (λ (k : ℕ). tokens_at (at + k) (drop k (b ∷ bs))) (sym len))

-- what is known of tokens from a place on, and of those of the same bytes behind it
abbrev Good : ℕ → ℕ → List ℕ → List Tok → List Tok → Type 0
Good by at bs [] there = there ≡ []
Good by at bs (t ∷ ts) there = (at ≤ t.start) × (t.start ≤ t.end) × (t.end ≤ at + length bs) × (there ≡ moved by t ∷ tokens_at (by + t.end) (drop (t.end - at) bs))

one_more : (by at b : ℕ) (bs : List ℕ) (ts there : List Tok) → Good by (at + 1) bs ts there → Good by at (b ∷ bs) ts there
one_more by at b bs [] there h = h
one_more by at b bs (t ∷ ts) there h =
    let low : at ≤ t.start = omega (arith, h.0) in
    let high : t.end ≤ at + length (b ∷ bs) = omega (arith, h.2, longer b bs) in
    let skip : suc (t.end - (at + 1)) ≡ t.end - at = omega (arith, h.0, h.1) in
    (low, h.1, high, h.3 ∙ ap (λ (k : ℕ). moved by t ∷ tokens_at (by + t.end) (drop k (b ∷ bs))) skip)

abbrev ended : List ℕ → ℕ → ℕ → Sort → Tok
ended text at end sort = record { text = text; start = at; end = end; sort = sort }

told_good : (sort : Option Sort) (by at b more : ℕ) (c : Context) (bs : List ℕ) → Good by at (b ∷ bs) (tokens Spef more c (at + 1) bs) (tokens Spef more c (by + at + 1) bs) → Good by at (b ∷ bs) (told sort (take (more + 1) (b ∷ bs)) at (tokens Spef more c (at + 1) bs)) (told sort (take (more + 1) (b ∷ bs)) (by + at) (tokens Spef more c (by + at + 1) bs))
told_good None by at b more c bs h = h
told_good (Some sort) by at b more c bs h =
    let text = take (more + 1) (b ∷ bs) in
    let inner = length (take more bs) in
    let e : text ≡ b ∷ take more bs = ap (λ (k : ℕ). take k (b ∷ bs)) (add-one more) in
    let len : length text ≡ suc inner = ap (λ (ys : List ℕ). length ys) e ∙ longer b (take more bs) in
    let low : at ≤ at = omega arith in
    let up : at ≤ at + length text = omega arith in
    let high : at + length text ≤ at + length (b ∷ bs) = omega (arith, len, longer b bs, taken_le more bs) in
    let place : by + at + 1 + inner ≡ by + (at + length text) = omega (arith, len) in
    let count : suc inner ≡ at + length text - at = omega (arith, len) in
    let rest : tokens Spef more c (by + at + 1) bs ≡ tokens_at (by + (at + length text)) (drop (at + length text - at) (b ∷ bs)) =
    skip_taken more c (by + at + 1) bs
    ∙ (ap (λ (k : ℕ). tokens_at k (drop inner bs)) place
    ∙ ap (λ (k : ℕ). tokens_at (by + (at + length text)) (drop k (b ∷ bs))) count) in
    let end : by + at + length text ≡ by + (at + length text) = omega arith in (
      low,
      up,
      high,
      ap (λ (ts : List Tok). tok text (by + at) sort ∷ ts) rest
          ∙ ap (λ (k : ℕ). ended text (by + at) k sort ∷ tokens_at (by + (at + length text)) (drop (at + length text - at) (b ∷ bs))) end,
    )

good : (n : ℕ) (c : Context) (by at : ℕ) (bs : List ℕ) → Good by at bs (tokens Spef n c at bs) (tokens Spef n c (by + at) bs)
unfolding tokens
good zero c by at [] = refl
good (suc n) c by at [] = refl
good (suc n) c by at (b ∷ bs) =
    let place : by + (at + 1) ≡ by + at + 1 = omega arith in
    one_more by at b bs (tokens Spef n c (at + 1) bs) (tokens Spef n c (by + at + 1) bs)
    (subst (λ (k : ℕ). Good by (at + 1) bs (tokens Spef n c (at + 1) bs) (tokens Spef n c k bs)) place (good n c by (at + 1) bs))
good zero c by at (b ∷ bs) =
    let p = spef_piece b bs in
    let place : by + (at + 1) ≡ by + at + 1 = omega arith in
    told_good p.sort by at b p.more p.context bs
    (one_more by at b bs (tokens Spef p.more p.context (at + 1) bs) (tokens Spef p.more p.context (by + at + 1) bs)
    (subst (λ (k : ℕ). Good by (at + 1) bs (tokens Spef p.more p.context (at + 1) bs) (tokens Spef p.more p.context k bs)) place (good p.more p.context by (at + 1) bs)))

none_there : (bs : List ℕ) → tokens_at 0 bs ≡ [] → (at : ℕ) → tokens_at at bs ≡ []
none_there bs h at =
    let here : Good at 0 bs [] (tokens_at (at + 0) bs) = subst (λ (ts : List Tok). Good at 0 bs ts (tokens_at (at + 0) bs)) h (good 0 Fresh at 0 bs) in
    ap (λ (k : ℕ). tokens_at k bs) (sym (add-zero at)) ∙ here

first_there : (bs : List ℕ) (t : Tok) (ts : List Tok) → tokens_at 0 bs ≡ t ∷ ts → IsFirst bs t
first_there bs t ts h =
    let here : (at : ℕ) → Good at 0 bs (t ∷ ts) (tokens_at (at + 0) bs) = λ at. subst (λ (us : List Tok). Good at 0 bs us (tokens_at (at + 0) bs)) h (good 0 Fresh at 0 bs) in
    let behind : t.end - 0 ≡ t.end = omega arith in
    let high : t.end ≤ length bs = omega (arith, (here 0).2) in (
      (here 0).1,
      high,
      λ at. ap (λ (k : ℕ). tokens_at k bs) (sym (add-zero at))
          ∙ ((here at).3 ∙ ap (λ (k : ℕ). moved at t ∷ tokens_at (at + t.end) (drop k bs)) behind),
    )

-- a token that was taken where the text begins is the first of the text
pub taken_first : (found : Option Token) (bs : List ℕ) (old new : List Tok) → old ≡ tokens_at 0 bs → MatchOption found ((old ≡ []) × (new ≡ [])) (λ t. old ≡ tok_of t ∷ new) → MatchOption found ((at : ℕ) → tokens_at at bs ≡ []) (λ t. IsFirst bs (tok_of t))
taken_first None bs old new e h = none_there bs (sym e ∙ h.0)
taken_first (Some t) bs old new e h = first_there bs (tok_of t) new (sym e ∙ h)

-- the tokens behind a piece at the front
by_piece : (at b : ℕ) (bs : List ℕ) (c : Context) (p : _) → spef_piece b bs ≡ p → tokens Spef 0 c at (b ∷ bs) ≡ told p.sort (take (p.more + 1) (b ∷ bs)) at (tokens Spef p.more p.context (at + 1) bs)
unfolding tokens
by_piece at b bs c p e = ap (λ q. told q.sort (take (q.more + 1) (b ∷ bs)) at (tokens Spef q.more q.context (at + 1) bs)) e

white_piece : (b : ℕ) (bs : List ℕ) → is_white b ≡ true → spef_piece b bs ≡ passed 0 Within
unfolding spef_piece
white_piece b bs h = rw h refl

white_front : (c : Context) (at : ℕ) (bs : List ℕ) → tokens Spef 0 c at bs ≡ tokens_at (at + prefix_len is_white bs) (drop (prefix_len is_white bs) bs)
unfolding tokens
white_front c at [] = refl
white_front c at (b ∷ bs) = by (is_white b) refl (white_front Within (at + 1) bs)
  where
    by : (w : Bool) → is_white b ≡ w → tokens Spef 0 Within (at + 1) bs ≡ tokens_at (at + 1 + prefix_len is_white bs) (drop (prefix_len is_white bs) bs) → tokens Spef 0 c at (b ∷ bs) ≡ tokens_at (at + cond w (1 + prefix_len is_white bs) 0) (drop (cond w (1 + prefix_len is_white bs) 0) (b ∷ bs))
    by true h more =
        let place : at + 1 + prefix_len is_white bs ≡ at + suc (prefix_len is_white bs) = omega arith in
        let one : suc (prefix_len is_white bs) ≡ 1 + prefix_len is_white bs = omega arith in
        by_piece at b bs c (passed 0 Within) (white_piece b bs h)
        ∙ (more
        ∙ (ap (λ (k : ℕ). tokens_at k (drop (prefix_len is_white bs) bs)) place
        ∙ ap (λ (k : ℕ). tokens_at (at + k) (drop k (b ∷ bs))) one))
    by false h more = rw (add-zero at) refl

-- white space at the front may be left out
pub white_passed : (at n : ℕ) (bs : List ℕ) → n ≡ prefix_len is_white bs → tokens_at (at + n) (drop n bs) ≡ tokens_at at bs
white_passed at n bs h = rw h (sym (white_front Fresh at bs))

word_run : (kind : _) → ((depth before b : ℕ) (bs : List ℕ) → ends_word kind depth before b bs ≡ (not (is_graphic b) || ((b == 47 && (begins 47 bs || begins 42 bs)) && not (before == 92))))
    → (n depth before : ℕ) (bs : List ℕ) → begins 47 (drop (prefix_len is_common bs) bs) ≡ false → word_end kind n depth before bs ≡ n + prefix_len is_common bs
unfolding word_end
word_run kind ends n depth before [] h = sym (add-zero n)
word_run kind ends n depth before (b ∷ bs) h =
    ap (λ (x : Bool). cond x n (word_end kind (n + 1) (deeper depth b) b bs)) (ends depth before b bs)
    ∙ by (is_graphic b) (b == 47) (begins 47 bs || begins 42 bs) (not (before == 92)) h refl (λ g. word_run kind ends (n + 1) (deeper depth b) b bs g)
  where
    by : (g s o u : Bool) → begins 47 (drop (cond (g && not s) (1 + prefix_len is_common bs) 0) (b ∷ bs)) ≡ false → (b == 47) ≡ s → (begins 47 (drop (prefix_len is_common bs) bs) ≡ false → word_end kind (n + 1) (deeper depth b) b bs ≡ n + 1 + prefix_len is_common bs) → cond (not g || ((s && o) && u)) n (word_end kind (n + 1) (deeper depth b) b bs) ≡ n + cond (g && not s) (1 + prefix_len is_common bs) 0
    by true false o u h e more =
        let one : 1 + prefix_len is_common bs ≡ suc (prefix_len is_common bs) = omega arith in
        let place : n + 1 + prefix_len is_common bs ≡ n + (1 + prefix_len is_common bs) = omega arith in
        more (subst (λ (k : ℕ). begins 47 (drop k (b ∷ bs)) ≡ false) one h) ∙ place
    by true true o u h e more = absurd (false≢true (sym h ∙ e))
    by false s o u h e more = sym (add-zero n)

no_white : (b : ℕ) → is_graphic b ≡ true → is_white b ≡ false
no_white b h = grind (arith, nat_tests)

fifth : {P : Type 0} (w q s m n g : Bool) (a c d e f x : P) → w ≡ false → q ≡ false → s ≡ false → g ≡ true → cond w a (cond q c (cond (s && m) d (cond (s && n) e (cond g f x)))) ≡ f
fifth w q s m n g a c d e f x hw hq hs hg = rw (hw, hq, hs, hg) refl

common_piece : (kind : _) (b : ℕ) (bs : List ℕ) (p : _) → p ≡ made Word (word_end kind 0 0 b bs) Within
    → ((depth before c : ℕ) (cs : List ℕ) → ends_word kind depth before c cs ≡ (not (is_graphic c) || ((c == 47 && (begins 47 cs || begins 42 cs)) && not (before == 92))))
    → begins 47 (drop (prefix_len is_common bs) bs) ≡ false → p ≡ made Word (prefix_len is_common bs) Within
common_piece kind b bs p e ends behind =
    let none : 0 + prefix_len is_common bs ≡ prefix_len is_common bs = omega arith in
    e ∙ ap (λ (k : ℕ). made Word k Within) (word_run kind ends 0 0 b bs behind ∙ none)

word_piece_there : (b : ℕ) (bs : List ℕ) → is_graphic b ≡ true → (b == 47) ≡ false → (b == 34) ≡ false → begins 47 (drop (prefix_len is_common bs) bs) ≡ false → spef_piece b bs ≡ made Word (prefix_len is_common bs) Within
unfolding spef_piece
word_piece_there b bs graphic slash quote behind =
    common_piece _ b bs (spef_piece b bs)
    (fifth (is_white b) (b == 34) (b == 47) (begins 47 bs) (begins 42 bs) (is_graphic b) _ _ _ _ _ _ (no_white b graphic) quote slash graphic)
    (λ depth before c cs. refl) behind

run_fits : (bs : List ℕ) → length (take (prefix_len is_common bs) bs) ≡ prefix_len is_common bs
run_fits [] = refl
run_fits (b ∷ bs) = by (is_graphic b && not (b == 47)) (run_fits bs)
  where
    by : (c : Bool) → length (take (prefix_len is_common bs) bs) ≡ prefix_len is_common bs → length (take (cond c (1 + prefix_len is_common bs) 0) (b ∷ bs)) ≡ cond c (1 + prefix_len is_common bs) 0
    by true more =
        let one : suc (prefix_len is_common bs) ≡ 1 + prefix_len is_common bs = omega arith in
        subst (λ (k : ℕ). length (take k (b ∷ bs)) ≡ k) one (longer b (take (prefix_len is_common bs) bs) ∙ ap suc more)
    by false more = refl

word_cut : (at n b run : ℕ) (bs : List ℕ) → n ≡ suc run → length (take run bs) ≡ run → tok (take (run + 1) (b ∷ bs)) at Word ∷ tokens Spef run Within (at + 1) bs ≡ tok (take n (b ∷ bs)) at Word ∷ tokens_at (at + length (take n (b ∷ bs))) (drop n (b ∷ bs))
word_cut at n b run bs count fits =
    let inner = length (take run bs) in
    let more : run + 1 ≡ n = omega (arith, count) in
    let len : length (take n (b ∷ bs)) ≡ suc inner = ap (λ (k : ℕ). length (take k (b ∷ bs))) count ∙ longer b (take run bs) in
    let place : at + 1 + inner ≡ at + length (take n (b ∷ bs)) = omega (arith, len) in
    let whole : suc inner ≡ n = omega (arith, fits, count) in
    ap (λ (k : ℕ). tok (take k (b ∷ bs)) at Word ∷ tokens Spef run Within (at + 1) bs) more
    ∙ ap (λ (ts : List Tok). tok (take n (b ∷ bs)) at Word ∷ ts)
    (skip_taken run Within (at + 1) bs
    ∙ (ap (λ (k : ℕ). tokens_at k (drop inner bs)) place
    ∙ ap (λ (k : ℕ). tokens_at (at + length (take n (b ∷ bs))) (drop k (b ∷ bs))) whole))

-- a word without a slash
pub common_word : (at n : ℕ) (bs : List ℕ) → n ≡ prefix_len is_common bs → 0 < n → begins 34 bs ≡ false → begins 47 (drop n bs) ≡ false → tokens_at at bs ≡ tok (take n bs) at Word ∷ tokens_at (at + length (take n bs)) (drop n bs)
common_word at n [] e some quote slash = let none : n ≡ 0 = e in absurd (omega (arith, some, none))
common_word at n (b ∷ bs) e some quote slash = by (is_graphic b) (b == 47) refl refl e
  where
    by : (g s : Bool) → is_graphic b ≡ g → (b == 47) ≡ s → n ≡ cond (g && not s) (1 + prefix_len is_common bs) 0 → tokens_at at (b ∷ bs) ≡ tok (take n (b ∷ bs)) at Word ∷ tokens_at (at + length (take n (b ∷ bs))) (drop n (b ∷ bs))
    by true false graphic differs h =
        let run = prefix_len is_common bs in
        let count : n ≡ suc run = omega (arith, h) in
        let behind : begins 47 (drop run bs) ≡ false = subst (λ (k : ℕ). begins 47 (drop k (b ∷ bs)) ≡ false) count slash in
        let piece : spef_piece b bs ≡ made Word run Within = word_piece_there b bs graphic differs quote behind in
        by_piece at b bs Fresh (made Word run Within) piece ∙ word_cut at n b run bs count (run_fits bs)
    by true true graphic differs h = let none : n ≡ 0 = h in absurd (omega (arith, some, none))
    by false s graphic differs h = let none : n ≡ 0 = h in absurd (omega (arith, some, none))
