use Rattle.std.proofs.Common.{◌≡◌, ℕ, zero, suc, ◌+◌, ◌-◌, ◌<◌, ◌≤◌, List, [], ◌∷◌, length, take, drop, Option, Some, None, refl, ap, arith, sym, ◌∙◌, subst, add-one}
use Rattle.std.proofs.lemmas.List.{drop-drop, length-drop}
use Rattle.timing_defs.specs.declared.texts.Sort.{Sort}
use Rattle.timing_defs.specs.declared.texts.Style.{Style}
use Rattle.sta_text.specs.declared.pieces.Context.{Context}
use Rattle.sta_text.specs.declared.pieces.Context.TheVariants.{Fresh}
use Rattle.sta_text.specs.Pieces.{piece}
use Rattle.sta_text.specs.Tokens.{Tok, told, tokens, Follow}

longer : (b : ℕ) (bs : List ℕ) → length (b ∷ bs) ≡ suc (length bs)
longer b bs = grind arith

taken_le : (m : ℕ) (xs : List ℕ) → length (take m xs) ≤ length xs
taken_le zero xs = omega arith
taken_le (suc m) [] = omega arith
taken_le (suc m) (x ∷ xs) = omega (arith, taken_le m xs, longer x xs, longer x (take m xs))

-- what is taken is a slice of its own length
take_taken : (m : ℕ) (xs : List ℕ) → take m xs ≡ take (length (take m xs)) xs
take_taken zero xs = refl
take_taken (suc m) [] = refl
take_taken (suc m) (x ∷ xs) =
    subst (λ n. (x ∷ take m xs) ≡ take n (x ∷ xs)) (sym (longer x (take m xs))) (ap (λ ys. x ∷ ys) (take_taken m xs))

-- the rest of a text behind one byte more
next_place : (source : List ℕ) (at b : ℕ) (bs : List ℕ) → (b ∷ bs) ≡ drop at source → bs ≡ drop (at + 1) source
next_place source at b bs h = ap (λ ys. drop 1 ys) h ∙ drop-drop 1 at source

within : (source : List ℕ) (at b : ℕ) (bs : List ℕ) → (b ∷ bs) ≡ drop at source → at + length (b ∷ bs) ≤ length source
within source at b bs h =
    let e : length (b ∷ bs) ≡ length source - at = ap (λ ys. length ys) h ∙ length-drop at source in
    omega (arith, e, longer b bs)

-- tokens that follow a place follow a lower one
lower : (low high : ℕ) (source : List ℕ) (ts : List Tok) → low ≤ high → Follow high source ts → Follow low source ts
unfolding Follow
lower low high source [] le h = tt
lower low high source (t ∷ ts) le h = let first : low ≤ t.start = omega (arith, h.0) in (first, h.1, h.2, h.3, h.4)

told_follow : (sort : Option Sort) (text : List ℕ) (at low : ℕ) (source : List ℕ) (ts : List Tok) → low ≤ at → 0 < length text → at + length text ≤ length source → text ≡ take (length text) (drop at source) → Follow (at + length text) source ts → Follow low source (told sort text at ts)
unfolding Follow
told_follow None text at low source ts le some inside slice h = lower low (at + length text) source ts (omega arith) h
told_follow (Some sort) text at low source ts le some inside slice h =
    let longer : at < at + length text = omega arith in
    let len : length text ≡ at + length text - at = omega arith in
    (le, longer, inside, subst (λ n. text ≡ take n (drop at source)) len slice, h)

-- the tokens of the rest of a text follow every place up to the end of the piece that it begins in
follow_from : (style : Style) (bytes : List ℕ) (skip : ℕ) (context : Context) (at low : ℕ) (source : List ℕ) → bytes ≡ drop at source → low ≤ at + length (take skip bytes) → Follow low source (tokens style skip context at bytes)
unfolding Follow tokens
follow_from style [] skip context at low source here above = tt
follow_from style (b ∷ bs) (suc n) context at low source here above =
    let le : low ≤ at + 1 + length (take n bs) = omega (arith, above, longer b (take n bs)) in
    follow_from style bs n context (at + 1) low source (next_place source at b bs here) le
follow_from style (b ∷ bs) zero context at low source here above =
    let p = piece style context b bs in
    let text = take (p.more + 1) (b ∷ bs) in
    let e : text ≡ b ∷ take p.more bs = ap (λ k. take k (b ∷ bs)) (add-one p.more) in
    let len : length text ≡ suc (length (take p.more bs)) = ap (λ ys. length ys) e ∙ longer b (take p.more bs) in
    let none : length (take zero (b ∷ bs)) ≡ 0 = refl in
    let le : low ≤ at = omega (arith, above, none) in
    let some : 0 < length text = omega (arith, len) in
    let inside : at + length text ≤ length source =
    omega (arith, within source at b bs here, taken_le (p.more + 1) (b ∷ bs)) in
    let slice : text ≡ take (length text) (drop at source) =
    subst (λ ys. text ≡ take (length text) ys) here (take_taken (p.more + 1) (b ∷ bs)) in
    let behind : at + length text ≤ at + 1 + length (take p.more bs) = omega (arith, len) in
    told_follow p.sort text at low source (tokens style p.more p.context (at + 1) bs) le some inside slice
    (follow_from style bs p.more p.context (at + 1) (at + length text) source (next_place source at b bs here) behind)

pub in_order : (style : Style) (bytes : List ℕ) → Follow 0 bytes (tokens style 0 Fresh 0 bytes)
in_order style bytes = follow_from style bytes 0 Fresh 0 0 bytes refl (omega arith)
