-- What reading a line in pieces does to the bytes that an input has left.
use Rattle.std.proofs.Common.{◌≡◌, ◌≢◌, ◌⊎◌, ℕ, suc, ◌+◌, ◌-◌, ◌<◌, ◌≤◌, min, false, List, [], ◌∷◌, ◌++◌, None, Some, All, cond, length, take, get_or, inl, inr, refl, sym, ap, subst, ◌∙◌, arith, append_assoc, append-nil, length-append, ne_eqb, zero, true≢false}
use Rattle.std.specs.Prelude.{◌==◌}
use Rattle.std.proofs.lemmas.Bool.{cases_lt}
use Rattle.std.proofs.lemmas.List.{map-append, take_all, take_more, take-take, take-append-le, nil_from_length, length-take}
use Rattle.std.proofs.lemmas.List.Elements.{All-nil, All-head, All-tail, All-append}
use Rattle.std.proofs.Math.Seq.{take-append-add}
use Rattle.std.proofs.KnownBytes.{Consumes-nil, Consumes-kept, Consumes-trans}
use Rattle.std.proofs.BufReadLemmas.{drop_through-append}
use Rattle.std.specs.declared.option.Option.{Option}
use Rattle.std.specs.Io.BufRead.{drop_through}
use Rattle.std.specs.Io.KnownBytes.{Keeps, Consumes, IsAtEnd}
use Rattle.live_doors.specs.Lines.{kept_length, kept_line, first_line, IsNextLine, ReadsLine, ReadsPart}

pub ruleset marks = (map-append)

pub some_unless_zero : (n : ℕ) → (n == 0) ≡ false → 0 < n
some_unless_zero zero is = absurd (true≢false is)
some_unless_zero (suc n) is = omega arith

-- the first bytes of the first bytes
pub take_both : (a b : ℕ) (xs : List ℕ) → take (min b a) xs ≡ take a (take b xs)
take_both a b xs = at (cases_lt a b)
  where
    at : (a < b) ⊎ (b ≤ a) → take (min b a) xs ≡ take a (take b xs)
    at (inl less) =
        let m : min b a ≡ a = omega arith in
        ap (λ k. take k xs) m ∙ sym (take-take a b xs (omega arith))
    at (inr more) =
        let m : min b a ≡ b = omega arith in
        ap (λ k. take k xs) m ∙ sym (take_all a (take b xs) (omega (arith, length-take b xs)))

-- of a line that goes on, what fits is kept
pub kept_more : (line part : List ℕ) (end : ℕ) → length line ≤ kept_length
    → line ++ take (min end (kept_length - length line)) part ≡ kept_line (line ++ take end part)
kept_more line part end within =
    let room = kept_length - length line in
    let all : length line + room ≡ kept_length = omega arith in
    ap (λ l. line ++ l) (take_both room end part) ∙ sym (take-append-add line (take end part) room) ∙ ap (λ k. take k (line ++ take end part)) all

-- what is kept of the line so far is enough to go on from
pub kept_kept : (line part : List ℕ) → kept_line (kept_line line ++ part) ≡ kept_line (line ++ part)
kept_kept line part = at (cases_lt kept_length (length line))
  where
    at : (kept_length < length line) ⊎ (length line ≤ kept_length) → kept_line (kept_line line ++ part) ≡ kept_line (line ++ part)
    at (inl long) =
        let whole : kept_length ≤ length (kept_line line) = omega (arith, length-take kept_length line) in
        take-append-le kept_length (kept_line line) part whole
        ∙ take_all kept_length (kept_line line) (omega (arith, length-take kept_length line))
        ∙ sym (take-append-le kept_length line part (omega arith))
    at (inr short) = ap (λ l. kept_line (l ++ part)) (take_all kept_length line short)

pub nothing_read : (a b : Option (List ℕ)) (line : List ℕ) → length line ≤ kept_length → Keeps a b → ReadsPart a b line line []
nothing_read a b line within kept = (
  [],
  All-nil (λ byte. byte ≢ 10),
  Consumes-kept a a b [] (Consumes-nil a) kept,
  sym (ap kept_line (append-nil line) ∙ take_all kept_length line within),
)

pub part_read : (a c : Option (List ℕ)) (line shown new : List ℕ) (end kept : ℕ) → length line ≤ kept_length
    → All (λ byte. byte ≢ 10) (take end shown) → kept ≡ min end (kept_length - length line) → new ≡ line ++ take kept shown
    → Consumes a c (take end shown) → ReadsPart a c line new []
part_read a c line shown new end kept within before is items moved = (
  take end shown,
  before,
  subst (Consumes a c) (sym (append-nil (take end shown))) moved,
  items ∙ ap (λ k. line ++ take k shown) is ∙ kept_more line shown end within,
)

pub end_read : (a c : Option (List ℕ)) (line shown new : List ℕ) (end kept : ℕ) → length line ≤ kept_length
    → All (λ byte. byte ≢ 10) (take end shown) → kept ≡ min end (kept_length - length line) → new ≡ line ++ take kept shown
    → end < length shown → get_or shown end 0 ≡ 10
    → Consumes a c (take (end + 1) shown) → ReadsPart a c line new (10 ∷ [])
end_read a c line shown new end kept within before is items some ten moved = (
  take end shown,
  before,
  subst (Consumes a c) (take_more shown end 0 some ∙ ap (λ byte. take end shown ++ byte ∷ []) ten) moved,
  items ∙ ap (λ k. line ++ take k shown) is ∙ kept_more line shown end within,
)

-- two parts in a row are one
pub read_more : (a b c : Option (List ℕ)) (line new end : List ℕ) → ReadsPart a b [] line [] → ReadsPart b c line new end → ReadsPart a c [] new end
read_more a b c line new end (first, all, moved, is) (second, all_more, moved_more, is_more) = (
  first ++ second,
  All-append (λ byte. byte ≢ 10) first second all all_more,
  subst (Consumes a c) (sym (append_assoc first second end)) (Consumes-trans a b c first (second ++ end) (subst (Consumes a b) (append-nil first) moved) moved_more),
  is_more ∙ ap (λ l. kept_line (l ++ second)) is ∙ kept_kept first second,
)

-- a line that a line feed ends
first_ended : (part left : List ℕ) → All (λ byte. byte ≢ 10) part → first_line (part ++ 10 ∷ left) ≡ part
first_ended [] left all = refl
first_ended (x ∷ xs) left all =
    ap (λ b. cond b [] (x ∷ first_line (xs ++ 10 ∷ left))) (ne_eqb x 10 (All-head (λ y. y ≢ 10) x xs all))
    ∙ ap (λ l. x ∷ l) (first_ended xs left (All-tail (λ y. y ≢ 10) x xs all))

dropped_ended : (part left : List ℕ) → All (λ byte. byte ≢ 10) part → drop_through 10 (part ++ 10 ∷ left) ≡ left
dropped_ended part left all = drop_through-append 10 part (10 ∷ left) all

-- a line that the input's end ends
first_whole : (part : List ℕ) → All (λ byte. byte ≢ 10) part → first_line part ≡ part
first_whole [] all = refl
first_whole (x ∷ xs) all =
    ap (λ b. cond b [] (x ∷ first_line xs)) (ne_eqb x 10 (All-head (λ y. y ≢ 10) x xs all))
    ∙ ap (λ l. x ∷ l) (first_whole xs (All-tail (λ y. y ≢ 10) x xs all))

dropped_whole : (part : List ℕ) → All (λ byte. byte ≢ 10) part → drop_through 10 part ≡ []
dropped_whole part all = ap (drop_through 10) (sym (append-nil part)) ∙ drop_through-append 10 part [] all

next_ended : (bytes part left line : List ℕ) → bytes ≡ part ++ 10 ∷ left → All (λ byte. byte ≢ 10) part → line ≡ kept_line part → IsNextLine bytes left (Some line)
next_ended [] part left line is all kept = absurd (omega (arith, ap length is, length-append part (10 ∷ left)))
next_ended (b ∷ bs) part left line is all kept = (
  ap Some (kept ∙ ap kept_line (sym (ap first_line is ∙ first_ended part left all))),
  sym (ap (drop_through 10) is ∙ dropped_ended part left all),
)

next_whole : (bytes part left line : List ℕ) → bytes ≡ part → left ≡ [] → All (λ byte. byte ≢ 10) part → line ≡ kept_line part
    → 0 < length line → IsNextLine bytes left (Some line)
next_whole [] part left line is none all kept some =
    absurd (omega (arith, ap length is, ap length kept, length-take kept_length part))
next_whole (b ∷ bs) part left line is none all kept some = (
  ap Some (kept ∙ ap kept_line (sym (ap first_line is ∙ first_whole part all))),
  none ∙ sym (ap (drop_through 10) is ∙ dropped_whole part all),
)

-- the line feed was read
pub line_ended : (a c : Option (List ℕ)) (line : List ℕ) → ReadsPart a c [] line (10 ∷ []) → ReadsLine a c (Some line)
line_ended None c line read = tt
line_ended (Some x) None line (part, all, moved, is) = absurd moved
line_ended (Some x) (Some y) line (part, all, moved, is) = next_ended x part y line (moved ∙ append_assoc part (10 ∷ []) y) all is

-- the input's end was seen behind some bytes of a line
pub line_whole : (a b c : Option (List ℕ)) (line new : List ℕ) → ReadsPart a b [] line [] → Consumes b c [] → IsAtEnd b → new ≡ line → 0 < length new
    → ReadsLine a c (Some new)
line_whole None b c line new read moved end is some = tt
line_whole (Some x) None c line new (part, all, first, kept) moved end is some = absurd first
line_whole (Some x) (Some y) None line new (part, all, first, kept) moved end is some = absurd moved
line_whole (Some x) (Some y) (Some z) line new (part, all, first, kept) moved end is some =
    next_whole x part z new (first ∙ ap (λ l. (part ++ []) ++ l) end ∙ append-nil (part ++ []) ∙ append-nil part) (sym moved ∙ end) all (is ∙ kept) some

-- and behind none
pub line_none : (a b c : Option (List ℕ)) (line new : List ℕ) → ReadsPart a b [] line [] → Consumes b c [] → IsAtEnd b → new ≡ line → length new ≡ 0
    → ReadsLine a c None
line_none None b c line new read moved end is none = tt
line_none (Some x) None c line new (part, all, first, kept) moved end is none = absurd first
line_none (Some x) (Some y) None line new (part, all, first, kept) moved end is none = absurd moved
line_none (Some x) (Some y) (Some z) line new (part, all, first, kept) moved end is none =
    let empty : part ≡ [] = nil_from_length part (omega (arith, ap length (is ∙ kept), length-take kept_length part)) in
    let nothing : x ≡ [] = first ∙ ap (λ l. (part ++ []) ++ l) end ∙ append-nil (part ++ []) ∙ append-nil part ∙ empty in
    subst (λ l. IsNextLine l z None) (sym nothing) (refl, sym moved ∙ end)
