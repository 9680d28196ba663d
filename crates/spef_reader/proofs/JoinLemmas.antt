-- The node of a name that is joined of two words' names with a colon (58) between.
use Rattle.std.proofs.Common.{◌≡◌, ◌≢◌, ◌<◌, ℕ, ◌+◌, List, [], ◌∷◌, ◌++◌, Bool, true, false, ◌&&◌, not, ◌==◌, length, take, drop, cond, arith, refl, ap, sym, ◌∙◌, length-take, length-drop, length-append}
use Rattle.std.specs.Prelude.{Option, Some, None, slice_get}
use Rattle.std.specs.List.{list_all}
use Rattle.std.proofs.lemmas.Bool.Decides.{nat_tests}
use Rattle.std.proofs.lemmas.Bool.{and_parts, and_from, cond-true, false≢true}
use Rattle.std.proofs.lemmas.List.{take-append-drop, drop_more, drop_all, drop_at}
use Rattle.std.proofs.lemmas.List.Folds.{list_all-append}
use Rattle.std.proofs.lemmas.Option.{slice_get_within, get_or_from_slice_get}
use Rattle.sta_units.specs.Decimal.{number_on}
use Rattle.timing_defs.specs.Names.{is_graphic, is_name}
use Rattle.timing_defs.specs.declared.parasitics.RcNode.TheVariants.{Pin, Inner}
use Rattle.spef_reader.specs.Words.{is_inner}
use Rattle.spef_reader.specs.Nodes.{named, is_net, joined_node}
use Rattle.spef_reader.proofs.NodeLemmas.{joined_is_name, pin_bytes}

-- what stands before a place, there and behind it
split_here : (bytes : List ℕ) (place b : ℕ) → slice_get bytes place ≡ Some b → take place bytes ++ b ∷ drop (place + 1) bytes ≡ bytes
split_here bytes place b h =
    let here = drop_more bytes place b (slice_get_within bytes place b h) ∙ ap (λ (x : ℕ). x ∷ drop (place + 1) bytes) (get_or_from_slice_get bytes place b b h) in
    ap (λ (rest : List ℕ). take place bytes ++ rest) (sym here) ∙ take-append-drop place bytes

none_right : (net : Option (List ℕ)) (word : List ℕ) (left : Option (List ℕ)) → joined_node net word left None ≡ None
none_right net word None = refl
none_right net word (Some left) = refl

-- nothing stands before the colon
pub no_left : (net : Option (List ℕ)) (word bytes : List ℕ) (place : ℕ) → place ≡ 0 → joined_node net word (named (take place bytes)) (named (drop (place + 1) bytes)) ≡ None
no_left net word bytes place h = rw h refl

-- nothing stands behind the colon
pub no_right : (net : Option (List ℕ)) (word bytes : List ℕ) (place : ℕ) → place + 1 ≡ length bytes → joined_node net word (named (take place bytes)) (named (drop (place + 1) bytes)) ≡ None
no_right net word bytes place h =
    ap (λ (right : List ℕ). joined_node net word (named (take place bytes)) (named right)) (drop_all (place + 1) bytes (omega arith))
    ∙ none_right net word (named (take place bytes))

unnamed : (net : Option (List ℕ)) (word left right : List ℕ) → is_name (left ++ 58 ∷ right) ≡ false → joined_node net word (named left) (named right) ≡ None
unnamed net word left right h = by (is_name left) (is_name right) refl refl
  where
    by : (a b : Bool) → is_name left ≡ a → is_name right ≡ b → joined_node net word (cond a (Some left) None) (cond b (Some right) None) ≡ None
    by true true e f = absurd (false≢true (sym h ∙ joined_is_name left right e f))
    by true false e f = refl
    by false b e f = refl

-- the bytes are no name
pub no_name : (net : Option (List ℕ)) (word bytes : List ℕ) (place : ℕ) → slice_get bytes place ≡ Some 58 → is_name bytes ≡ false → joined_node net word (named (take place bytes)) (named (drop (place + 1) bytes)) ≡ None
no_name net word bytes place h e =
    unnamed net word (take place bytes) (drop (place + 1) bytes) (ap is_name (split_here bytes place 58 h) ∙ e)

some : (n : ℕ) → 0 < n → not (n == 0) ≡ true
some n h = grind (arith, nat_tests)

named_there : (name : List ℕ) → 0 < length name → list_all is_graphic name ≡ true → named name ≡ Some name
named_there name long graphic = cond-true (is_name name) (Some name) None (and_from (not (length name == 0)) (list_all is_graphic name) (some (length name) long) graphic)

graphic_parts : (left right : List ℕ) → is_name (left ++ 58 ∷ right) ≡ true → (list_all is_graphic left ≡ true) × (list_all is_graphic right ≡ true)
graphic_parts left right h =
    let all = (and_parts (not (length (left ++ 58 ∷ right) == 0)) (list_all is_graphic (left ++ 58 ∷ right)) h).1 in
    and_parts (list_all is_graphic left) (list_all is_graphic right) (sym (list_all-append is_graphic left (58 ∷ right)) ∙ all)

-- the node of two names, of which the joined bytes are the pin's name
joined_here : (net : Option (List ℕ)) (word bytes : List ℕ) (place : ℕ) → slice_get bytes place ≡ Some 58 → 0 < place → place + 1 ≢ length bytes → is_name bytes ≡ true → joined_node net word (named (take place bytes)) (named (drop (place + 1) bytes)) ≡ Some (cond (is_net net (take place bytes) && is_inner word) (Inner (number_on 0 word)) (Pin bytes))
joined_here net word bytes place h low high e =
    let inside = slice_get_within bytes place 58 h in
    let left = take place bytes in
    let right = drop (place + 1) bytes in
    let whole = split_here bytes place 58 h in
    let parts = graphic_parts left right (ap is_name whole ∙ e) in
    let first = named_there left (omega (arith, length-take place bytes)) parts.0 in
    let second = named_there right (omega (arith, length-drop (place + 1) bytes)) parts.1 in
    ap (λ (l : Option (List ℕ)). joined_node net word l (named right)) first
    ∙ (ap (λ (r : Option (List ℕ)). joined_node net word (Some left) r) second
    ∙ ap (λ (pin : List ℕ). Some (cond (is_net net left && is_inner word) (Inner (number_on 0 word)) (Pin pin))) whole)

pub joined_inner : (net : Option (List ℕ)) (word bytes : List ℕ) (place : ℕ) → slice_get bytes place ≡ Some 58 → 0 < place → place + 1 ≢ length bytes → is_name bytes ≡ true → (is_net net (take place bytes) && is_inner word) ≡ true → joined_node net word (named (take place bytes)) (named (drop (place + 1) bytes)) ≡ Some (Inner (number_on 0 word))
joined_inner net word bytes place h low high e own = joined_here net word bytes place h low high e ∙ ap (λ (b : Bool). Some (cond b (Inner (number_on 0 word)) (Pin bytes))) own

pub joined_pin : (net : Option (List ℕ)) (word bytes : List ℕ) (place : ℕ) → slice_get bytes place ≡ Some 58 → 0 < place → place + 1 ≢ length bytes → is_name bytes ≡ true → (is_net net (take place bytes) && is_inner word) ≡ false → joined_node net word (named (take place bytes)) (named (drop (place + 1) bytes)) ≡ Some (Pin bytes)
joined_pin net word bytes place h low high e own = joined_here net word bytes place h low high e ∙ ap (λ (b : Bool). Some (cond b (Inner (number_on 0 word)) (Pin bytes))) own

-- the colon stands behind the first part
pub colon_here : (left right bytes : List ℕ) (place : ℕ) → bytes ≡ left ++ 58 ∷ right → place ≡ length left → slice_get bytes place ≡ Some 58
colon_here left right bytes place e n = rw (e, n) (at left)
  where
    at : (front : List ℕ) → slice_get (front ++ 58 ∷ right) (length front) ≡ Some 58
    at [] = refl
    at (b ∷ front) = at front

pub left_here : (left right bytes : List ℕ) (place : ℕ) → bytes ≡ left ++ 58 ∷ right → place ≡ length left → take place bytes ≡ left
left_here left right bytes place e n = rw (e, n) (at left)
  where
    at : (front : List ℕ) → take (length front) (front ++ 58 ∷ right) ≡ front
    at [] = refl
    at (b ∷ front) = ap (λ (rest : List ℕ). b ∷ rest) (at front)

pub right_here : (left right bytes : List ℕ) (place : ℕ) → bytes ≡ left ++ 58 ∷ right → place ≡ length left → drop (place + 1) bytes ≡ right
right_here left right bytes place e n = ap (drop (place + 1)) (e ∙ sym (pin_bytes left right)) ∙ drop_at (left ++ 58 ∷ []) right (place + 1) (omega (arith, length-append left (58 ∷ []), n))
