-- Names of pins.
use Rattle.std.proofs.Common.{◌≡◌, ◌≤◌, ◌<◌, ℕ, List, [], ◌∷◌, ◌++◌, Bool, true, false, ◌&&◌, not, ◌==◌, length, arith, refl, length-append, ap, sym}
use Rattle.std.specs.List.{list_all}
use Rattle.std.proofs.lemmas.Bool.Decides.{nat_tests}
use Rattle.std.proofs.lemmas.Bool.{and_from, false≢true}
use Rattle.std.proofs.lemmas.List.Folds.{list_all-append}
use Rattle.sta_units.specs.Decimal.{number_on}
use Rattle.sta_units.proofs.Digits.{number_on-ge}
use Rattle.timing_defs.specs.Names.{is_graphic, is_name}
use Rattle.std.specs.Prelude.{Option, Some, None, option_map, option_and_then}
use Rattle.spef_reader.specs.declared.context.Context.{Context}
use Rattle.spef_reader.specs.Words.{spelled}
use Rattle.spef_reader.specs.Nodes.{name_word, named, spelled_name, name_of}

both : (a b : Bool) → (a && b) ≡ true → b ≡ true
both true b h = h
both false b h = absurd (false≢true h)

some : (n : ℕ) → 0 < n → not (n == 0) ≡ true
some n h = grind (arith, nat_tests)

pub joined_is_name : (left right : List ℕ) → is_name left ≡ true → is_name right ≡ true → is_name (left ++ 58 ∷ right) ≡ true
joined_is_name left right l r =
    let long : 0 < length (left ++ 58 ∷ right) = omega (arith, length-append left (58 ∷ right)) in
    let graphic : list_all is_graphic (left ++ 58 ∷ right) ≡ true =
    rw (list_all-append is_graphic left (58 ∷ right))
    (and_from (list_all is_graphic left) (list_all is_graphic right) (both (not (length left == 0)) (list_all is_graphic left) l)
    (both (not (length right == 0)) (list_all is_graphic right) r)) in
    and_from (not (length (left ++ 58 ∷ right) == 0)) (list_all is_graphic (left ++ 58 ∷ right)) (some (length (left ++ 58 ∷ right)) long) graphic

-- more digits write no smaller number
pub number_grows : (n : ℕ) (digits : List ℕ) → n ≤ number_on n digits
number_grows n digits = number_on-ge n digits

-- a pin's name is written piece by piece
pub pin_bytes : (left right : List ℕ) → (left ++ 58 ∷ []) ++ right ≡ left ++ 58 ∷ right
pin_bytes [] right = refl
pin_bytes (b ∷ left) right = ap (λ rest. b ∷ rest) (pin_bytes left right)

-- a word that is not read gives no name
pub unread : (c : Context) (word : List ℕ) → None ≡ option_map (spelled c.header.bus false) (name_word c word) → name_of c word ≡ None
unread c word h = by (name_word c word) h
  where
    by : (found : Option (List ℕ)) → None ≡ option_map (spelled c.header.bus false) found → option_and_then (spelled_name c) found ≡ None
    by None e = refl
    by (Some found) e = cc

-- the name that is read is that of the word
pub read : (c : Context) (word name : List ℕ) → Some name ≡ option_map (spelled c.header.bus false) (name_word c word) → name_of c word ≡ named name
read c word name h = by (name_word c word) h
  where
    by : (found : Option (List ℕ)) → Some name ≡ option_map (spelled c.header.bus false) found → option_and_then (spelled_name c) found ≡ named name
    by None e = cc
    by (Some found) e = ap (λ (x : Option (List ℕ)). option_and_then named x) (sym e)
