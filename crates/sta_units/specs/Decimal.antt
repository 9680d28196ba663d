-- A written decimal number and its value in a unit.
use Rattle.std.specs.Prelude.{ℕ, suc, ◌+◌, ◌-◌, ◌*◌, ◌^◌, Bool, true, false, not, ◌&&◌, ◌||◌, if◌then◌else◌, nat_lt, ◌==◌, List, [], ◌∷◌, ◌++◌, length, take, drop, ℤ, pos, negsuc, neg_ℤ, ◌+ℤ◌, ◌-ℤ◌, ◌*ℤ◌, Option, Some, None, Result, Ok, Err}
use Rattle.std.specs.List.{prefix_len, list_all}
use Rattle.std.specs.Char.{is_ascii_digit}
use Rattle.sta_units.specs.Numbers.{rounded, is_within}
use Rattle.sta_units.specs.declared.decimals.DecFault.{DecFault}
use Rattle.sta_units.specs.declared.decimals.DecFault.TheVariants.{NotDecimal, TooLong, OutOfUnitRange}

-- the digits at the front of a text, and what follows them
abbrev pub digits_at : List ℕ → List ℕ
digits_at text = take (prefix_len is_ascii_digit text) text

abbrev pub after_digits : List ℕ → List ℕ
after_digits text = drop (prefix_len is_ascii_digit text) text

-- a minus (45) stands at the front, and a text without the plus (43) or minus at its front
abbrev pub has_minus : List ℕ → Bool
has_minus [] = false
has_minus (c ∷ cs) = c == 45

abbrev pub after_sign : List ℕ → List ℕ
after_sign [] = []
after_sign (c ∷ cs) = if c == 43 || c == 45 then cs else c ∷ cs

-- the text after a point (46) at the front; without a point there is none
abbrev pub after_point : List ℕ → List ℕ
after_point [] = []
after_point (c ∷ cs) = if c == 46 then cs else []

-- what follows a point and its digits, where they stand at the front
abbrev pub after_fraction : List ℕ → List ℕ
after_fraction [] = []
after_fraction (c ∷ cs) = if c == 46 then after_digits cs else c ∷ cs

-- one digit or more, and nothing else
abbrev pub is_whole : List ℕ → Bool
is_whole digits = not (length digits == 0) && list_all is_ascii_digit digits

-- nothing, or 'e' (101) or 'E' (69), an optional sign and digits
abbrev pub is_exponent : List ℕ → Bool
is_exponent [] = true
is_exponent (c ∷ cs) = (c == 101 || c == 69) && is_whole (after_sign cs)

-- what follows the letter of an exponent
abbrev pub after_letter : List ℕ → List ℕ
after_letter [] = []
after_letter (c ∷ cs) = cs

-- the parts of a decimal; `lowers` where the exponent has a minus; without an exponent its digits are none
pub record Written : Type 0 where
  pub negative : Bool
  pub whole : List ℕ
  pub fraction : List ℕ
  pub lowers : Bool
  pub exponent : List ℕ

-- an optional sign, digits with an optional point, at least one digit, an optional exponent
unfoldable pub written_of : List ℕ → Option Written
written_of text =
    let unsigned = after_sign text in
    let rest = after_digits unsigned in
    let fraction = digits_at (after_point rest) in
    let tail = after_fraction rest in
    if not (length (digits_at unsigned) + length fraction == 0) && is_exponent tail
    then Some (record {
      negative = has_minus text;
      whole = digits_at unsigned;
      fraction = fraction;
      lowers = has_minus (after_letter tail);
      exponent = after_sign (after_letter tail);
    })
    else None

-- the number that digits write after those of n
abbrev pub number_on : ℕ → List ℕ → ℕ
number_on n [] = n
number_on n (c ∷ cs) = number_on (10 * n + (c - 48)) cs

abbrev pub signed : Bool → ℕ → ℤ
signed negative n = if negative then neg_ℤ (pos n) else pos n

-- m times a power of ten, rounded once
abbrev pub scaled : ℤ → ℤ → ℤ
scaled m (pos k) = m *ℤ pos (10 ^ k)
scaled m (negsuc k) = rounded m (pos (10 ^ suc k))

abbrev pub in_range : ℤ → Result ℤ DecFault
in_range z = if is_within z then Ok z else Err OutOfUnitRange

-- the value of a decimal times 10^ten; at most 30 digits and an exponent from -30 to 30
abbrev pub value_of : Written → ℤ → Result ℤ DecFault
value_of w ten =
    let exponent = number_on 0 w.exponent in
    if nat_lt 30 (length w.whole + length w.fraction) || nat_lt 30 exponent
    then Err TooLong
    else in_range (scaled (signed w.negative (number_on 0 (w.whole ++ w.fraction))) (signed w.lowers exponent +ℤ ten -ℤ pos (length w.fraction)))

abbrev pub value_or_fault : Option Written → ℤ → Result ℤ DecFault
value_or_fault None ten = Err NotDecimal
value_or_fault (Some w) ten = value_of w ten

-- the whole number that a decimal gives in a unit of 10^ten, or why there is none
unfoldable pub decimal_of : List ℕ → ℤ → Result ℤ DecFault
decimal_of text ten = value_or_fault (written_of text) ten
