-- The units of a library (Liberty Reference Manual, "time_unit", "capacitive_load_unit") and numbers
-- in them. Times are read in fs and capacitances in aF.
use Rattle.std.specs.Prelude.{ℕ, ◌^◌, List, [], ◌∷◌, ◌++◌, Bool, true, false, ◌==◌, ◌&&◌, ◌||◌, not, codes, length, ℤ, pos, negsuc, ◌+ℤ◌, ◌-ℤ◌, int_lt, Option, Some, None, option_and_then, is_some, Result, Ok, Err, if◌then◌else◌}
use Rattle.std.specs.Option.{unwrap_or}
use Rattle.std.specs.Result.{result_ok, is_ok}
use Rattle.std.specs.Str.{bytes_eq}
use Rattle.sta_units.specs.Decimal.{digits_at, after_digits, has_minus, after_sign, after_point, after_fraction, after_letter, Written, written_of, decimal_of, number_on, signed}
use Rattle.sta_units.specs.declared.decimals.DecFault.{DecFault}
use Rattle.sta_units.specs.declared.decimals.DecFault.TheVariants.{NotDecimal, TooLong, OutOfUnitRange}
use Rattle.sta_units.specs.declared.units.Unit.{Unit}
use Rattle.timing_defs.specs.declared.liberty_tree.Lexeme.{Lexeme}
use Rattle.timing_defs.specs.declared.liberty_tree.Item.{Item}
use Rattle.liberty_cells.specs.declared.library_units.Known.{Known}
use Rattle.liberty_cells.specs.Statements.{lists, values, last, one_text}

abbrev pub unit : ℤ → Unit
unit ten = record { ten = ten }

-- a written unit of time
abbrev pub time_named : List ℕ → Option Unit
time_named text =
    (if bytes_eq text (codes "1ps") then Some (unit (pos 3)) else
    (if bytes_eq text (codes "10ps") then Some (unit (pos 4)) else
    (if bytes_eq text (codes "100ps") then Some (unit (pos 5)) else
    (if bytes_eq text (codes "1ns") then Some (unit (pos 6)) else None))))

-- without a unit of time it is 1 ns, which is known only once the whole text is read
unfoldable pub time_of : Bool → Option (List Lexeme) → Option Unit
time_of whole None = (if whole then Some (unit (pos 6)) else None)
time_of whole (Some value) = option_and_then time_named (one_text value)

abbrev pub time_unit : Bool → List Item → Option Unit
time_unit whole items = time_of whole (last (values (codes "time_unit") items))

-- the units of capacitance, in either case
abbrev pub is_ff : List ℕ → Bool
is_ff text =
    bytes_eq text (codes "ff") || bytes_eq text (codes "fF") || bytes_eq text (codes "Ff") || bytes_eq text (codes "FF")

abbrev pub is_pf : List ℕ → Bool
is_pf text =
    bytes_eq text (codes "pf") || bytes_eq text (codes "pF") || bytes_eq text (codes "Pf") || bytes_eq text (codes "PF")

-- a written unit of capacitance, as the power of ten of its aF
abbrev pub cap_ten : List ℕ → Option ℤ
cap_ten text = (if is_ff text then Some (pos 3) else (if is_pf text then Some (pos 6) else None))

-- the decimal's own exponent, behind all its digits
abbrev pub exponent_of : Written → ℤ
exponent_of w = signed w.lowers (number_on 0 w.exponent) -ℤ pos (length w.fraction)

abbrev pub is_ten_to : ℕ → ℤ → Bool
is_ten_to n (pos k) = n == 10 ^ k
is_ten_to n (negsuc k) = false

-- the power of a power of ten from 100 to 1000 that is n times ten to e
abbrev pub power_from_hundred : ℕ → ℤ → Option ℤ
power_from_hundred n e =
    (if is_ten_to n (pos 2 -ℤ e) then Some (pos 2) else (if is_ten_to n (pos 3 -ℤ e) then Some (pos 3) else None))

-- the same from 1 to 1000, and from 0.001 to 1000
abbrev pub power_from_one : ℕ → ℤ → Option ℤ
power_from_one n e =
    (if is_ten_to n (pos 0 -ℤ e) then Some (pos 0) else
    (if is_ten_to n (pos 1 -ℤ e) then Some (pos 1) else power_from_hundred n e))

abbrev pub power_with : ℕ → ℤ → Option ℤ
power_with n e =
    (if is_ten_to n (negsuc 2 -ℤ e) then Some (negsuc 2) else
    (if is_ten_to n (negsuc 1 -ℤ e) then Some (negsuc 1) else
    (if is_ten_to n (negsuc 0 -ℤ e) then Some (negsuc 0) else power_from_one n e)))

abbrev pub plain_power : Written → Option ℤ
plain_power w = power_with (number_on 0 (w.whole ++ w.fraction)) (exponent_of w)

abbrev pub power : Written → Option ℤ
power w = (if w.negative then None else plain_power w)

abbrev pub power_of : List ℕ → Option ℤ
power_of text = (if is_ok (decimal_of text (pos 0)) then option_and_then power (written_of text) else None)

abbrev pub cap_with : Option ℤ → Option ℤ → Option Unit
cap_with None k = None
cap_with (Some j) None = None
cap_with (Some j) (Some k) = Some (unit (j +ℤ k))

-- a power of ten and a unit
abbrev pub cap_of : List Lexeme → Option Unit
cap_of [] = None
cap_of (n ∷ []) = None
cap_of (n ∷ word ∷ []) = cap_with (power_of n.text) (cap_ten word.text)
cap_of (n ∷ word ∷ x ∷ xs) = None

unfoldable pub last_cap : Option (List Lexeme) → Option Unit
last_cap args = option_and_then cap_of args

abbrev pub cap_unit : List Item → Option Unit
cap_unit items = last_cap (last (lists (codes "capacitive_load_unit") items))

-- the units that are known
abbrev pub known : Bool → List Item → Known
known whole items = record { time = time_unit whole items; cap = cap_unit items }

abbrev pub is_short_decimal : Result ℤ DecFault → Bool
is_short_decimal (Ok value) = true
is_short_decimal (Err NotDecimal) = false
is_short_decimal (Err TooLong) = false
is_short_decimal (Err OutOfUnitRange) = true

-- a decimal in range; where the unit is not known, the range is not looked at, and 0 stands for it
abbrev pub number : Option Unit → List ℕ → Option ℤ
number None text = (if is_short_decimal (decimal_of text (pos 0)) then Some (pos 0) else None)
number (Some u) text = result_ok (decimal_of text u.ten)

abbrev pub is_number : Option Unit → List ℕ → Bool
is_number u text = is_some (number u text)

abbrev pub number_or_zero : Option Unit → List ℕ → ℤ
number_or_zero u text = unwrap_or (number u text) (pos 0)

-- a capacitance, which is not negative
abbrev pub is_cap : Option Unit → List ℕ → Bool
is_cap u text = is_number u text && not (int_lt (number_or_zero u text) (pos 0))

-- the parts of a text that is a decimal
abbrev pub parts : List ℕ → Written
parts text =
    record {
      negative = has_minus text;
      whole = digits_at (after_sign text);
      fraction = digits_at (after_point (after_digits (after_sign text)));
      lowers = has_minus (after_letter (after_fraction (after_digits (after_sign text))));
      exponent = after_sign (after_letter (after_fraction (after_digits (after_sign text))));
    }
