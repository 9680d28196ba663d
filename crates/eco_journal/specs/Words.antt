-- Words by their places in a line, and the numbers that they write (own).
use Rattle.std.specs.Prelude.{ℕ, List, [], Bool, ◌&&◌, nat_le, length, get_or, if◌then◌else◌, Option, Some, None}
use Rattle.std.specs.Char.{is_ascii_digit}
use Rattle.std.specs.List.{list_all}
use Rattle.std.specs.Str.{bytes_eq}
use Rattle.sta_units.specs.Decimal.{number_on}
use Rattle.timing_defs.specs.Names.{is_name}
use Rattle.eco_journal.specs.Lines.{Part}

abbrev pub nowhere : Part
nowhere = record { text = []; at = 0 }

-- the word at a place of a line, from 0, and where it begins
abbrev pub text : List Part → ℕ → List ℕ
text words k = (get_or words k nowhere).text

abbrev pub at : List Part → ℕ → ℕ
at words k = (get_or words k nowhere).at

-- the word at a place is this one
abbrev pub says : List Part → ℕ → List ℕ → Bool
says words k wanted = bytes_eq (text words k) wanted

-- graphic bytes, at least one
abbrev pub is_word : Part → Bool
is_word word = is_name word.text

-- the number that 1 to 20 decimal digits write
abbrev pub number_of : List ℕ → Option ℕ
number_of digits =
    (if nat_le 1 (length digits) && nat_le (length digits) 20 && list_all is_ascii_digit digits
    then Some (number_on 0 digits)
    else None)

-- the number, where it lies from `low` to `high`
abbrev pub within : ℕ → ℕ → Option ℕ → Option ℕ
within low high None = None
within low high (Some n) = (if nat_le low n && nat_le n high then Some n else None)
