-- Whole numbers of a command line: 1 to 20 decimal digits.
use Rattle.std.specs.Prelude.{ℕ, ◌+◌, ◌-◌, ◌*◌, ◌%◌, List, [], ◌∷◌, Bool, ◌==◌, ◌&&◌, nat_le, length, if◌then◌else◌, Option, Some, None}
use Rattle.std.specs.Char.{is_ascii_digit}
use Rattle.std.specs.List.{list_all}

-- the number that decimal digits write, behind the digits of n
abbrev pub number_behind : ℕ → List ℕ → ℕ
number_behind n [] = n
number_behind n (digit ∷ digits) = number_behind (10 * n + (digit - 48)) digits

abbrev pub is_number : List ℕ → Bool
is_number word = nat_le 1 (length word) && nat_le (length word) 20 && list_all is_ascii_digit word

-- the number of a word, from `low` to `high`
abbrev pub within : ℕ → ℕ → List ℕ → Option ℕ
within low high word =
    (if is_number word && nat_le low (number_behind 0 word) && nat_le (number_behind 0 word) high then Some (number_behind 0 word) else None)

-- the same, and a multiple of 4
abbrev pub multiple_within : ℕ → ℕ → List ℕ → Option ℕ
multiple_within low high word =
    (if is_number word && nat_le low (number_behind 0 word) && nat_le (number_behind 0 word) high && number_behind 0 word % 4 == 0
    then Some (number_behind 0 word)
    else None)
