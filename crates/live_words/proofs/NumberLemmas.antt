use Rattle.std.proofs.Common.{ℕ, ◌+◌, ◌-◌, ◌*◌, ◌≤◌, List, [], ◌∷◌, arith}
use Rattle.command_words.specs.Numbers.{number_behind}

-- a number only grows with the digits behind it
pub number_grows : (n : ℕ) (digits : List ℕ) → n ≤ number_behind n digits
number_grows n [] = omega arith
number_grows n (digit ∷ digits) = omega (arith, number_grows (10 * n + (digit - 48)) digits)
