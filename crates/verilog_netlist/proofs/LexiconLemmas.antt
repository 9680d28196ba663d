-- Numbers of at most nine digits.
use Rattle.std.proofs.Common.{◌≡◌, ℕ, ◌^◌, ◌<◌, List, true, arith}
use Rattle.sta_units.specs.Decimal.{number_on}
use Rattle.sta_units.proofs.Digits.{number_short}
use Rattle.verilog_netlist.specs.Lexicon.{is_number}

-- a number of nine digits is below a thousand million
pub number_small : (word : List ℕ) → is_number word ≡ true → number_on 0 word < 10 ^ 9
unfolding is_number
number_small word h = number_short word 9 (grind arith) (grind arith)
