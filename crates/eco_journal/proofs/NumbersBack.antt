-- The decimal digits of a number write that number.
use Rattle.std.proofs.Common.{◌≡◌, ℕ, ◌^◌, ◌<◌, ◌≤◌, List, [], ◌∷◌, length, true, refl, arith, rules}
use Rattle.std.specs.Prelude.{Some, decimal}
use Rattle.std.specs.List.{list_all}
use Rattle.std.specs.Char.{is_ascii_digit}
use Rattle.std.proofs.lemmas.Str.Parse.{IsNumeralModel, numerals_by_fold}
use Rattle.std.proofs.lemmas.Fmt.{digits_decimal, digits_value-decimal, decimal_nonempty, length-decimal-le}
use Rattle.sta_units.specs.Decimal.{number_on}
use Rattle.timing_defs.specs.Names.{is_name}
use Rattle.eco_journal.specs.Words.{number_of}
use Rattle.eco_journal.proofs.Joined.{graphic}

numeral : IsNumeralModel (λ ds. list_all is_ascii_digit ds ≡ true) (number_on 0)
numeral = numerals_by_fold _ (search rules) number_on (search rules)

digits_graphic : (ds : List ℕ) → list_all is_ascii_digit ds ≡ true → graphic ds ≡ true
digits_graphic [] h = refl
digits_graphic (d ∷ ds) h = grind (arith, digits_graphic ds)

pub decimal_graphic : (n : ℕ) → n < 2 ^ 64 → graphic (decimal n) ≡ true
decimal_graphic n small = digits_graphic (decimal n) (digits_decimal numeral n small)

-- and are a word
pub decimal_name : (n : ℕ) → n < 2 ^ 64 → is_name (decimal n) ≡ true
decimal_name n small = grind (arith, decimal_graphic n small, decimal_nonempty n small)

pub number_back : (n : ℕ) → n < 2 ^ 64 → number_of (decimal n) ≡ Some n
number_back n small =
    let digits : list_all is_ascii_digit (decimal n) ≡ true = digits_decimal numeral n small in
    let value : number_on 0 (decimal n) ≡ n = digits_value-decimal numeral n small in
    let some : 0 < length (decimal n) = decimal_nonempty n small in
    let wide : n < 10 ^ 20 = omega (arith, small) in
    let few : length (decimal n) ≤ 20 = length-decimal-le 20 n (omega arith) wide small in
    grind arith
