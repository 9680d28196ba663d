-- 20 digits write a number that fits.
use Rattle.std.proofs.Common.{◌≡◌, ℕ, ◌^◌, ◌<◌, ◌≤◌, List, length, true}
use Rattle.std.specs.List.{list_all}
use Rattle.std.specs.Char.{is_ascii_digit}
use Rattle.sta_units.specs.Decimal.{number_on}
use Rattle.sta_units.proofs.Digits.{number_short}

pub short : (ds : List ℕ) → list_all is_ascii_digit ds ≡ true → length ds ≤ 20 → number_on 0 ds < 10 ^ 20
short ds digits few = number_short ds 20 digits few
