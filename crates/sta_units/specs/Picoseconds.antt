-- How a time is printed: picoseconds with three decimals.
use Rattle.std.specs.Prelude.{ℕ, suc, ◌/◌, ◌%◌, List, ◌∷◌, ◌++◌, ℤ, pos, negsuc, decimal}

-- n thousandths: the whole part without leading zeros, a point (46), three digits
unfoldable pub thousandths_text : ℕ → List ℕ
thousandths_text n =
    decimal (n / 1000) ++ (46 ∷ (decimal (n / 100 % 10) ++ (decimal (n / 10 % 10) ++ decimal (n % 10))))

-- femtoseconds as picoseconds, after a minus sign (45) where they are negative
unfoldable pub ps_text : ℤ → List ℕ
ps_text (pos n) = thousandths_text n
ps_text (negsuc n) = 45 ∷ thousandths_text (suc n)
