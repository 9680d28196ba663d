-- Numbers of static timing: rounding, roots and the range of computed quantities.
use Rattle.std.specs.Prelude.{ℕ, zero, suc, ◌*◌, ◌^◌, ◌≤◌, Bool, if◌then◌else◌, nat_le, ℤ, pos, ◌+ℤ◌, ◌*ℤ◌, unsigned_abs}
use Rattle.std.specs.Int.{int_div_euclid}

-- n / d to the nearest whole number, halves upward, for d > 0: floor((2n + d) / 2d) (own rule of rounding)
unfoldable pub rounded : ℤ → ℤ → ℤ
rounded n d = int_div_euclid (pos 2 *ℤ n +ℤ d) (pos 2 *ℤ d)

-- the greatest r up to k with r * r <= n
unfoldable pub root_up_to : ℕ → ℕ → ℕ
root_up_to zero n = 0
root_up_to (suc k) n = if nat_le (suc k * suc k) n then suc k else root_up_to k n

-- the whole square root: the greatest r with r * r <= n
unfoldable pub root_of : ℕ → ℕ
root_of n = root_up_to n n

-- the greatest absolute value of a computed quantity: 10^12 fs is one millisecond (own limit)
abbrev pub limit : ℕ
limit = 10 ^ 12

-- z lies within the limit, ends included
abbrev pub Within : ℤ → Type 0
Within z = unsigned_abs z ≤ limit

-- the test of it
abbrev pub is_within : ℤ → Bool
is_within z = nat_le (unsigned_abs z) limit
