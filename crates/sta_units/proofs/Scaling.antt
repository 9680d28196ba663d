-- A decimal whose value is out of range, or rounds to 0, is told without its value.
use Rattle.std.proofs.Common.{◌≡◌, ℕ, zero, suc, ◌+◌, ◌-◌, ◌*◌, ◌/◌, ◌^◌, ◌<◌, ◌≤◌, ℤ, pos, negsuc, ◌+ℤ◌, ◌*ℤ◌, unsigned_abs, FitsSigned, refl, arith, Ok, Err}
use Rattle.std.proofs.Math.Nat.{pow-le-pow_right, one-le-pow, div-eq_of_lt}
use Rattle.std.proofs.lemmas.Bool.{lt-leb}
use Rattle.std.proofs.lemmas.Nat.{mul-le}
use Rattle.std.proofs.lemmas.Int.{ints, unsigned_abs-mul, fits_signed_mul}
use Rattle.sta_units.specs.Numbers.{rounded, limit}
use Rattle.sta_units.specs.Decimal.{in_range}
use Rattle.sta_units.specs.declared.decimals.DecFault.TheVariants.{OutOfUnitRange}
use mir.Syntax.{w128}
use mir.Val.{of_z}

over : (z : ℤ) → limit < unsigned_abs z → Err OutOfUnitRange ≡ in_range z
over z h = rw (lt-leb (unsigned_abs z) limit h) refl

-- a number whose bits are not all 0 is at least 1
nonzero : (m : ℤ) → (of_z w128 m ≡ 0 → ⊥) → 1 ≤ unsigned_abs m
nonzero (pos zero) h = absurd (h refl)
nonzero (pos (suc n)) h = omega arith
nonzero (negsuc n) h = omega arith

pub power_over : (m : ℤ) (k : ℕ) → (of_z w128 m ≡ 0 → ⊥) → 12 < k → Err OutOfUnitRange ≡ in_range (m *ℤ pos (10 ^ k))
power_over m k some large =
    let high : 10 ^ 13 ≤ 10 ^ k = pow-le-pow_right (omega arith) large in
    let product : 1 * 10 ^ 13 ≤ unsigned_abs m * 10 ^ k = mul-le 1 (10 ^ 13) (unsigned_abs m) (10 ^ k) (nonzero m some) high in
    over (m *ℤ pos (10 ^ k)) (omega (arith, unsigned_abs-mul m (pos (10 ^ k)), product))

pub mantissa_over : (m : ℤ) (k : ℕ) → limit < unsigned_abs m → Err OutOfUnitRange ≡ in_range (m *ℤ pos (10 ^ k))
mantissa_over m k large =
    let low : 1 ≤ 10 ^ k = one-le-pow k 10 (omega arith) in
    let product : unsigned_abs m * 1 ≤ unsigned_abs m * 10 ^ k = mul-le (unsigned_abs m) 1 (unsigned_abs m) (10 ^ k) (omega arith) low in
    over (m *ℤ pos (10 ^ k)) (omega (arith, unsigned_abs-mul m (pos (10 ^ k)), product))

pub product_fits : (m : ℤ) (k : ℕ) → unsigned_abs m ≤ limit → k ≤ 12 → FitsSigned w128 (m *ℤ pos (10 ^ k))
product_fits m k short low =
    let top : 10 ^ k ≤ 10 ^ 12 = pow-le-pow_right (omega arith) low in
    fits_signed_mul w128 m (pos (10 ^ k)) limit (10 ^ 12) short top (omega arith)

-- less than half of the divisor rounds to 0
rounded-small : (n : ℤ) (d : ℕ) → 2 * unsigned_abs n < d → rounded n (pos d) ≡ pos 0
unfolding rounded
rounded-small (pos n) d small =
    let none : (2 * n + d) / (2 * d) ≡ 0 = div-eq_of_lt (omega arith) in
    rw none refl
rounded-small (negsuc n) d small =
    let sum : pos 2 *ℤ negsuc n +ℤ pos d ≡ pos (d - (2 * n + 2)) = omega (arith, ints) in
    let none : (d - (2 * n + 2)) / (2 * d) ≡ 0 = div-eq_of_lt (omega arith) in
    rw (sum, none) refl

pub rounds_away : (m : ℤ) (k : ℕ) → unsigned_abs m < 10 ^ 30 → 30 < k → Ok (pos 0) ≡ in_range (rounded m (pos (10 ^ k)))
rounds_away m k short large =
    let high : 10 ^ 31 ≤ 10 ^ k = pow-le-pow_right (omega arith) large in
    rw (rounded-small m (10 ^ k) (omega (arith, high))) refl
