-- The whole square root is the one number that its two bounds allow.
use Rattle.std.proofs.Common.{◌≡◌, ℕ, zero, suc, ◌+◌, ◌*◌, ◌/◌, ◌%◌, ◌^◌, ◌<◌, ◌≤◌, inl, inr, arith, le-leb, ap, ◌∙◌}
use Rattle.std.proofs.lemmas.Bool.{lt-leb, cases_lt}
use Rattle.std.proofs.Math.Nat.{pow-le-pow_right, one-le-pow, mod-eq_of_lt, mul_assoc, mul_comm}
use Rattle.std.proofs.lemmas.Nat.{mul-le, pow-add}
use Rattle.sta_units.specs.Numbers.{root_up_to, root_of}

-- a number whose square is at most n is below one whose square is above n
root_below : (n r s : ℕ) → r * r ≤ n → n < s * s → r < s
root_below n r s low high = elim (cases_lt r s) [
  | inl under ↦ under
  | inr over ↦ absurd (omega (arith, mul-le s s r r over over))
]

-- from r upward, the search downward stops at r
up_to_is : (n r k : ℕ) → r ≤ k → r * r ≤ n → n < suc r * suc r → root_up_to k n ≡ r
unfolding root_up_to
up_to_is n r zero start low high = omega arith
up_to_is n r (suc k) start low high = elim (cases_lt n (suc k * suc k)) [
  | inl small ↦
      let under : r ≤ k = omega (arith, root_below n r (suc k) low small) in
      rw (lt-leb (suc k * suc k) n small) (up_to_is n r k under low high)
  | inr large ↦
      rw (le-leb (suc k * suc k) n large) (omega (arith, root_below n (suc k) (suc r) large high))
]

-- r is the root of n where n lies from r * r to below (r + 1) * (r + 1)
pub root_of_is : (n r : ℕ) → r * r ≤ n → n < (r + 1) * (r + 1) → root_of n ≡ r
unfolding root_of
root_of_is n zero low high = up_to_is n zero n (omega arith) low (omega arith)
root_of_is n (suc r) low high =
    up_to_is n (suc r) n (omega (arith, mul-le (suc r) 1 (suc r) (suc r))) low (omega arith)

-- where the binary logarithm of n is k, the search begins between two powers of two of half of it
module _ (n k : ℕ) (low : 2 ^ k ≤ n) (high : n < 2 * 2 ^ k) where
  abbrev h : ℕ
  h = k / 2

  power_within : 2 ^ h * 2 ^ h ≤ n
  power_within =
      let twice : h + h ≤ k = omega arith in
      let power : 2 ^ (h + h) ≤ 2 ^ k = pow-le-pow_right (omega arith) twice in
      let square : 2 ^ (h + h) ≡ 2 ^ h * 2 ^ h = pow-add 2 h h in
      omega (arith, power, square, low)

  four : (a : ℕ) → (2 * a) * (2 * a) ≡ 4 * (a * a)
  four a =
      let first : (2 * a) * (2 * a) ≡ 2 * (a * (2 * a)) = mul_assoc 2 a (2 * a) in
      let turned : a * (2 * a) ≡ (2 * a) * a = mul_comm a (2 * a) in
      let second : (2 * a) * a ≡ 2 * (a * a) = mul_assoc 2 a a in
      omega (arith, first, turned, second)

  power_above : n < (2 * 2 ^ h) * (2 * 2 ^ h)
  power_above =
      let twice : k ≤ h + h + 1 = omega arith in
      let power : 2 ^ k ≤ 2 ^ (h + h + 1) = pow-le-pow_right (omega arith) twice in
      let square : 2 ^ (h + h) ≡ 2 ^ h * 2 ^ h = pow-add 2 h h in
      let one : 2 ^ (h + h + 1) ≡ 2 ^ (h + h) * 2 ^ 1 = pow-add 2 (h + h) 1 in
      omega (arith, power, square, one, four (2 ^ h), high)

  one_at_least : 1 ≤ 2 ^ h
  one_at_least = one-le-pow h 2 (omega arith)

  module _ (small : k < 128) where
    power_small : 2 ^ h ≤ 2 ^ 63
    power_small =
        let few : h ≤ 63 = omega (arith, small) in
        pow-le-pow_right (omega arith) few

    abbrev most : ℕ
    most = 340282366920938463463374607431768211456

    low_is : 1 * 2 ^ h % most ≡ 2 ^ h
    low_is = ap (λ a. a % most) (omega arith) ∙ mod-eq_of_lt (omega (arith, power_small))

    high_is : 2 * 2 ^ h % most ≡ 2 * 2 ^ h
    high_is = mod-eq_of_lt (omega (arith, power_small))

    pub starts : (1 * 2 ^ h % most * (1 * 2 ^ h % most) ≤ n) × (n < 2 * 2 ^ h % most * (2 * 2 ^ h % most)) × (1 * 2 ^ h % most < 2 * 2 ^ h % most) × (2 * 2 ^ h % most ≤ 2 ^ 64)
    starts = rw (low_is, high_is) (power_within, power_above, omega (arith, one_at_least), omega (arith, power_small))

  -- the same in 64 bits
  module _ (near : k < 64) where
    power_near : 2 ^ h ≤ 2 ^ 31
    power_near =
        let few : h ≤ 31 = omega (arith, near) in
        pow-le-pow_right (omega arith) few

    abbrev most_near : ℕ
    most_near = 18446744073709551616

    near_low_is : 1 * 2 ^ h % most_near ≡ 2 ^ h
    near_low_is = ap (λ a. a % most_near) (omega arith) ∙ mod-eq_of_lt (omega (arith, power_near))

    near_high_is : 2 * 2 ^ h % most_near ≡ 2 * 2 ^ h
    near_high_is = mod-eq_of_lt (omega (arith, power_near))

    pub starts_near : (1 * 2 ^ h % most_near * (1 * 2 ^ h % most_near) ≤ n) × (n < 2 * 2 ^ h % most_near * (2 * 2 ^ h % most_near)) × (1 * 2 ^ h % most_near < 2 * 2 ^ h % most_near) × (2 * 2 ^ h % most_near ≤ 2 ^ 32)
    starts_near = rw (near_low_is, near_high_is) (power_within, power_above, omega (arith, one_at_least), omega (arith, power_near))
