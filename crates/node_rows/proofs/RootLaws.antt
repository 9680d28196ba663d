-- The slew at the end of a wire: the root of the sum of a square and an impulse.

use Rattle.std.proofs.Common.{◌≡◌, ℕ, zero, suc, ◌+◌, ◌*◌, ◌<◌, ◌≤◌, ◌^◌, ℤ, pos, negsuc, ◌+ℤ◌, ◌*ℤ◌, unsigned_abs, false, refl, ap, inl, inr, arith}
use Rattle.std.specs.Prelude.{nat_abs}
use Rattle.std.proofs.lemmas.Bool.{cases_lt, lt-leb, le-leb}
use Rattle.std.proofs.lemmas.Nat.{mul-le}
use Rattle.sta_units.specs.Numbers.{root_up_to, root_of, limit, is_within}
use Rattle.node_rows.specs.WireTables.{root_slew}

-- the next number's square is above
root_next : (n k : ℕ) → n < (k + 1) * (k + 1) → n < (root_up_to k n + 1) * (root_up_to k n + 1)
unfolding root_up_to
root_next n zero h = h
root_next n (suc k) h = elim (cases_lt n (suc k * suc k)) [
  | inl small ↦ rw (lt-leb (suc k * suc k) n small) (root_next n k (let e : suc k * suc k ≡ (k + 1) * (k + 1) = omega arith in omega (arith, e, small)))
  | inr large ↦ rw (le-leb (suc k * suc k) n large) h
]

next_above : (n : ℕ) → n < (root_of n + 1) * (root_of n + 1)
unfolding root_of
next_above n = root_next n n (let most = mul-le (n + 1) 1 (n + 1) (n + 1) (omega arith) (omega arith) in omega (arith, most))

-- the root of what is at least the next square is greater
above : (n l : ℕ) → (l + 1) * (l + 1) ≤ n → l < root_of n
above n l h = elim (cases_lt l (root_of n)) [
  | inl more ↦ more
  | inr less ↦
      let most = mul-le (root_of n + 1) (root_of n + 1) (l + 1) (l + 1) (omega arith) (omega arith) in
      let next = next_above n in
      absurd (omega (arith, most, next, h))
]

square_abs : (x : ℤ) (n : ℕ) → nat_abs (x *ℤ x +ℤ pos n) ≡ unsigned_abs x * unsigned_abs x + n
square_abs (pos m) n = refl
square_abs (negsuc m) n = refl

-- a sum that passes 128 bits has a root beyond the limit
pub root_large : (slew : ℤ) (impulse size : ℕ) → size ≡ unsigned_abs slew → (impulse + size * size < 2 ^ 128 → ⊥) → is_within (root_slew slew impulse) ≡ false
root_large slew impulse size is h = elim (cases_lt (impulse + size * size) (2 ^ 128)) [
  | inl low ↦ absurd (h low)
  | inr high ↦
      let e = square_abs slew impulse in
      let same : size * size ≡ unsigned_abs slew * unsigned_abs slew = ap (λ m. m * m) is in
      let more = above (nat_abs (slew *ℤ slew +ℤ pos impulse)) limit (omega (arith, e, same, high)) in
      lt-leb (root_of (nat_abs (slew *ℤ slew +ℤ pos impulse))) limit more
]
