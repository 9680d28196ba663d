-- A rounded quotient is at most its dividend.
use Rattle.std.proofs.Common.{◌≡◌, ℕ, ◌+◌, ◌-◌, ◌*◌, ◌/◌, ◌<◌, ◌≤◌, ℤ, pos, negsuc, ◌+ℤ◌, ◌*ℤ◌, ◌≤ℤ◌, unsigned_abs, inl, inr, arith}
use Rattle.std.proofs.lemmas.Nat.{div_below, mul-le}
use Rattle.std.proofs.lemmas.Bool.{cases_lt}
use Rattle.std.proofs.lemmas.Int.{ints, to_z-of_z}
use Rattle.sta_units.specs.Numbers.{rounded}

-- at most 2a + d over 2d is at most a
half_up : (a d n : ℕ) → 0 < d → n ≤ 2 * a + d → n / (2 * d) ≤ a
half_up a d n h below =
    let grown : a * 1 ≤ a * d = mul-le a 1 a d (omega arith) h in
    let room : n < (a + 1) * (2 * d) = omega (arith, grown) in
    omega (arith, div_below n (2 * d) (a + 1) (omega arith) room)

bound_by : (n : ℤ) (d : ℕ) → 0 < d → unsigned_abs (rounded n (pos d)) ≤ unsigned_abs n
unfolding rounded
bound_by (pos a) d h = half_up a d (2 * a + d) h (omega arith)
bound_by (negsuc a) d h = elim (cases_lt d (2 * a + 2)) [
  | inl less ↦
      let sum : pos 2 *ℤ negsuc a +ℤ pos d ≡ negsuc (2 * a + 1 - d) = omega (arith, ints) in
      rw sum (omega (arith, half_up a d (2 * a + 1 - d) h (omega arith)))
  | inr more ↦
      let sum : pos 2 *ℤ negsuc a +ℤ pos d ≡ pos (d - (2 * a + 2)) = omega (arith, ints) in
      rw sum (omega (arith, half_up 0 d (d - (2 * a + 2)) h (omega arith)))
]

pub rounded-bound : (n d : ℤ) → pos 1 ≤ℤ d → unsigned_abs (rounded n d) ≤ unsigned_abs n
rounded-bound n (pos d) h = bound_by n d (omega (arith, ints))
rounded-bound n (negsuc d) h = absurd (omega (arith, ints))

-- for sums, products and rounded quotients of signed numbers
pub ruleset signed_steps = (to_z-of_z, rounded-bound, ints)
