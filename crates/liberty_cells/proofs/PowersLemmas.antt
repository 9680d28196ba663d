use Rattle.std.proofs.Common.{◌≡◌, ℕ, ◌+◌, ◌^◌, ◌<◌, ◌≤◌, List, ◌++◌, length, Bool, true, false, Option, Some, None, Result, Err, cond, refl, arith, rules}
use Rattle.std.specs.Prelude.{ℤ, pos, negsuc, ◌<ℤ◌, ◌≤ℤ◌, unsigned_abs, ◌+ℤ◌, ◌-ℤ◌, ◌||◌, ◌&&◌, not, nat_lt, ◌==◌}
use Rattle.std.specs.Result.{is_ok}
use Rattle.std.proofs.lemmas.Grind.{common_steps}
use Rattle.std.proofs.lemmas.Bool.{ne_eqb}
use Rattle.std.proofs.lemmas.Int.{ints}
use Rattle.std.proofs.Math.Nat.{pow-le-pow_right}
use Rattle.sta_units.specs.Decimal.{Written, is_exponent, after_sign, after_digits, after_fraction, value_of, value_or_fault, decimal_of, written_of, number_on, in_range, scaled, signed}
use Rattle.sta_units.specs.declared.decimals.DecFault.TheVariants.{TooLong}
use Rattle.liberty_cells.specs.Units.{parts, is_ten_to}

-- a number of two parts of which neither is too long
neither : (a b : ℕ) (x y : Bool) → x ≡ nat_lt 30 a → y ≡ nat_lt 30 b → (x || y) ≡ false → (a ≤ 30) × (b ≤ 30)
neither a b true y ex ey h = cc
neither a b false true ex ey h = cc
neither a b false false ex ey h = (grind (arith, common_steps), grind (arith, common_steps))

not_long : {E : Type 0} (b : Bool) (e : E) (r : Result ℤ E) → is_ok (cond b (Err e) r) ≡ true → b ≡ false
not_long {E} true e r h = cc
not_long {E} false e r h = refl

-- a decimal that has a value is short
short : (w : Written) (ten : ℤ) → is_ok (value_of w ten) ≡ true → (length w.whole + length w.fraction ≤ 30) × (number_on 0 w.exponent ≤ 30)
short w ten h =
    neither (length w.whole + length w.fraction) (number_on 0 w.exponent)
    (nat_lt 30 (length w.whole + length w.fraction)) (nat_lt 30 (number_on 0 w.exponent)) refl refl
    (not_long (nat_lt 30 (length w.whole + length w.fraction) || nat_lt 30 (number_on 0 w.exponent)) TooLong
    (in_range (scaled (signed w.negative (number_on 0 (w.whole ++ w.fraction))) (signed w.lowers (number_on 0 w.exponent) +ℤ ten -ℤ pos (length w.fraction)))) h)

-- what is written where the parts are those of a decimal
written : List ℕ → Bool → Option Written
written text b = cond b (Some (parts text)) None

abbrev Reads : List ℕ → Option Written → Type 0
Reads text found = (found ≡ Some (parts text)) × (length (parts text).whole + length (parts text).fraction ≤ 30) × (number_on 0 (parts text).exponent ≤ 30)

reads : (text : List ℕ) (ten : ℤ) (b : Bool) → is_ok (value_or_fault (cond b (Some (parts text)) None) ten) ≡ true → Reads text (cond b (Some (parts text)) None)
reads text ten true h = let p = short (parts text) ten h in (refl, p.0, p.1)
reads text ten false h = cc

-- a decimal that has a value is read as its parts
pub is_decimal : (text : List ℕ) (ten : ℤ) → is_ok (decimal_of text ten) ≡ true → Reads text (written_of text)
unfolding decimal_of written_of
is_decimal text ten h =
    reads text ten (not (length (parts text).whole + length (parts text).fraction == 0) && is_exponent (after_fraction (after_digits (after_sign text)))) h

pub is_written : (text : List ℕ) (ten : ℤ) → is_ok (decimal_of text ten) ≡ true → written_of text ≡ Some (parts text)
is_written text ten h = (is_decimal text ten h).0

pub short_whole : (text : List ℕ) (ten : ℤ) → is_ok (decimal_of text ten) ≡ true → length (parts text).whole + length (parts text).fraction ≤ 30
short_whole text ten h = (is_decimal text ten h).1

pub short_exponent : (text : List ℕ) (ten : ℤ) → is_ok (decimal_of text ten) ≡ true → number_on 0 (parts text).exponent ≤ 30
short_exponent text ten h = (is_decimal text ten h).2

-- a number below a power of ten is no greater power
pub below_power : (n k : ℕ) → n < 10 ^ 30 → 30 < k → (n == 10 ^ k) ≡ false
below_power n k h far =
    ne_eqb n (10 ^ k)
    (λ e. let ten : 0 < 10 = omega arith in let below : 30 ≤ k = omega arith in let p : 10 ^ 30 ≤ 10 ^ k = pow-le-pow_right ten below in omega (arith, p, e, h))

-- a negative power of ten is no whole number
pub is_ten_below : (n : ℕ) (z : ℤ) → z <ℤ pos 0 → is_ten_to n z ≡ false
is_ten_below n (pos k) h = absurd (search (rules, ints))
is_ten_below n (negsuc k) h = refl

pub is_ten_above : (n : ℕ) (z : ℤ) → pos 0 ≤ℤ z → is_ten_to n z ≡ (n == 10 ^ unsigned_abs z)
is_ten_above n (pos k) h = refl
is_ten_above n (negsuc k) h = absurd (search (rules, ints))
