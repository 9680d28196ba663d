-- The values of decimals lie within the limit.
use Rattle.std.proofs.Common.{◌≡◌, ℕ, ◌+◌, true, List, ◌++◌, length}
use Rattle.std.specs.Prelude.{ℤ, pos, ◌+ℤ◌, ◌-ℤ◌, ◌||◌, nat_lt, Option, Some, None, Result, Ok, Err}
use Rattle.std.proofs.lemmas.Bool.{cond_both}
use Rattle.sta_units.specs.Numbers.{is_within}
use Rattle.sta_units.specs.declared.decimals.DecFault.{DecFault}
use Rattle.sta_units.specs.declared.decimals.DecFault.TheVariants.{TooLong, OutOfUnitRange}
use Rattle.sta_units.specs.Decimal.{Written, written_of, number_on, signed, scaled, in_range, value_or_fault, decimal_of}

-- a value that is there lies within the limit
abbrev pub IfWithin : Result ℤ DecFault → Type 0
IfWithin (Ok z) = is_within z ≡ true
IfWithin (Err fault) = Unit {0}

in_range_kept : (z : ℤ) → IfWithin (in_range z)
in_range_kept z = cond_both (is_within z) (Ok z) (Err OutOfUnitRange) IfWithin (λ h. h) (λ _. tt)

written_kept : (w : Option Written) (ten : ℤ) → IfWithin (value_or_fault w ten)
written_kept None ten = tt
written_kept (Some w) ten =
    let z = scaled (signed w.negative (number_on 0 (w.whole ++ w.fraction))) (signed w.lowers (number_on 0 w.exponent) +ℤ ten -ℤ pos (length w.fraction)) in
    cond_both (nat_lt 30 (length w.whole + length w.fraction) || nat_lt 30 (number_on 0 w.exponent)) (Err TooLong) (in_range z) IfWithin
    (λ _. tt) (λ _. in_range_kept z)

pub decimal_kept : (text : List ℕ) (ten : ℤ) → IfWithin (decimal_of text ten)
unfolding decimal_of
decimal_kept text ten = written_kept (written_of text) ten
