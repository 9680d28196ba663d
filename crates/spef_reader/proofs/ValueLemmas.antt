-- The form of a decimal is the same in all units, and a value with a size has no fault.
use Rattle.std.proofs.Common.{◌≡◌, ℕ, ◌+◌, Bool, true, false, not, ◌&&◌, List, ◌++◌, length, refl, sym, ap, ◌∙◌}
use Rattle.std.specs.Prelude.{ℤ, pos, ◌+ℤ◌, ◌-ℤ◌, ◌||◌, nat_lt, Option, Some, None, is_some, option_and_then, Result, Ok, Err}
use Rattle.std.proofs.lemmas.Bool.{cond_both}
use Rattle.sta_units.specs.Numbers.{is_within}
use Rattle.sta_units.specs.declared.decimals.DecFault.{DecFault}
use Rattle.sta_units.specs.declared.decimals.DecFault.TheVariants.{TooLong, OutOfUnitRange}
use Rattle.sta_units.specs.declared.units.Unit.{Unit as Power}
use Rattle.sta_units.specs.Decimal.{Written, written_of, number_on, signed, scaled, in_range, value_or_fault, decimal_of}
use Rattle.spef_reader.specs.Words.{has_form, is_decimal, written, size_of, size_in, value_of, lacks_size, is_no_value}

range_form : (z : ℤ) → has_form (in_range z) ≡ true
range_form z = cond_both (is_within z) (Ok z) (Err OutOfUnitRange) (λ r. has_form r ≡ true) (λ _. refl) (λ _. refl)

written_form : (w : Option Written) (ten : ℤ) → has_form (value_or_fault w ten) ≡ is_some w
written_form None ten = refl
written_form (Some w) ten =
    let z = scaled (signed w.negative (number_on 0 (w.whole ++ w.fraction))) (signed w.lowers (number_on 0 w.exponent) +ℤ ten -ℤ pos (length w.fraction)) in
    cond_both (nat_lt 30 (length w.whole + length w.fraction) || nat_lt 30 (number_on 0 w.exponent)) (Err TooLong) (in_range z) (λ r. has_form r ≡ true)
    (λ _. refl) (λ _. range_form z)

-- a word is a decimal where it is one in the unit of ten 40
pub decimal_in_any : (word : List ℕ) → is_decimal word ≡ has_form (decimal_of word (pos 40))
unfolding decimal_of
decimal_in_any word = written_form (written_of word) (pos 0) ∙ sym (written_form (written_of word) (pos 40))

-- a word with a size is a decimal
form_of_size : (r : Result ℤ DecFault) → is_some (size_of r) ≡ true → has_form r ≡ true
form_of_size (Ok z) h = refl
form_of_size (Err e) h = cc

sized_decimal : (unit : Option Power) (word : List ℕ) → is_some (size_in unit word) ≡ true → is_decimal word ≡ true
unfolding decimal_of
sized_decimal None word h = cc
sized_decimal (Some power) word h =
    written_form (written_of word) (pos 0) ∙ sym (written_form (written_of word) power.ten) ∙ form_of_size (decimal_of word power.ten) h

alone : (word : List ℕ) → is_decimal word ≡ true → written word ≡ Some word
unfolding written
alone word h = rw h refl

-- a decimal with a size is the value itself
pub sized_value : (unit : Option Power) (word : List ℕ) (n : ℕ) → size_in unit word ≡ Some n → value_of unit word ≡ Some n
sized_value unit word n h =
    ap (option_and_then (size_in unit)) (alone word (sized_decimal unit word (ap is_some h))) ∙ h

-- what has a size has the form of a value
pub sized_form : (unit : Option Power) (word : List ℕ) → is_some (value_of unit word) ≡ true → is_some (written word) ≡ true
sized_form unit word h = by (written word) h
  where
    by : (found : Option (List ℕ)) → is_some (option_and_then (size_in unit) found) ≡ true → is_some found ≡ true
    by None g = cc
    by (Some text) g = refl

same_twice : (b : Bool) → (b && b) ≡ b
same_twice true = refl
same_twice false = refl

looked_at : (unit : Option Power) (decimal : Option (List ℕ)) → (not (is_some (option_and_then (size_in unit) decimal)) && lacks_size unit decimal) ≡ lacks_size unit decimal
looked_at unit None = refl
looked_at None (Some decimal) = refl
looked_at (Some power) (Some decimal) = same_twice (not (is_some (size_of (decimal_of decimal power.ten))))

-- a value with a size has no fault
pub flawed_unsized : (unit : Option Power) (word : List ℕ) → (not (is_some (value_of unit word)) && is_no_value unit word) ≡ is_no_value unit word
flawed_unsized unit word = looked_at unit (written word)
