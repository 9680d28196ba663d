-- The number that digits write.
use Rattle.std.proofs.Common.{◌≡◌, ℕ, suc, ◌+◌, ◌-◌, ◌*◌, ◌^◌, ◌<◌, ◌≤◌, min, inl, inr, List, [], ◌∷◌, ◌++◌, length, get_or, take, drop, Bool, add-one, length-append, refl, arith, true, rules, ◌∙◌}
use Rattle.std.specs.List.{list_all, prefix_len}
use Rattle.std.specs.Char.{is_ascii_digit}
use Rattle.std.proofs.lemmas.Bool.{cases_Bool, and_from}
use Rattle.std.proofs.lemmas.List.Folds.{list_all-append}
use Rattle.std.proofs.lemmas.Str.Parse.{IsNumeralModel, numerals_by_fold, digits_value_short}
use Rattle.std.proofs.Math.Seq.{drop-cons}
use Rattle.sta_units.specs.Decimal.{number_on}

-- more digits write no smaller number
pub number_on-ge : (n : ℕ) (ds : List ℕ) → n ≤ number_on n ds
number_on-ge n [] = omega arith
number_on-ge n (c ∷ cs) = omega (arith, number_on-ge (10 * n + (c - 48)) cs)

pub number_on-append : (n : ℕ) (ds es : List ℕ) → number_on n (ds ++ es) ≡ number_on (number_on n ds) es
number_on-append n [] es = refl
number_on-append n (c ∷ cs) es = number_on-append (10 * n + (c - 48)) cs es

-- up to 31 it counts no matter how far above 31 the digits so far were
pub number_on-capped : (n m : ℕ) (ds : List ℕ) → min n 31 ≡ min m 31 → min (number_on n ds) 31 ≡ min (number_on m ds) 31
number_on-capped n m [] e = e
number_on-capped n m (c ∷ cs) e = number_on-capped (10 * n + (c - 48)) (10 * m + (c - 48)) cs (omega arith)

numeral : IsNumeralModel (λ ds. list_all is_ascii_digit ds ≡ true) (number_on 0)
numeral = numerals_by_fold _ (search rules) number_on (search rules)

-- k digits write a number below 10^k
pub number_short : (ds : List ℕ) (k : ℕ) → list_all is_ascii_digit ds ≡ true → length ds ≤ k → number_on 0 ds < 10 ^ k
number_short ds k digits short = digits_value_short numeral ds k digits short

-- one digit further on
pub number_on-step : (n i : ℕ) (ds : List ℕ) → i < length ds
    → number_on n (drop i ds) ≡ number_on (10 * n + (get_or ds i 0 - 48)) (drop (i + 1) ds)
number_on-step n i ds h = rw (add-one, drop-cons ds i 0) refl

-- the number so far stays at most the whole number
pub number_on-fits : (n i : ℕ) (ds : List ℕ) (whole : ℕ) → i < length ds → number_on n (drop i ds) ≡ whole
    → 10 * n + (get_or ds i 0 - 48) ≤ whole
number_on-fits n i ds whole h e =
    omega (arith, number_on-step n i ds h, number_on-ge (10 * n + (get_or ds i 0 - 48)) (drop (i + 1) ds), e)

-- the same for a count that stops at 31
pub capped-step : (n i m : ℕ) (ds : List ℕ) (whole : ℕ) → i < length ds → m ≡ min (10 * n + (get_or ds i 0 - 48)) 31
    → min (number_on n (drop i ds)) 31 ≡ whole → min (number_on m (drop (i + 1) ds)) 31 ≡ whole
capped-step n i m ds whole h e kept =
    number_on-capped m (10 * n + (get_or ds i 0 - 48)) (drop (i + 1) ds) (omega arith)
    ∙ (rw (← number_on-step n i ds h) kept)

leading_pass : (p : ℕ → Bool) (xs : List ℕ) → list_all p (take (prefix_len p xs) xs) ≡ true
leading_pass p [] = refl
leading_pass p (x ∷ xs) = elim (cases_Bool (p x)) [
  | inl pass ↦
      let more : 1 + prefix_len p xs ≡ suc (prefix_len p xs) = omega arith in
      rw (pass, more, pass) (leading_pass p xs)
  | inr fail ↦ rw fail refl
]

-- the digits at the front are digits
pub leading_digits : (text : List ℕ) → list_all is_ascii_digit (take (prefix_len is_ascii_digit text) text) ≡ true
leading_digits text = leading_pass is_ascii_digit text

-- 30 digits or fewer, in two parts, write a number below 10^30
pub number_of_parts : (whole fraction : List ℕ) → list_all is_ascii_digit whole ≡ true → list_all is_ascii_digit fraction ≡ true
    → length whole + length fraction ≤ 30 → number_on (number_on 0 whole) fraction < 10 ^ 30
number_of_parts whole fraction pass-whole pass-fraction short =
    let pass : list_all is_ascii_digit (whole ++ fraction) ≡ true =
    rw (list_all-append is_ascii_digit whole fraction) (and_from _ _ pass-whole pass-fraction) in
    let long : length (whole ++ fraction) ≤ 30 = rw (length-append whole fraction) short in
    rw (← number_on-append 0 whole fraction) (number_short (whole ++ fraction) 30 pass long)
