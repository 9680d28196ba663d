-- Which names are those of a vector's bits.
use Rattle.std.proofs.Common.{◌≡◌, ℕ, zero, suc, ◌+◌, ◌-◌, ◌^◌, ◌<◌, ◌≤◌, List, [], ◌∷◌, ◌++◌, Bool, true, false, ◌&&◌, ◌||◌, if◌then◌else◌, Option, Some, None, length, take, drop, refl, sym, ap, ◌∙◌, arith, rules, append_assoc, length-append, add-zero, zero-add}
use Rattle.std.specs.Prelude.{nat_lt}
use Rattle.std.specs.Fmt.{decimal}
use Rattle.std.specs.Char.{is_ascii_digit}
use Rattle.std.specs.List.{list_all, list_any}
use Rattle.std.specs.Str.{bytes_eq}
use Rattle.std.proofs.lemmas.Bool.{false≢true}
use Rattle.std.proofs.lemmas.Slice.Eq.{bytes_eq-Decides}
use Rattle.std.proofs.lemmas.Bool.Decides.{nat_tests}
use Rattle.std.proofs.lemmas.Fmt.{digits_decimal, digits_value-decimal, length-decimal-le}
use Rattle.std.proofs.lemmas.Str.Parse.{IsNumeralModel, numerals_by_fold}
use Rattle.sta_units.specs.Decimal.{number_on}
use Rattle.timing_defs.proofs.SameNames.{same-sym}
use Rattle.sta_text.specs.Names.{stands}
use Rattle.verilog_netlist.specs.declared.events.Span.{Span}
use Rattle.verilog_netlist.specs.Bits.{picked}
use Rattle.verilog_netlist.specs.Nets.{bit_name, width, number_at, has_number, bits, nets_of}

-- what stands between the brackets of a bit's name
behind_name : (name : List ℕ) (b : ℕ) (rest : List ℕ) → drop (length name + 1) (name ++ (b ∷ rest)) ≡ rest
behind_name [] b rest = refl
behind_name (c ∷ name) b rest =
    let e : length (c ∷ name) + 1 ≡ suc (length name + 1) = omega arith in
    rw e (behind_name name b rest)

take_all : (xs ys : List ℕ) → take (length xs) (xs ++ ys) ≡ xs
take_all [] ys = refl
take_all (x ∷ xs) ys = ap (λ rest. x ∷ rest) (take_all xs ys)

before_last : (xs : List ℕ) (y : ℕ) → take (length (xs ++ (y ∷ [])) - 1) (xs ++ (y ∷ [])) ≡ xs
before_last xs y =
    let e : length (xs ++ (y ∷ [])) - 1 ≡ length xs = omega (arith, length-append xs (y ∷ [])) in
    rw e (take_all xs (y ∷ []))

-- the bytes of a bit's name that give its number
abbrev pub inside : List ℕ → List ℕ → List ℕ
inside name net = take (length (drop (length name + 1) net) - 1) (drop (length name + 1) net)

pub inside_bit : (name : List ℕ) (k : ℕ) → inside name (bit_name name k) ≡ decimal k
inside_bit name k =
    let e = behind_name name 91 (decimal k ++ (93 ∷ [])) in
    rw e (before_last (decimal k) 93)

numeral : IsNumeralModel (λ ds. list_all is_ascii_digit ds ≡ true) (number_on 0)
numeral = numerals_by_fold _ (search rules) number_on (search rules)

wide : (k : ℕ) → k < 2 ^ 32 → k < 2 ^ 64
wide k small = omega arith

pub decimal_digits : (k : ℕ) → k < 2 ^ 32 → list_all is_ascii_digit (decimal k) ≡ true
decimal_digits k small = digits_decimal numeral k (wide k small)

pub decimal_short : (k : ℕ) → k < 2 ^ 32 → length (decimal k) ≤ 10
decimal_short k small = length-decimal-le 10 k (omega arith) (omega arith) (wide k small)

pub decimal_number : (k : ℕ) → k < 2 ^ 32 → number_on 0 (decimal k) ≡ k
decimal_number k small = digits_value-decimal numeral k (wide k small)

refute : (b : Bool) → (b ≡ true → ⊥) → b ≡ false
refute true f = absurd (f refl)
refute false f = refl

or_true : (b : Bool) → (b || true) ≡ true
or_true true = refl
or_true false = refl

pub absent : (span : Span) (name q : List ℕ) (i n : ℕ)
    → ((j : ℕ) → i ≤ j → j < i + n → bytes_eq q (bit_name name (number_at span j)) ≡ false)
    → stands (bits span name i n) q ≡ false
unfolding bits
absent span name q i zero h = refl
absent span name q i (suc n) h =
    rw (h i (omega arith) (omega arith)) (absent span name q (i + 1) n (λ j low high. h j (omega arith) (omega arith)))

present : (span : Span) (name q : List ℕ) (i n d : ℕ) → d < n
    → bytes_eq q (bit_name name (number_at span (i + d))) ≡ true → stands (bits span name i n) q ≡ true
unfolding bits
present span name q i zero d less h = absurd (omega arith)
present span name q i (suc n) zero less h =
    let e : bytes_eq q (bit_name name (number_at span i)) ≡ true = rw add-zero at h in
    ap (λ b. b || stands (bits span name (i + 1) n) q) e
present span name q i (suc n) (suc d) less h =
    let e : i + suc d ≡ i + 1 + d = omega arith in
    let rest : stands (bits span name (i + 1) n) q ≡ true = present span name q (i + 1) n d (omega arith) (rw e at h) in
    ap (λ b. bytes_eq q (bit_name name (number_at span i)) || b) rest ∙ or_true (bytes_eq q (bit_name name (number_at span i)))

pub at_number : (span : Span) (i : ℕ) → i < width span → has_number span (number_at span i) ≡ true
at_number span i less = grind (arith, nat_tests)

pub number_small : (span : Span) (k : ℕ) → span.first < 2 ^ 32 → span.last < 2 ^ 32 → has_number span k ≡ true → k < 2 ^ 32
number_small span k first last h = grind (arith, nat_tests)

-- the place of a number in the vector
place : Span → ℕ → ℕ
place span k = (if nat_lt span.last span.first then span.first - k else k - span.first)

place_less : (span : Span) (k : ℕ) → has_number span k ≡ true → place span k < width span
unfolding place
place_less span k h = grind (arith, nat_tests)

place_number : (span : Span) (k : ℕ) → has_number span k ≡ true → number_at span (place span k) ≡ k
unfolding place
place_number span k h = grind (arith, nat_tests)

same : (xs ys : List ℕ) → bytes_eq xs ys ≡ true → xs ≡ ys
same xs ys = (bytes_eq-Decides xs ys).0

with_found : (span : Span) (name q : List ℕ) (k : ℕ) (b c : Bool) → has_number span k ≡ b → bytes_eq q (bit_name name k) ≡ c
    → span.first < 2 ^ 32 → span.last < 2 ^ 32
    → ((n : ℕ) → n < 2 ^ 32 → q ≡ bit_name name n → Some k ≡ Some n)
    → stands (bits span name 0 (width span)) q ≡ (b && c)
with_found span name q k true true has is first last h =
    let e = place_number span k has in
    present span name q 0 (width span) (place span k) (place_less span k has) (rw (zero-add (place span k), e) is)
with_found span name q k true false has is first last h =
    absent span name q 0 (width span) (λ j low high. refute _ (λ equal.
    let small = number_small span (number_at span j) first last (at_number span j (omega arith)) in
    let e : k ≡ number_at span j = cc (h (number_at span j) small (same q _ equal)) in
    false≢true (sym is ∙ (ap (λ n. bytes_eq q (bit_name name n)) e ∙ equal))))
with_found span name q k false c has is first last h =
    absent span name q 0 (width span) (λ j low high. refute _ (λ equal.
    let inside_span = at_number span j (omega arith) in
    let small = number_small span (number_at span j) first last inside_span in
    let e : k ≡ number_at span j = cc (h (number_at span j) small (same q _ equal)) in
    false≢true (sym has ∙ (ap (has_number span) e ∙ inside_span))))

-- a name is that of a bit where the number that it may give is
pub stands_picked : (span : Span) (name q : List ℕ) (found : Option ℕ) → span.first < 2 ^ 32 → span.last < 2 ^ 32
    → ((k : ℕ) → k < 2 ^ 32 → q ≡ bit_name name k → found ≡ Some k)
    → stands (nets_of (Some span) name) q ≡ picked span name q found
unfolding nets_of
stands_picked span name q (Some k) first last h = with_found span name q k _ _ refl refl first last h
stands_picked span name q None first last h =
    absent span name q 0 (width span) (λ j low high. refute _ (λ equal.
    let small = number_small span (number_at span j) first last (at_number span j (omega arith)) in
    let e = h (number_at span j) small (same q _ equal) in
    absurd cc))

or_swap : (a b c d : Bool) → ((a || b) || (c || d)) ≡ ((a || c) || (b || d))
or_swap true b c d = refl
or_swap false true true d = refl
or_swap false true false d = refl
or_swap false false c d = refl

pub any_or : (f g : List ℕ → Bool) (xs : List (List ℕ)) → list_any (λ (q : List ℕ). f q || g q) xs ≡ (list_any f xs || list_any g xs)
any_or f g [] = refl
any_or f g (x ∷ xs) = ap (λ rest. (f x || g x) || rest) (any_or f g xs) ∙ or_swap (f x) (g x) (list_any f xs) (list_any g xs)

none : (xs : List (List ℕ)) → list_any (stands []) xs ≡ false
none [] = refl
none (x ∷ xs) = none xs

pub turned : (y : List ℕ) (xs : List (List ℕ)) → list_any (bytes_eq y) xs ≡ list_any (λ (q : List ℕ). bytes_eq q y) xs
turned y [] = refl
turned y (x ∷ xs) =
    ap (λ b. b || list_any (bytes_eq y) xs) (same-sym y x) ∙ ap (λ rest. bytes_eq x y || rest) (turned y xs)

-- two lists have a name in common, whichever is looked through
pub clash_swap : (xs ys : List (List ℕ)) → list_any (stands xs) ys ≡ list_any (stands ys) xs
clash_swap xs [] = sym (none xs)
clash_swap xs (y ∷ ys) =
    ap (λ b. b || list_any (stands xs) ys) (turned y xs)
    ∙ (ap (λ b. list_any (λ (q : List ℕ). bytes_eq q y) xs || b) (clash_swap xs ys)
    ∙ sym (any_or (λ (q : List ℕ). bytes_eq q y) (stands ys) xs))

-- a bit's name is longer than the vector's
pub bit_name_long : (name : List ℕ) (k : ℕ) → length name + 2 ≤ length (bit_name name k)
bit_name_long name k =
    omega (arith, length-append name (91 ∷ (decimal k ++ (93 ∷ []))), length-append (decimal k) (93 ∷ []))

-- the first of the bits that are left is put behind those that were read
pub bits_next : (names : List (List ℕ)) (span : Span) (name : List ℕ) (i n : ℕ) → i < n
    → (names ++ bit_name name (number_at span i) ∷ []) ++ bits span name (i + 1) (n - (i + 1)) ≡ names ++ bits span name i (n - i)
unfolding bits
bits_next names span name i n less =
    let e : n - i ≡ suc (n - (i + 1)) = omega arith in
    rw e (append_assoc names (bit_name name (number_at span i) ∷ []) (bits span name (i + 1) (n - (i + 1))))
