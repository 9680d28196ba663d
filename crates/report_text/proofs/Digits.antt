-- Numbers by their digits.

use Rattle.std.proofs.Common.{◌≡◌, ℕ, ◌+◌, ◌<◌, ◌≤◌, ◌^◌, ◌/◌, ◌%◌, List, [], ◌∷◌, ◌++◌, refl, sym, ap, ◌∙◌, arith}
use Rattle.std.specs.Fmt.{decimal}
use Rattle.std.proofs.Math.Nat.{mod-lt}
use Rattle.std.proofs.lemmas.Fmt.{decimal_digit, decimal_step}
use Rattle.std.proofs.lemmas.List.{append_assoc}
use Rattle.sta_units.specs.Picoseconds.{thousandths_text}
use Rattle.timing_defs.specs.declared.kinds.Tran.TheVariants.{Rise, Fall}
use Rattle.timing_defs.specs.Output.{tran_text, word}

pub one_digit : (n d : ℕ) (xs ys : List ℕ) → n < 10 → d ≡ 48 + n → ys ≡ xs ++ (d ∷ []) → ys ≡ xs ++ decimal n
one_digit n d xs ys low e there = there ∙ ap (λ c. xs ++ (c ∷ [])) e ∙ ap (λ ds. xs ++ ds) (sym (decimal_digit n low))

pub more_digits : (n d : ℕ) (xs ys zs : List ℕ) → (n < 10 → ⊥) → n < 2 ^ 64 → d ≡ 48 + n % 10 → ys ≡ xs ++ decimal (n / 10) → zs ≡ ys ++ (d ∷ []) → zs ≡ xs ++ decimal n
more_digits n d xs ys zs high fits e before there =
    there ∙ ap (λ c. ys ++ (c ∷ [])) e ∙ ap (λ ds. ds ++ ((48 + n % 10) ∷ [])) before ∙ append_assoc xs (decimal (n / 10)) ((48 + n % 10) ∷ [])
    ∙ ap (λ ds. xs ++ ds) (sym (decimal_step n (omega arith) fits))

digit_of : (n d : ℕ) → d ≡ 48 + n % 10 → decimal (n % 10) ≡ d ∷ []
digit_of n d e = decimal_digit (n % 10) (mod-lt n (omega arith)) ∙ ap (λ c. c ∷ []) (sym e)

decimals : (a b c : ℕ) (xs ys zs : List ℕ) → xs ≡ a ∷ [] → ys ≡ b ∷ [] → zs ≡ c ∷ [] → 46 ∷ (xs ++ (ys ++ zs)) ≡ 46 ∷ (a ∷ (b ∷ (c ∷ [])))
decimals a b c xs ys zs e f g = ap (λ ds. 46 ∷ (ds ++ (ys ++ zs))) e ∙ ap (λ ds. 46 ∷ (a ∷ (ds ++ zs))) f ∙ ap (λ ds. 46 ∷ (a ∷ (b ∷ ds))) g

pub three_decimals : (n a b c : ℕ) (xs ys zs : List ℕ) → a ≡ 48 + n / 100 % 10 → b ≡ 48 + n / 10 % 10 → c ≡ 48 + n % 10
    → ys ≡ xs ++ decimal (n / 1000) → zs ≡ ys ++ (46 ∷ (a ∷ (b ∷ (c ∷ [])))) → zs ≡ xs ++ thousandths_text n
unfolding thousandths_text
three_decimals n a b c xs ys zs e f g whole there =
    there ∙ ap (λ ds. ds ++ (46 ∷ (a ∷ (b ∷ (c ∷ []))))) whole
    ∙ append_assoc xs (decimal (n / 1000)) (46 ∷ (a ∷ (b ∷ (c ∷ []))))
    ∙ ap (λ ds. xs ++ (decimal (n / 1000) ++ ds)) (sym (decimals a b c (decimal (n / 100 % 10)) (decimal (n / 10 % 10)) (decimal (n % 10)) (digit_of (n / 100) a e) (digit_of (n / 10) b f) (digit_of n c g)))

tens : (n : ℕ) → 10 ≤ n → n < 2 ^ 64 → (d : ℕ) → d ≡ 48 + n % 10 → decimal n ≡ decimal (n / 10) ++ (d ∷ [])
tens n low fits d e = decimal_step n low fits ∙ ap (λ c. decimal (n / 10) ++ (c ∷ [])) (sym e)

thousands : (w a b c : ℕ) → 1000 ≤ w → w < 2 ^ 64 → a ≡ 48 + w / 10 / 10 % 10 → b ≡ 48 + w / 10 % 10 → c ≡ 48 + w % 10
    → decimal w ≡ decimal (w / 10 / 10 / 10) ++ (a ∷ (b ∷ (c ∷ [])))
thousands w a b c low fits e f g =
    tens w (omega arith) fits c g
    ∙ ap (λ ds. ds ++ (c ∷ [])) (tens (w / 10) (omega arith) (omega arith) b f)
    ∙ append_assoc (decimal (w / 10 / 10)) (b ∷ []) (c ∷ [])
    ∙ ap (λ ds. ds ++ (b ∷ (c ∷ []))) (tens (w / 10 / 10) (omega arith) (omega arith) a e)
    ∙ append_assoc (decimal (w / 10 / 10 / 10)) (a ∷ []) (b ∷ (c ∷ []))

pub seven_bytes : (n a b c d e f : ℕ) (xs ys zs : List ℕ) → 10 ^ 6 ≤ n → n < 2 ^ 64
    → a ≡ 48 + n / 1000 / 10 / 10 % 10 → b ≡ 48 + n / 1000 / 10 % 10 → c ≡ 48 + n / 1000 % 10
    → d ≡ 48 + n / 100 % 10 → e ≡ 48 + n / 10 % 10 → f ≡ 48 + n % 10
    → ys ≡ xs ++ decimal (n / 1000 / 10 / 10 / 10) → zs ≡ ys ++ (a ∷ (b ∷ (c ∷ (46 ∷ (d ∷ (e ∷ (f ∷ []))))))) → zs ≡ xs ++ thousandths_text n
seven_bytes n a b c d e f xs ys zs low fits ha hb hc hd he hf whole there =
    let ws = decimal (n / 1000 / 10 / 10 / 10) in
    let tail : List ℕ = 46 ∷ (d ∷ (e ∷ (f ∷ []))) in
    let wholes : decimal (n / 1000) ≡ ws ++ (a ∷ (b ∷ (c ∷ []))) = thousands (n / 1000) a b c (omega arith) (omega arith) ha hb hc in
    three_decimals n d e f xs (xs ++ decimal (n / 1000)) zs hd he hf refl
    (there
    ∙ ap (λ ds. ds ++ (a ∷ (b ∷ (c ∷ tail)))) whole
    ∙ append_assoc xs ws (a ∷ (b ∷ (c ∷ tail)))
    ∙ ap (λ ds. xs ++ ds) (sym (append_assoc ws (a ∷ (b ∷ (c ∷ []))) tail))
    ∙ ap (λ ds. xs ++ (ds ++ tail)) (sym wholes)
    ∙ sym (append_assoc xs (decimal (n / 1000)) tail))

four_digits : (w a b c d : ℕ) → 1000 ≤ w → w < 10000 → a ≡ 48 + w / 10 / 10 / 10 → b ≡ 48 + w / 10 / 10 % 10 → c ≡ 48 + w / 10 % 10 → d ≡ 48 + w % 10
    → decimal w ≡ a ∷ (b ∷ (c ∷ (d ∷ [])))
four_digits w a b c d low high ha hb hc hd =
    thousands w b c d low (omega arith) hb hc hd
    ∙ ap (λ ds. ds ++ (b ∷ (c ∷ (d ∷ [])))) (decimal_digit (w / 10 / 10 / 10) (omega arith) ∙ ap (λ x. x ∷ []) (sym ha))

eight_bytes : (n a b c d e f g : ℕ) → 10 ^ 6 ≤ n → n < 10 ^ 7
    → a ≡ 48 + n / 1000 / 10 / 10 / 10 → b ≡ 48 + n / 1000 / 10 / 10 % 10 → c ≡ 48 + n / 1000 / 10 % 10 → d ≡ 48 + n / 1000 % 10
    → e ≡ 48 + n / 100 % 10 → f ≡ 48 + n / 10 % 10 → g ≡ 48 + n % 10
    → a ∷ (b ∷ (c ∷ (d ∷ (46 ∷ (e ∷ (f ∷ (g ∷ []))))))) ≡ thousandths_text n
eight_bytes n a b c d e f g low high ha hb hc hd he hf hg =
    let tail : List ℕ = 46 ∷ (e ∷ (f ∷ (g ∷ []))) in
    ap (λ ds. ds ++ tail) (sym (four_digits (n / 1000) a b c d (omega arith) (omega arith) ha hb hc hd))
    ∙ three_decimals n e f g [] (decimal (n / 1000)) (decimal (n / 1000) ++ tail) he hf hg refl refl

pub rise_line : (n a b c d e f g : ℕ) (xs zs : List ℕ) → 10 ^ 6 ≤ n → n < 10 ^ 7
    → a ≡ 48 + n / 1000 / 10 / 10 / 10 → b ≡ 48 + n / 1000 / 10 / 10 % 10 → c ≡ 48 + n / 1000 / 10 % 10 → d ≡ 48 + n / 1000 % 10
    → e ≡ 48 + n / 100 % 10 → f ≡ 48 + n / 10 % 10 → g ≡ 48 + n % 10
    → zs ≡ xs ++ (32 ∷ (114 ∷ (105 ∷ (115 ∷ (101 ∷ (32 ∷ (a ∷ (b ∷ (c ∷ (d ∷ (46 ∷ (e ∷ (f ∷ (g ∷ (10 ∷ [])))))))))))))))
    → zs ≡ xs ++ (word (tran_text Rise) ++ (word (thousandths_text n) ++ (10 ∷ [])))
rise_line n a b c d e f g xs zs low high ha hb hc hd he hf hg there =
    there ∙ ap (λ ts. xs ++ (32 ∷ (114 ∷ (105 ∷ (115 ∷ (101 ∷ (32 ∷ (ts ++ (10 ∷ []))))))))) (eight_bytes n a b c d e f g low high ha hb hc hd he hf hg)

pub fall_line : (n a b c d e f g : ℕ) (xs zs : List ℕ) → 10 ^ 6 ≤ n → n < 10 ^ 7
    → a ≡ 48 + n / 1000 / 10 / 10 / 10 → b ≡ 48 + n / 1000 / 10 / 10 % 10 → c ≡ 48 + n / 1000 / 10 % 10 → d ≡ 48 + n / 1000 % 10
    → e ≡ 48 + n / 100 % 10 → f ≡ 48 + n / 10 % 10 → g ≡ 48 + n % 10
    → zs ≡ xs ++ (32 ∷ (102 ∷ (97 ∷ (108 ∷ (108 ∷ (32 ∷ (a ∷ (b ∷ (c ∷ (d ∷ (46 ∷ (e ∷ (f ∷ (g ∷ (10 ∷ [])))))))))))))))
    → zs ≡ xs ++ (word (tran_text Fall) ++ (word (thousandths_text n) ++ (10 ∷ [])))
fall_line n a b c d e f g xs zs low high ha hb hc hd he hf hg there =
    there ∙ ap (λ ts. xs ++ (32 ∷ (102 ∷ (97 ∷ (108 ∷ (108 ∷ (32 ∷ (ts ++ (10 ∷ []))))))))) (eight_bytes n a b c d e f g low high ha hb hc hd he hf hg)
