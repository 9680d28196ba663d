-- A bit's name is a name.
use Rattle.std.proofs.Common.{◌≡◌, ℕ, ◌^◌, ◌<◌, List, [], ◌∷◌, ◌++◌, Bool, true, false, not, ◌&&◌, length, length-append, refl, arith}
use Rattle.std.specs.Prelude.{◌==◌}
use Rattle.std.specs.Fmt.{decimal}
use Rattle.std.specs.List.{list_all}
use Rattle.std.specs.Str.Parse.{AllDigits}
use Rattle.std.proofs.lemmas.Bool.{false≢true, and_from}
use Rattle.std.proofs.lemmas.Bool.Decides.{nat_tests}
use Rattle.std.proofs.lemmas.Fmt.{decimal_is_IsNumeral}
use Rattle.std.proofs.lemmas.List.Folds.{list_all-append}
use Rattle.std.proofs.lemmas.Str.Parse.{digit_from_value}
use Rattle.std.specs.Int.{IsInRange}
use Rattle.timing_defs.specs.Names.{is_graphic, is_name}
use Rattle.verilog_netlist.specs.Nets.{bit_name}

graphic_digit : (c : ℕ) → IsInRange 48 57 c → is_graphic c ≡ true
graphic_digit c h = grind (arith, nat_tests)

digits_graphic : (ds : List ℕ) → AllDigits 10 ds → list_all is_graphic ds ≡ true
digits_graphic [] h = refl
digits_graphic (c ∷ cs) h =
    and_from (is_graphic c) (list_all is_graphic cs) (graphic_digit c (digit_from_value c h.0)) (digits_graphic cs h.1)

all_graphic : (name : List ℕ) (k : ℕ) → list_all is_graphic name ≡ true → k < 2 ^ 64 → list_all is_graphic (bit_name name k) ≡ true
all_graphic name k h small =
    let ds : list_all is_graphic (decimal k) ≡ true = digits_graphic (decimal k) (decimal_is_IsNumeral k small).0.1 in
    let tail : list_all is_graphic (decimal k ++ (93 ∷ [])) ≡ true =
    rw (list_all-append is_graphic (decimal k) (93 ∷ [])) (and_from (list_all is_graphic (decimal k)) true ds refl) in
    rw (list_all-append is_graphic name (91 ∷ (decimal k ++ (93 ∷ []))))
    (and_from (list_all is_graphic name) (list_all is_graphic (decimal k ++ (93 ∷ []))) h tail)

both : (a b : Bool) → (a && b) ≡ true → b ≡ true
both true b h = h
both false b h = absurd (false≢true h)

some : (n : ℕ) → 0 < n → not (n == 0) ≡ true
some n h = grind (arith, nat_tests)

pub bit_is_name : (name : List ℕ) (k : ℕ) → is_name name ≡ true → k < 2 ^ 64 → is_name (bit_name name k) ≡ true
bit_is_name name k h small =
    let long : 0 < length (bit_name name k) = omega (arith, length-append name (91 ∷ (decimal k ++ (93 ∷ [])))) in
    and_from (not (length (bit_name name k) == 0)) (list_all is_graphic (bit_name name k)) (some (length (bit_name name k)) long)
    (all_graphic name k (both (not (length name == 0)) (list_all is_graphic name) h) small)
