-- The greatest common divisor is the first that a search from above finds.
use Rattle.std.proofs.Common.{◌≡◌, ℕ, zero, suc, ◌<◌, ◌≤◌, ◌%◌, true, false, ap, sym, subst, ◌∙◌, inl, inr, arith}
use Rattle.std.specs.Prelude.{nat_eq}
use Rattle.std.specs.Int.{IsGcd}
use Rattle.std.proofs.lemmas.Bool.{cases_eq, eq-eqb, ne_eqb}
use Rattle.std.proofs.lemmas.Nat.Gcd.{dvd_of_mod-eq-zero, mod-eq-zero_of_dvd, le_from_IsGcd, le_of_dvd, IsGcd-from_zero, IsGcd-from_mod}
use Rattle.timing_rules.specs.Tests.{divisor_up_to}

pub divisor_found : (n a b g : ℕ) → IsGcd a b g → 0 < g → g ≤ n → divisor_up_to n a b ≡ g
divisor_found zero a b g h p l = absurd (omega arith)
divisor_found (suc n) a b g h p l =
    elim (cases_eq g (suc n)) [
      | inl same ↦
          let first : nat_eq (a % suc n) 0 ≡ true = eq-eqb (a % suc n) 0 (ap (λ k. a % k) (sym same) ∙ mod-eq-zero_of_dvd g h.0) in
          let second : nat_eq (b % suc n) 0 ≡ true = eq-eqb (b % suc n) 0 (ap (λ k. b % k) (sym same) ∙ mod-eq-zero_of_dvd g h.1) in
          rw (first, second) (sym same)
      | inr other ↦
          let below : g ≤ n = omega arith in
          let more = divisor_found n a b g h p below in
          elim (cases_eq (a % suc n) 0) [
            | inl in_first ↦ elim (cases_eq (b % suc n) 0) [
              | inl in_second ↦
                  let less = le_from_IsGcd a b g (suc n) h p (dvd_of_mod-eq-zero (suc n) in_first) (dvd_of_mod-eq-zero (suc n) in_second) in
                  absurd (omega arith)
              | inr not_second ↦
                  let first : nat_eq (a % suc n) 0 ≡ true = eq-eqb (a % suc n) 0 in_first in
                  let second : nat_eq (b % suc n) 0 ≡ false = ne_eqb (b % suc n) 0 not_second in
                  rw (first, second) more
            ]
            | inr not_first ↦
                let first : nat_eq (a % suc n) 0 ≡ false = ne_eqb (a % suc n) 0 not_first in
                rw first more
          ]
    ]

-- the state of Euclid's loop: each greatest common divisor of the two is that of the first two
pub record IsEuclid (a b x y : ℕ) : Type 0 where
  pub same : (g : ℕ) → IsGcd x y g → IsGcd a b g
  pub positive : 0 < x

pub euclid-none : (a b : ℕ) → 0 < a → IsEuclid a b a b
euclid-none a b h = record { same = λ g i. i; positive = h }

pub euclid-more : (a b x y r : ℕ) → IsEuclid a b x y → (y ≡ 0 → ⊥) → r ≡ x % y → IsEuclid a b y r
euclid-more a b x y r h some e = record {
  same = λ g i. h.same g (IsGcd-from_mod x y g (subst (λ k. IsGcd y k g) e i));
  positive = omega arith;
}

pub euclid-bound : (a b x y : ℕ) → 0 < a → IsEuclid a b x y → y ≡ 0 → x ≤ a
euclid-bound a b x y h e nil = le_of_dvd h (e.same x (IsGcd-from_zero x y nil)).0

pub euclid-all : (a b x y : ℕ) → 0 < a → IsEuclid a b x y → y ≡ 0 → x ≡ divisor_up_to a a b
euclid-all a b x y h e nil = sym (divisor_found a a b x (e.same x (IsGcd-from_zero x y nil)) e.positive (euclid-bound a b x y h e nil))
