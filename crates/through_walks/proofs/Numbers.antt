-- The numbers of places at stages.

use Rattle.std.proofs.Common.{◌≡◌, ℕ, suc, ◌+◌, ◌*◌, ◌<◌, ◌≤◌, ◌&&◌, ◌==◌, inl, inr, sym, ap, ◌∙◌, arith}
use Rattle.std.specs.Prelude.{◌/◌, ◌%◌}
use Rattle.std.proofs.lemmas.Bool.{cases_eq, eq-eqb, ne_eqb}
use Rattle.std.proofs.lemmas.Nat.{div-mul-add, mod-mul-add, div-add-mod'}
use Rattle.std.proofs.Math.Nat.{suc-mul, mul-le-mul_right, div-lt_iff_lt-mul}

pub place_at : (k a s : ℕ) → s < k → (a * k + s) / k ≡ a
place_at k a s low = div-mul-add a k s low

pub stage_at : (k a s : ℕ) → s < k → (a * k + s) % k ≡ s
stage_at k a s low = mod-mul-add a k s low

pub whole : (k n : ℕ) → n / k * k + n % k ≡ n
whole k n = div-add-mod' n k

pub number_low : (k a b s : ℕ) → a < b → s < k → a * k + s < b * k
number_low k a b s low under =
    let more : suc a * k ≤ b * k = mul-le-mul_right {m = suc a} {n = b} k low in
    let is : suc a * k ≡ a * k + k = suc-mul a k in
    omega (arith, more, is, under)

pub place_low : (k n b : ℕ) → 0 < k → n < b * k → n / k < b
place_low k n b some low = (div-lt_iff_lt-mul {k = k} {x = n} {y = b} some).1 low

pub places_same : (k a b s t : ℕ) → s < k → t < k → a * k + s ≡ b * k + t → a ≡ b
places_same k a b s t low under e = sym (place_at k a s low) ∙ ap (λ n. n / k) e ∙ place_at k b t under

pub stages_same : (k a b s t : ℕ) → s < k → t < k → a * k + s ≡ b * k + t → s ≡ t
stages_same k a b s t low under e = sym (stage_at k a s low) ∙ ap (λ n. n % k) e ∙ stage_at k b t under

pub numbers_eq : (k a b s t : ℕ) → s < k → t < k → (a * k + s == b * k + t) ≡ ((a == b) && (s == t))
numbers_eq k a b s t low under = elim (cases_eq a b) [
  | inl same ↦ elim (cases_eq s t) [
    | inl is ↦ eq-eqb (a * k + s) (b * k + t) (ap (λ x. x * k + s) same ∙ ap (λ y. b * k + y) is)
        ∙ sym (ap (λ x. x && (s == t)) (eq-eqb a b same) ∙ eq-eqb s t is)
    | inr other ↦ ne_eqb (a * k + s) (b * k + t) (λ e. other (stages_same k a b s t low under e))
        ∙ sym (ap (λ x. x && (s == t)) (eq-eqb a b same) ∙ ne_eqb s t other)
  ]
  | inr other ↦ ne_eqb (a * k + s) (b * k + t) (λ e. other (places_same k a b s t low under e))
      ∙ sym (ap (λ x. x && (s == t)) (ne_eqb a b other))
]
