-- Comparing lists node by node.

use Rattle.std.proofs.Common.{◌≡◌, ℕ, zero, suc, ◌+◌, ◌<◌, ◌≤◌, List, [], ◌∷◌, length, map, drop, get_or, refl, sym, subst, ◌∙◌, arith}
use Rattle.std.specs.Prelude.{nat_lt}
use Rattle.std.specs.Ordering.{nat_cmp, ordering_then, is_lt}
use Rattle.std.specs.Cmp.Lexicographic.{slice_cmp}
use Rattle.std.proofs.Math.Numerals.{add-one}
use Rattle.std.proofs.lemmas.Bool.{lt-ltb, le-ltb}

-- two lists from a place on, by the nodes at that place and the lists behind it
cmp-step : (rank : ℕ → ℕ) (i : ℕ) (xs ys : List ℕ) (d e : ℕ) → i < length xs → i < length ys
    → slice_cmp nat_cmp (map rank (drop i xs)) (map rank (drop i ys))
    ≡ ordering_then (nat_cmp (rank (get_or xs i d)) (rank (get_or ys i e))) (slice_cmp nat_cmp (map rank (drop (suc i) xs)) (map rank (drop (suc i) ys)))
cmp-step rank i [] ys d e low under = absurd (omega arith)
cmp-step rank i (x ∷ xs) [] d e low under = absurd (omega arith)
cmp-step rank zero (x ∷ xs) (y ∷ ys) d e low under = refl
cmp-step rank (suc i) (x ∷ xs) (y ∷ ys) d e low under = cmp-step rank i xs ys d e (omega arith) (omega arith)

pub cmp_step : (rank : ℕ → ℕ) (i : ℕ) (xs ys : List ℕ) (d e : ℕ) → i < length xs → i < length ys
    → slice_cmp nat_cmp (map rank (drop i xs)) (map rank (drop i ys))
    ≡ ordering_then (nat_cmp (rank (get_or xs i d)) (rank (get_or ys i e))) (slice_cmp nat_cmp (map rank (drop (i + 1) xs)) (map rank (drop (i + 1) ys)))
cmp_step rank i xs ys d e low under =
    subst
    (λ k. slice_cmp nat_cmp (map rank (drop i xs)) (map rank (drop i ys))
    ≡ ordering_then (nat_cmp (rank (get_or xs i d)) (rank (get_or ys i e))) (slice_cmp nat_cmp (map rank (drop k xs)) (map rank (drop k ys))))
    (sym (add-one i)) (cmp-step rank i xs ys d e low under)

-- from the end of the shorter one on
lt_suc : (a b : ℕ) → nat_lt a b ≡ nat_lt (suc a) (suc b)
lt_suc a b = grind arith

pub cmp_past : (rank : ℕ → ℕ) (i : ℕ) (xs ys : List ℕ) → i ≤ length xs → i ≤ length ys → (i < length xs → i < length ys → ⊥)
    → is_lt (slice_cmp nat_cmp (map rank (drop i xs)) (map rank (drop i ys))) ≡ nat_lt (length xs) (length ys)
cmp_past rank zero [] [] low under past = refl
cmp_past rank zero [] (y ∷ ys) low under past = sym (lt-ltb 0 (suc (length ys)) (omega arith))
cmp_past rank zero (x ∷ xs) [] low under past = sym (le-ltb (suc (length xs)) 0 (omega arith))
cmp_past rank zero (x ∷ xs) (y ∷ ys) low under past = absurd (past (omega arith) (omega arith))
cmp_past rank (suc i) [] ys low under past = absurd (omega arith)
cmp_past rank (suc i) (x ∷ xs) [] low under past = absurd (omega arith)
cmp_past rank (suc i) (x ∷ xs) (y ∷ ys) low under past =
    cmp_past rank i xs ys (omega arith) (omega arith) (λ f g. past (omega arith) (omega arith)) ∙ lt_suc (length xs) (length ys)
