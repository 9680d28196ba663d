-- How a walk that is given splits the walks that begin with its first nodes.

use Rattle.std.proofs.Common.{◌≡◌, ℕ, zero, suc, ◌<◌, false, ◌==◌, List, [], ◌∷◌, ◌++◌, length, take, drop, Some, refl, sym, ap, ◌∙◌, arith}
use Rattle.std.specs.Prelude.{slice_get, slice_index}
use Rattle.std.proofs.lemmas.Bool.{eq-eqb, ne_eqb, false≢true, or_parts}
use Rattle.worst_walks.specs.declared.cones.Walk.{Walk}
use Rattle.ranked_walks.specs.Branches.{is_barred}

pub head_same_as : (ps : List ℕ) (m n : ℕ) (ms ns : List ℕ) → ps ++ (m ∷ ms) ≡ ps ++ (n ∷ ns) → m ≡ n
head_same_as [] m n ms ns e = ap head e
  where
    head : List ℕ → ℕ
    head [] = 0
    head (x ∷ xs) = x
head_same_as (p ∷ ps) m n ms ns e = head_same_as ps m n ms ns (ap behind e)
  where
    behind : List ℕ → List ℕ
    behind [] = []
    behind (x ∷ xs) = xs

pub take_next : (i : ℕ) (xs : List ℕ) → i < length xs → take (suc i) xs ≡ take i xs ++ (slice_index xs i ∷ [])
take_next i [] low = absurd (omega arith)
take_next zero (x ∷ xs) low = refl
take_next (suc i) (x ∷ xs) low = ap (λ ys. x ∷ ys) (take_next i xs (omega arith))

pub drop_next : (i : ℕ) (xs : List ℕ) → i < length xs → drop i xs ≡ slice_index xs i ∷ drop (suc i) xs
drop_next i [] low = absurd (omega arith)
drop_next zero (x ∷ xs) low = refl
drop_next (suc i) (x ∷ xs) low = drop_next i xs (omega arith)

pub last_given : (given : List Walk) (walk : Walk) → slice_get (given ++ walk ∷ []) (length given) ≡ Some walk
last_given [] walk = refl
last_given (w ∷ given) walk = last_given given walk

pub given_before : (given : List Walk) (walk : Walk) (i : ℕ) → i < length given → slice_get (given ++ walk ∷ []) i ≡ slice_get given i
given_before [] walk i low = absurd (omega arith)
given_before (w ∷ given) walk zero low = refl
given_before (w ∷ given) walk (suc i) low = given_before given walk i (omega arith)

pub barred_one : (m n : ℕ) → is_barred (m ∷ []) n ≡ false → n ≡ m → ⊥
barred_one m n free e = let parts = or_parts (m == n) false free in false≢true (sym parts.0 ∙ eq-eqb m n (sym e))

pub free_one : (m n : ℕ) → (n ≡ m → ⊥) → is_barred (m ∷ []) n ≡ false
free_one m n other = let off : (m == n) ≡ false = ne_eqb m n (λ e. other (sym e)) in rw off refl
