-- Bytes that are compared from the end.
use Rattle.std.proofs.Common.{◌≡◌, ℕ, suc, ◌-◌, ◌<◌, ◌≤◌, Bool, true, false, List, [], ◌∷◌, length, get_or, refl, ap, sym, subst, ◌∙◌, arith, inl, inr, ◌⊎◌}
use Rattle.std.specs.Str.{bytes_eq}
use Rattle.std.proofs.lemmas.Bool.{cases_lt}
use Rattle.std.proofs.lemmas.Slice.Eq.{bytes_eq-Decides}

-- two lists of bytes are the same from a place on
abbrev pub AreSameFrom : ℕ → List ℕ → List ℕ → Type 0
AreSameFrom n xs ys = (k : ℕ) → n ≤ k → k < length xs → get_or xs k 0 ≡ get_or ys k 0

same_lists : (xs ys : List ℕ) → length xs ≡ length ys → ((k : ℕ) → k < length xs → get_or xs k 0 ≡ get_or ys k 0) → xs ≡ ys
same_lists [] [] l h = refl
same_lists [] (y ∷ ys) l h = absurd (omega arith)
same_lists (x ∷ xs) [] l h = absurd (omega arith)
same_lists (x ∷ xs) (y ∷ ys) l h = ap (λ z. z ∷ xs) (h 0 (omega arith)) ∙ ap (λ zs. y ∷ zs) (same_lists xs ys (omega arith) (λ k b. h (suc k) (omega arith)))

pub same_all : (xs ys : List ℕ) → length xs ≡ length ys → AreSameFrom 0 xs ys → true ≡ bytes_eq xs ys
same_all xs ys l h = sym ((bytes_eq-Decides xs ys).1 (same_lists xs ys l (λ k b. h k (omega arith) b)))

unlike : (xs ys : List ℕ) → (xs ≡ ys → ⊥) → (b : Bool) → bytes_eq xs ys ≡ b → false ≡ b
unlike xs ys un true e = absurd (un ((bytes_eq-Decides xs ys).0 e))
unlike xs ys un false e = refl

pub unlike_size : (xs ys : List ℕ) → (length xs ≡ length ys → ⊥) → false ≡ bytes_eq xs ys
unlike_size xs ys un = unlike xs ys (λ e. un (ap length e)) (bytes_eq xs ys) refl

pub unlike_at : (xs ys : List ℕ) (k : ℕ) → (get_or xs k 0 ≡ get_or ys k 0 → ⊥) → false ≡ bytes_eq xs ys
unlike_at xs ys k un = unlike xs ys (λ e. un (ap (λ zs. get_or zs k 0) e)) (bytes_eq xs ys) refl

pub same_next : (xs ys : List ℕ) (n : ℕ) → 0 < n → AreSameFrom n xs ys → get_or xs (n - 1) 0 ≡ get_or ys (n - 1) 0 → AreSameFrom (n - 1) xs ys
same_next xs ys n l h e k a b = by (cases_lt k n)
  where
    by : (k < n) ⊎ (n ≤ k) → get_or xs k 0 ≡ get_or ys k 0
    by (inl c) = (let q : k ≡ n - 1 = omega arith in subst (λ i. get_or xs i 0 ≡ get_or ys i 0) (sym q) e)
    by (inr c) = h k c b
