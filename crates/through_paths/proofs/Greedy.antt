-- A path passes pins exactly where each is passed as soon as it is met.

use Rattle.std.proofs.Common.{◌≡◌, ℕ, zero, suc, ◌+◌, ◌==◌, Bool, true, false, inl, inr, if◌then◌else◌, List, [], ◌∷◌, length, map, refl, sym, ap, ◌∙◌, arith}
use Rattle.std.specs.Prelude.{slice_get, ◌&&◌, ◌||◌}
use Rattle.std.specs.Option.{option_map_or}
use Rattle.std.specs.Str.{bytes_eq}
use Rattle.std.proofs.lemmas.Bool.{or_cases, false≢true, ne_eqb}
use Rattle.timing_rules.specs.Paths.{Named}
use Rattle.timing_rules.specs.Through.{passes}

-- the count of items of a list that are met in their order, where so many were met before
abbrev pub next_by : {A X : Type 0} → (A → X → Bool) → List A → ℕ → X → ℕ
next_by at xs s n = (if option_map_or (λ x. at x n) (slice_get xs s) false then s + 1 else s)

abbrev pub all_by : {A X : Type 0} → (A → X → Bool) → List A → ℕ → List X → ℕ
all_by at xs s [] = s
all_by at xs s (n ∷ ns) = all_by at xs (next_by at xs s n) ns

none_left : {A X : Type 0} (at : A → X → Bool) (s : ℕ) (ns : List X) → all_by at [] s ns ≡ s
none_left at s [] = refl
none_left at s (n ∷ ns) = none_left at s ns

chosen_suc : (b : Bool) (s : ℕ) → (if b then suc s + 1 else suc s) ≡ suc (if b then s + 1 else s)
chosen_suc true s = (let e : suc s + 1 ≡ suc (s + 1) = omega arith in e)
chosen_suc false s = refl

behind_one : {A X : Type 0} (at : A → X → Bool) (x : A) (xs : List A) (s : ℕ) (ns : List X) → all_by at (x ∷ xs) (suc s) ns ≡ suc (all_by at xs s ns)
behind_one at x xs s [] = refl
behind_one at x xs s (n ∷ ns) =
    ap (λ k. all_by at (x ∷ xs) k ns) (chosen_suc (option_map_or (λ y. at y n) (slice_get xs s) false) s)
    ∙ behind_one at x xs (next_by at xs s n) ns

abbrev pub meets : List ℕ → Named → Bool
meets pin n = bytes_eq pin n.0

-- a longer path passes what a shorter one passes, and fewer pins are passed where more are
passes_more : (pins : List (List ℕ)) (n : Named) (ms : List Named) → passes pins ms ≡ true → passes pins (n ∷ ms) ≡ true
passes_more [] n ms e = refl
passes_more (pin ∷ pins) n ms e = rw e (or_true (bytes_eq pin n.0 && passes pins ms))
  where
    or_true : (b : Bool) → (b || true) ≡ true
    or_true true = refl
    or_true false = refl

passes_fewer : (pin : List ℕ) (pins : List (List ℕ)) (ms : List Named) → passes (pin ∷ pins) ms ≡ true → passes pins ms ≡ true
passes_fewer pin pins [] e = absurd (false≢true e)
passes_fewer pin pins (n ∷ ms) e = passes_more pins n ms (elim (or_cases (bytes_eq pin n.0 && passes pins ms) (passes (pin ∷ pins) ms) e) [
  | inl here ↦ second (bytes_eq pin n.0) (passes pins ms) here
  | inr later ↦ passes_fewer pin pins ms later
])
  where
    second : (a b : Bool) → (a && b) ≡ true → b ≡ true
    second true b h = h
    second false b h = absurd (false≢true h)

covers : (a b : Bool) → (b ≡ true → a ≡ true) → (a || b) ≡ a
covers true b h = refl
covers false true h = absurd (false≢true (h refl))
covers false false h = refl

eq_suc : (a b : ℕ) → (a == b) ≡ (suc a == suc b)
eq_suc a b = grind arith

by_first : (pin : List ℕ) (pins : List (List ℕ)) (n : Named) (ms : List Named) (b : Bool) → bytes_eq pin n.0 ≡ b
    → passes pins ms ≡ (all_by meets pins 0 ms == length pins)
    → passes (pin ∷ pins) ms ≡ (all_by meets (pin ∷ pins) 0 ms == length (pin ∷ pins))
    → passes (pin ∷ pins) (n ∷ ms) ≡ (all_by meets (pin ∷ pins) 0 (n ∷ ms) == length (pin ∷ pins))
by_first pin pins n ms true e fewer same =
    ap (λ (c : Bool). (c && passes pins ms) || passes (pin ∷ pins) ms) e
    ∙ covers (passes pins ms) (passes (pin ∷ pins) ms) (passes_fewer pin pins ms)
    ∙ fewer ∙ eq_suc (all_by meets pins 0 ms) (length pins)
    ∙ sym (ap (λ (c : Bool). all_by meets (pin ∷ pins) (if c then 0 + 1 else 0) ms == length (pin ∷ pins)) e
    ∙ ap (λ k. k == length (pin ∷ pins)) (behind_one meets pin pins 0 ms))
by_first pin pins n ms false e fewer same =
    ap (λ (c : Bool). (c && passes pins ms) || passes (pin ∷ pins) ms) e
    ∙ same
    ∙ sym (ap (λ (c : Bool). all_by meets (pin ∷ pins) (if c then 0 + 1 else 0) ms == length (pin ∷ pins)) e)

pub greedy : (pins : List (List ℕ)) (ms : List Named) → passes pins ms ≡ (all_by meets pins 0 ms == length pins)
greedy [] ms = (let e = none_left {A = List ℕ} {X = Named} meets 0 ms in rw e refl)
greedy (pin ∷ pins) [] = sym (ne_eqb 0 (suc (length pins)) (λ e. omega arith))
greedy (pin ∷ pins) (n ∷ ms) = by_first pin pins n ms (bytes_eq pin n.0) refl (greedy pins ms) (greedy (pin ∷ pins) ms)

-- two lists by one and by another test, item by item
abbrev pub AreAlike : {A B X Y : Type 0} → (A → X → Bool) → (B → Y → Bool) → (X → Y) → (X → Type 0) → List A → List B → Type 0
AreAlike at to f P [] [] = Unit {0}
AreAlike at to f P [] (y ∷ ys) = ⊥
AreAlike at to f P (x ∷ xs) [] = ⊥
AreAlike {X = X} at to f P (x ∷ xs) (y ∷ ys) = ((n : X) → P n → at x n ≡ to y (f n)) × AreAlike at to f P xs ys

alike_at : {A B X Y : Type 0} (at : A → X → Bool) (to : B → Y → Bool) (f : X → Y) (P : X → Type 0) (xs : List A) (ys : List B) → AreAlike at to f P xs ys
    → (s : ℕ) (n : X) → P n → option_map_or (λ x. at x n) (slice_get xs s) false ≡ option_map_or (λ y. to y (f n)) (slice_get ys s) false
alike_at at to f P [] [] a s n p = refl
alike_at at to f P [] (y ∷ ys) a s n p = absurd a
alike_at at to f P (x ∷ xs) [] a s n p = absurd a
alike_at at to f P (x ∷ xs) (y ∷ ys) a zero n p = a.0 n p
alike_at at to f P (x ∷ xs) (y ∷ ys) a (suc s) n p = alike_at at to f P xs ys a.1 s n p

-- a claim of each item of a list
abbrev pub Each : {X : Type 0} → (X → Type 0) → List X → Type 0
Each P [] = Unit {0}
Each P (x ∷ xs) = P x × Each P xs

pub alike_all : {A B X Y : Type 0} (at : A → X → Bool) (to : B → Y → Bool) (f : X → Y) (P : X → Type 0) (xs : List A) (ys : List B) → AreAlike at to f P xs ys
    → (s : ℕ) (ns : List X) → Each P ns → all_by at xs s ns ≡ all_by to ys s (map f ns)
alike_all at to f P xs ys a s [] e = refl
alike_all at to f P xs ys a s (n ∷ ns) e =
    alike_all at to f P xs ys a (next_by at xs s n) ns e.1
    ∙ ap (λ (b : Bool). all_by to ys (if b then s + 1 else s) (map f ns)) (alike_at at to f P xs ys a s n e.0)

pub alike_length : {A B X Y : Type 0} (at : A → X → Bool) (to : B → Y → Bool) (f : X → Y) (P : X → Type 0) (xs : List A) (ys : List B) → AreAlike at to f P xs ys
    → length xs ≡ length ys
alike_length at to f P [] [] a = refl
alike_length at to f P [] (y ∷ ys) a = absurd a
alike_length at to f P (x ∷ xs) [] a = absurd a
alike_length at to f P (x ∷ xs) (y ∷ ys) a = ap suc (alike_length at to f P xs ys a.1)
