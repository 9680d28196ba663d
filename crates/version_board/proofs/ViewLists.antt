-- Facts of a list of views, after one of them has changed.
use Rattle.std.proofs.Common.{◌≡◌, ◌≢◌, ℕ, zero, suc, ◌<◌, List, [], ◌∷◌, ◌++◌, length, get_or, set, sym, refl, subst, ⊎_elim, arith}
use mathlib.Core.Option.{some, some-injective, some-ne-none}
use lib.ListN.{get_elem?}
use lib.Seq.{set-get_or}
use Rattle.atomic_table.specs.Table.{State, stepped, keeps}
use Rattle.atomic_table.proofs.Lists.{at_set, set_again}

module _ {V : Type 0} where
  -- what stands at a place is within the list
  pub placed : (vs : List V) (i : ℕ) (v : V) → get_elem? vs i ≡ some v → i < length vs
  placed [] i v e = absurd (some-ne-none v (sym e))
  placed (x ∷ xs) zero v e = omega arith
  placed (x ∷ xs) (suc i) v e = let h = placed xs i v e in omega (arith, h)

  -- and can be set
  pub set_there : (vs : List V) (i : ℕ) (v w : V) → get_elem? vs i ≡ some v → get_elem? (set vs i w) i ≡ some w
  set_there [] i v w e = absurd (some-ne-none v (sym e))
  set_there (x ∷ xs) zero v w e = refl
  set_there (x ∷ xs) (suc i) v w e = set_there xs i v w e

  -- a fact of each view
  pub each_set : (K : ℕ → V → Type 0) (vs : List V) (me : ℕ) (w : V) → K me w → ((j : ℕ) (d : V) → j ≢ me → get_elem? vs j ≡ some d → K j d)
      → (j : ℕ) (d : V) → get_elem? (set vs me w) j ≡ some d → K j d
  each_set K vs me w mine others j d e = ⊎_elim (λ (t : (j ≡ me) × (w ≡ d)). subst (λ (x : ℕ × V). K x.0 x.1) (λ i. (sym t.0 i, t.1 i)) mine)
      (λ (t : (j ≢ me) × (get_elem? vs j ≡ some d)). others j d t.0 t.1) (at_set vs me j w d e)

  -- two views that R joins are one
  pub pairs_set : (R : V → V → Type 0) (vs : List V) (me : ℕ) (w : V) → ((v u : V) → R v u → R u v) → ((j : ℕ) (d : V) → j ≢ me → get_elem? vs j ≡ some d → R w d → ⊥)
      → ((i j : ℕ) (v u : V) → get_elem? vs i ≡ some v → get_elem? vs j ≡ some u → R v u → i ≡ j)
      → (i j : ℕ) (v u : V) → get_elem? (set vs me w) i ≡ some v → get_elem? (set vs me w) j ≡ some u → R v u → i ≡ j
  pairs_set R vs me w turn here old i j v u at_i at_j = each_set (λ (k : ℕ) (d : V). R d u → k ≡ j) vs me w
      (each_set (λ (k : ℕ) (d : V). R w d → me ≡ k) vs me w (λ _ c. me) (λ k d other at r. absurd (here k d other at r)) j u at_j)
      (λ k d other at. each_set (λ (l : ℕ) (f : V). R d f → k ≡ l) vs me w (λ r. absurd (here k d other at (turn d w r))) (λ l f _ at_l. old k l d f at at_l) j u at_j) i v at_i

-- a fact of each view, after w came
pub each_more : {V : Type 0} (K : ℕ → V → Type 0) (vs : List V) (w : V) → K (length vs) w → ((j : ℕ) (d : V) → get_elem? vs j ≡ some d → K j d)
    → (j : ℕ) (d : V) → get_elem? (vs ++ w ∷ []) j ≡ some d → K j d
each_more K [] w here old zero d e = subst (K zero) (some-injective w d e) here
each_more K [] w here old (suc j) d e = absurd (some-ne-none d (sym e))
each_more K (x ∷ xs) w here old zero d e = old zero d e
each_more {V} K (x ∷ xs) w here old (suc j) d e = let H : ℕ → V → Type 0 = λ k u. K (suc k) u in let here' : K (suc (length xs)) w = subst (λ n. K n w) (omega arith) here in
    each_more H xs w here' (λ k u at. old (suc k) u at) j d e

-- a step that changes nothing
pub unmoved : {S V : Type 0} (R : State S V → Type 0) (s : State S V) (i id : ℕ) (c : List (ℕ × S)) (v : V) → get_elem? s.views id ≡ some v → R s
    → R (stepped s i (get_or s.words i 0) id c v keeps)
unmoved R s i id c v at r = subst R (λ k. record { words = sym (set-get_or s.words i 0) k; homes = s.homes; views = sym (set_again s.views id v at) k }) r
