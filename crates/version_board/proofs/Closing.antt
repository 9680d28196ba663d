-- What the last state of a board shows to a seat that took in all others.
use Rattle.std.proofs.Common.{◌≡◌, ◌≢◌, ℕ, zero, suc, ◌<◌, ◌≤◌, ◌==◌, Bool, true, false, cond, List, [], ◌∷◌, sym, refl, ap, ◌∙◌, subst, ⊎_elim, arith, Option, Some, None}
use mathlib.Core.Logic.{dite}
use mathlib.Core.Option.{some, some-injective, some-ne-none}
use native.Mathlib.Decide.{ℕ_discrete}
use lib.ListN.{get_elem?}
use Rattle.std.specs.List.{All, count_by, sum_by}
use Rattle.std.proofs.lemmas.List.Elements.{All-weaker}
use Rattle.std.proofs.lemmas.List.Sums.{sum_by-cons}
use Rattle.atomic_table.specs.Table.{State, Final, Seen}
use Rattle.version_board.specs.declared.views.View.{View}
use Rattle.version_board.specs.declared.views.Old.{Old}
use Rattle.version_board.specs.Turns.{SomeInside}
use Rattle.version_board.specs.History.{Meaning, itself, told, holders, Follows}
use Rattle.version_board.specs.Seats.{parts_of}
use Rattle.version_board.specs.Closed.{Closes}
use Rattle.version_board.specs.Orderly.{Orderly}
use Rattle.version_board.proofs.Logs.{sum_two}

-- a sum of which only one part counts
sum_only : {X : Type 0} (f : X → ℕ) (xs : List X) (i : ℕ) (x : X) → get_elem? xs i ≡ some x → ((j : ℕ) (y : X) → j ≢ i → get_elem? xs j ≡ some y → f y ≡ 0) → sum_by f xs ≡ f x
sum_only f [] i x e none_else = absurd (some-ne-none x (sym e))
sum_only f (y ∷ ys) zero x e none_else = let same : f y ≡ f x = ap f (some-injective y x e) in
    let rest : sum_by f ys ≡ 0 = all_none f ys (λ j z at. none_else (suc j) z (λ h. omega arith) at) in let s = sum_by-cons f y ys in omega arith
  where
    all_none : {X : Type 0} (f : X → ℕ) (xs : List X) → ((j : ℕ) (y : X) → get_elem? xs j ≡ some y → f y ≡ 0) → sum_by f xs ≡ 0
    all_none f [] h = refl
    all_none f (y ∷ ys) h = let here = h 0 y refl in let rest = all_none f ys (λ j z at. h (suc j) z at) in let s = sum_by-cons f y ys in omega arith
sum_only f (y ∷ ys) (suc i) x e none_else = let here = none_else zero y (λ h. omega arith) refl in
    let rest = sum_only f ys i x e (λ j z ne at. none_else (suc j) z (λ h. ne (omega arith)) at) in let s = sum_by-cons f y ys in omega arith

module _ {A E O : Type 0} (m : Meaning A E O) (f : ℕ) (o : O) (all : ℕ) where
  -- every other view is spent
  lone : (s : State (Option A) (View E O)) → (r : Orderly m f o all s) → (id : ℕ) (v : View E O) → get_elem? s.views id ≡ some v → v.spent ≡ false → v.parts ≡ all
      → (j : ℕ) (u : View E O) → j ≢ id → get_elem? s.views j ≡ some u → u.spent ≡ true
  lone s r id v at live parts j u other at_j = not_false u.spent (λ live'. let two = sum_two parts_of s.views j id u v other at_j at in let sum = r.seated.parts in let some_part = r.seated.live j u at_j live' in
      let of_v : parts_of v ≡ v.parts = ap (λ b. cond b 0 v.parts) live in let of_u : parts_of u ≡ u.parts = ap (λ b. cond b 0 u.parts) live' in omega arith)
    where
      not_false : (b : Bool) → (b ≡ false → ⊥) → b ≡ true
      not_false true h = refl
      not_false false h = absurd (h refl)

  pub ends : (ws : List ℕ) (xs : List (Option A)) (id : ℕ) (v : View E O) → v.spent ≡ false → v.turn ≡ None → v.parts ≡ all → Final (Seen (Orderly m f o all) id v) ws xs
      → (a : A) × (get_elem? xs 0 ≡ some (Some a)) × Closes m f o v a
  ends ws xs id v live idle parts fin = let s = fin.0 in let r = fin.1.0 in let at = fin.1.1 in let others = lone s r id v at live parts in
      let a : (a : A) × (get_elem? s.homes 0 ≡ some (some (Some a))) = ⊎_elim (λ (h : (a : A) × (get_elem? s.homes 0 ≡ some (some (Some a)))). h)
      (λ (h : SomeInside s.views). dite (ℕ_discrete h.0 id)
      (λ e. let it : h.1 ≡ v = some-injective h.1 v (sym h.2 ∙ (ap (get_elem? s.views) e ∙ at)) in
      let on = (r.turns.sits id v at).served (ap (λ (x : View E O). x.inside) (sym it) ∙ h.3) in let k = sym idle ∙ on in absurd cc)
      (λ ne. let k : true ≡ false = sym (others h.0 h.1 ne h.2) ∙ r.seated.inside h.0 h.1 h.2 h.3 in absurd cc)) r.turns.head in
      let home = r.history.home a.0 a.1 in
      let once : (n : ℕ) → (0 < n) × (n ≤ r.seats) → holders n v ≡ 1 = λ n k. sym (sum_only (holders n) s.views id v at
      (λ j u ne at_j. let gone = others j u ne at_j in let bare = r.seated.gone j u at_j gone in
      let none_told : told u ≡ [] = ap (λ b. cond b u.olds (itself u ∷ u.olds)) gone ∙ bare in ap (count_by (λ (t : Old E). t.number == n)) none_told)) ∙ r.history.numbers.once n k.0 k.1 in (
        a.0,
        fin.4 0 (Some a.0) a.1,
        (
          home.1,
          home.2,
          subst (λ l. All (Follows m.by l) (told v)) (sym home.0) (r.history.follows id v at),
          subst (All (λ e. holders (m.by e) v ≡ 1)) (sym home.0) (All-weaker (λ e. (0 < m.by e) × (m.by e ≤ r.seats)) (λ e. holders (m.by e) v ≡ 1) (λ e k. once (m.by e) k) r.log r.history.whose),
        ),
      )
