-- Each step keeps what the rule says of tickets, turns and the slot.
use Rattle.std.proofs.Common.{◌≡◌, ◌≢◌, ℕ, ◌+◌, ◌^◌, ◌<◌, true, false, List, [], ◌∷◌, ◌++◌, length, set, sym, ap, ◌∙◌, subst, ⊎_elim, inl, inr, arith, Some, None}
use mathlib.Core.Logic.{dite}
use mathlib.Core.Option.{none, some, some-injective}
use native.Mathlib.Decide.{ℕ_discrete}
use lib.ListN.{get_elem?}
use Rattle.atomic_table.proofs.Lists.{set_here, set_else, at_longer}
use Rattle.version_board.specs.declared.views.View.{View}
use Rattle.version_board.specs.Turns.{Homes, Sits, SomeInside, Turns}
use Rattle.version_board.specs.Steps.{waiting}
use Rattle.version_board.proofs.ViewLists.{each_more, each_set, pairs_set, set_there}

module _ {E O : Type 0} where
  -- the two have drawn one ticket
  abbrev pub Shares : View E O → View E O → Type 0
  Shares v w = (t : ℕ) × (v.turn ≡ Some t) × (w.turn ≡ Some t)

  shares_turned : (v w : View E O) → Shares v w → Shares w v
  shares_turned v w r = (r.0, r.2, r.1)

  -- a fact of some view, where the view that is set has it if the former had
  pub some_set : (K : View E O → Type 0) (views : List (View E O)) (id : ℕ) (v w : View E O) → get_elem? views id ≡ some v → (K v → K w)
      → (i : ℕ) × (u : View E O) × (get_elem? views i ≡ some u) × K u → (i : ℕ) × (u : View E O) × (get_elem? (set views id w) i ≡ some u) × K u
  some_set K views id v w at stays found = let i = found.0 in let u = found.1 in dite (ℕ_discrete i id)
      (λ e. let same : u ≡ v = some-injective u v (sym found.2 ∙ (ap (get_elem? views) e ∙ at)) in (id, w, set_there views id v w at, stays (subst K same found.3)))
      (λ ne. (i, u, set_else views id i w ne ∙ found.2, found.3))

module _ {A E O : Type 0} where
  -- at most one is inside
  pub alone : (serving ticket : ℕ) (homes : Homes A) (views : List (View E O)) → Turns serving ticket homes views → (i j : ℕ) (v w : View E O)
      → get_elem? views i ≡ some v → get_elem? views j ≡ some w → v.inside ≡ true → w.turn ≡ Some serving → i ≡ j
  alone serving ticket homes views r i j v w at_i at_j in_v on_w = r.apart i j v w serving at_i at_j ((r.sits i v at_i).served in_v) on_w

  pub drawn : (serving ticket : ℕ) (homes : Homes A) (views : List (View E O)) → Turns serving ticket homes views → (id : ℕ) (v : View E O) → get_elem? views id ≡ some v
      → v.turn ≡ None → ticket < 2 ^ 62 → Turns serving (ticket + 1) homes (set views id (waiting ticket v))
  drawn serving ticket homes views r id v at idle room = let w = waiting ticket v in
      let out_is : v.inside ≡ true → ⊥ = λ e. let h : None ≡ Some serving = sym idle ∙ (r.sits id v at).served e in cc in let low = r.low in record {
        low = omega arith;
        high = omega arith;
        sits = each_set (λ _ u. Sits serving (ticket + 1) u) views id w (record { waits = λ t e. let same : ticket ≡ t = cc in omega arith; served = λ e. absurd (out_is e) })
            (λ j u _ at_j. record { waits = λ t e. let h = (r.sits j u at_j).waits t e in omega (arith, h.0, h.1); served = (r.sits j u at_j).served });
        apart = λ i j a b t at_i at_j on_a on_b. pairs_set Shares views id w shares_turned
            (λ k u _ at_k s. let h = ((r.sits k u at_k).waits s.0 s.2).1 in let same : ticket ≡ s.0 = cc (s.1) in omega arith)
            (λ k l c d at_k at_l s. r.apart k l c d s.0 at_k at_l s.1 s.2) i j a b at_i at_j (t, on_a, on_b);
        out = each_set (λ _ u. u.inside ≡ true → get_elem? homes 0 ≡ some none) views id w (λ e. absurd (out_is e)) (λ j u _ at_j. r.out j u at_j);
        head = ⊎_elim (λ (h : (a : A) × (get_elem? homes 0 ≡ some (some (Some a)))). inl h) (λ (h : SomeInside views). inr (some_set (λ u. u.inside ≡ true) views id v w at (λ e. absurd (out_is e)) h)) r.head;
      }

  -- a step that leaves the turn
  pub rests : (serving ticket : ℕ) (homes : Homes A) (views : List (View E O)) → Turns serving ticket homes views → (id : ℕ) (v w : View E O) → get_elem? views id ≡ some v
      → w.turn ≡ v.turn → w.inside ≡ v.inside → Turns serving ticket homes (set views id w)
  rests serving ticket homes views r id v w at turn inside = let mine = r.sits id v at in record {
    low = r.low;
    high = r.high;
    sits = each_set (λ _ u. Sits serving ticket u) views id w (record { waits = λ t e. mine.waits t (sym turn ∙ e); served = λ e. turn ∙ mine.served (sym inside ∙ e) }) (λ j u _ at_j. r.sits j u at_j);
    apart = λ i j a b t at_i at_j on_a on_b. pairs_set Shares views id w shares_turned
        (λ k u other at_k s. other (r.apart k id u v s.0 at_k at s.2 (sym turn ∙ s.1)))
        (λ k l c d at_k at_l s. r.apart k l c d s.0 at_k at_l s.1 s.2) i j a b at_i at_j (t, on_a, on_b);
    out = each_set (λ _ u. u.inside ≡ true → get_elem? homes 0 ≡ some none) views id w (λ e. r.out id v at (sym inside ∙ e)) (λ j u _ at_j. r.out j u at_j);
    head = ⊎_elim (λ (h : (a : A) × (get_elem? homes 0 ≡ some (some (Some a)))). inl h) (λ (h : SomeInside views). inr (some_set (λ u. u.inside ≡ true) views id v w at (λ e. inside ∙ e) h)) r.head;
  }

  -- the value that waits for who sees its ticket served
  pub lifted : (serving ticket : ℕ) (homes : Homes A) (views : List (View E O)) → Turns serving ticket homes views → (id : ℕ) (v : View E O) → get_elem? views id ≡ some v
      → v.turn ≡ Some serving → v.inside ≡ false → (a : A) × (get_elem? homes 0 ≡ some (some (Some a)))
  lifted serving ticket homes views r id v at on out_is = ⊎_elim (λ (h : (a : A) × (get_elem? homes 0 ≡ some (some (Some a)))). h)
      (λ (h : SomeInside views). let same : h.0 ≡ id = alone serving ticket homes views r h.0 id h.1 v h.2 at h.3 on in
      let it : h.1 ≡ v = some-injective h.1 v (sym h.2 ∙ (ap (get_elem? views) same ∙ at)) in let yes_no : true ≡ false = sym h.3 ∙ (ap (λ (x : View E O). x.inside) it ∙ out_is) in absurd cc) r.head

  pub goes_in : (serving ticket : ℕ) (homes : Homes A) (views : List (View E O)) → Turns serving ticket homes views → length homes ≡ 1 → (id : ℕ) (v w : View E O) → get_elem? views id ≡ some v
      → v.turn ≡ Some serving → w.turn ≡ v.turn → w.inside ≡ true → Turns serving ticket (set homes 0 none) (set views id w)
  goes_in serving ticket homes views r deep id v w at on turn inside = let mine = r.sits id v at in let gone : get_elem? (set homes 0 none) 0 ≡ some none = set_here homes 0 none (omega arith) in record {
    low = r.low;
    high = r.high;
    sits = each_set (λ _ u. Sits serving ticket u) views id w (record { waits = λ t e. mine.waits t (sym turn ∙ e); served = λ _. turn ∙ on }) (λ j u _ at_j. r.sits j u at_j);
    apart = λ i j a b t at_i at_j on_a on_b. pairs_set Shares views id w shares_turned
        (λ k u other at_k s. other (r.apart k id u v s.0 at_k at s.2 (sym turn ∙ s.1)))
        (λ k l c d at_k at_l s. r.apart k l c d s.0 at_k at_l s.1 s.2) i j a b at_i at_j (t, on_a, on_b);
    out = λ _ _ _ _. gone;
    head = inr (id, w, set_there views id v w at, inside);
  }

  pub goes_out : (serving ticket : ℕ) (homes : Homes A) (views : List (View E O)) → Turns serving ticket homes views → length homes ≡ 1 → (id : ℕ) (v w : View E O) → get_elem? views id ≡ some v
      → v.inside ≡ true → w.turn ≡ None → w.inside ≡ false → (a : A) → Turns (serving + 1) ticket (set homes 0 (some (Some a))) (set views id w)
  goes_out serving ticket homes views r deep id v w at in_v turn inside a = let on = (r.sits id v at).served in_v in let until = (r.sits id v at).waits serving on in
      let other_out : (j : ℕ) (u : View E O) → j ≢ id → get_elem? views j ≡ some u → u.inside ≡ true → ⊥ = λ j u other at_j in_u. other (alone serving ticket homes views r j id u v at_j at in_u on) in record {
        low = omega (arith, until.1);
        high = r.high;
        sits = each_set (λ _ u. Sits (serving + 1) ticket u) views id w
            (record { waits = λ t e. let h : None ≡ Some t = sym turn ∙ e in absurd cc; served = λ e. let h : false ≡ true = sym inside ∙ e in absurd cc })
            (λ j u other at_j. record {
              waits = λ t e. let h = (r.sits j u at_j).waits t e in let later : serving ≢ t = λ same. other (r.apart j id u v t at_j at e (on ∙ ap (λ k. Some k) same)) in omega (arith, h.0, h.1);
              served = λ e. absurd (other_out j u other at_j e);
            });
        apart = λ i j b c t at_i at_j on_b on_c. pairs_set Shares views id w shares_turned (λ k u other at_k s. let h : None ≡ Some s.0 = sym turn ∙ s.1 in cc)
            (λ k l d e at_k at_l s. r.apart k l d e s.0 at_k at_l s.1 s.2) i j b c at_i at_j (t, on_b, on_c);
        out = each_set (λ _ u. u.inside ≡ true → get_elem? (set homes 0 (some (Some a))) 0 ≡ some none) views id w (λ e. let h : false ≡ true = sym inside ∙ e in absurd cc)
            (λ j u other at_j e. absurd (other_out j u other at_j e));
        head = inl (a, set_here homes 0 (some (Some a)) (omega arith));
      }

  -- a seat that has no turn comes in
  pub comes_in : (serving ticket : ℕ) (homes : Homes A) (views : List (View E O)) → Turns serving ticket homes views → (w : View E O) → w.turn ≡ None → w.inside ≡ false
      → Turns serving ticket homes (views ++ w ∷ [])
  comes_in serving ticket homes views r w idle outside = let none_drawn : (t : ℕ) → w.turn ≡ Some t → ⊥ = λ t e. let h : None ≡ Some t = sym idle ∙ e in cc in
      let not_in : w.inside ≡ true → ⊥ = λ e. let h : false ≡ true = sym outside ∙ e in cc in record {
        low = r.low;
        high = r.high;
        sits = each_more (λ _ u. Sits serving ticket u) views w (record { waits = λ t e. absurd (none_drawn t e); served = λ e. absurd (not_in e) }) r.sits;
        apart = λ i j b c t at_i at_j on_b on_c. each_more (λ k u. u.turn ≡ Some t → k ≡ j) views w (λ e. absurd (none_drawn t e))
            (λ k u at_k on_u. each_more (λ l z. z.turn ≡ Some t → k ≡ l) views w (λ e. absurd (none_drawn t e)) (λ l z at_l on_z. r.apart k l u z t at_k at_l on_u on_z) j c at_j on_c) i b at_i on_b;
        out = each_more (λ _ u. u.inside ≡ true → get_elem? homes 0 ≡ some none) views w (λ e. absurd (not_in e)) r.out;
        head = ⊎_elim (λ (h : (a : A) × (get_elem? homes 0 ≡ some (some (Some a)))). inl h) (λ (h : SomeInside views). inr (h.0, h.1, at_longer views (w ∷ []) h.0 h.1 h.2, h.3)) r.head;
      }
