-- The rule holds of a board that was just made.
use Rattle.std.proofs.Common.{◌≡◌, ℕ, zero, suc, ◌^◌, ◌<◌, ◌≤◌, ◌==◌, true, false, cond, [], ◌∷◌, sym, refl, ap, subst, inl, ⊎_elim, arith, Some, None, eq-eqb, ne_eqb}
use mathlib.Core.Option.{none, some, some-injective, some-ne-none}
use lib.ListN.{get_elem?}
use Rattle.std.specs.List.{All}
use Rattle.std.proofs.lemmas.List.Elements.{All-cons, All-nil}
use Rattle.atomic_table.specs.Table.{opening}
use Rattle.version_board.specs.declared.views.View.{View}
use Rattle.version_board.specs.Turns.{Sits, Turns}
use Rattle.version_board.specs.History.{Meaning, itself, told, Knows, Follows, History}
use Rattle.version_board.specs.Seats.{Seats}
use Rattle.version_board.specs.Orderly.{Orderly, opened}

-- a fact of the only view
each_one : {V : Type 0} (K : ℕ → V → Type 0) (v : V) → K 0 v → (i : ℕ) (w : V) → get_elem? (v ∷ []) i ≡ some w → K i w
each_one K v here zero w e = subst (K zero) (some-injective v w e) here
each_one K v here (suc i) w e = absurd (some-ne-none w (sym e))

module _ {A E O : Type 0} (m : Meaning A E O) (f : ℕ) (o : O) (all : ℕ) where
  first_turns : (a : A) → Turns 0 0 (some (Some a) ∷ []) (opened {E = E} f o all ∷ [])
  first_turns a = let v : View E O = opened f o all in record {
    low = omega arith;
    high = omega arith;
    sits = each_one (λ _ u. Sits 0 0 u) v (record { waits = λ t e. let h : None ≡ Some t = e in absurd cc; served = λ e. let h : false ≡ true = e in absurd cc });
    apart = λ i j b c t at_i at_j on_b on_c. each_one (λ k u. u.turn ≡ Some t → k ≡ j) v (λ e. let h : None ≡ Some t = e in absurd cc) i b at_i on_b;
    out = each_one (λ _ u. u.inside ≡ true → get_elem? (some (Some a) ∷ []) 0 ≡ some none) v (λ e. let h : false ≡ true = e in absurd cc);
    head = inl (a, refl);
  }

  first_history : (a : A) → m.entries a ≡ [] → m.from a ≡ f → m.origin a ≡ o → History m f o 0 [] 1 (some (Some a) ∷ []) (opened f o all ∷ [])
  first_history a entries from origin = let v : View E O = opened f o all in record {
    room = inl (omega arith);
    home = λ b here. let it : a ≡ b = let e : some (Some a) ≡ some (Some b) = some-injective (some (Some a)) (some (Some b)) here in cc in subst (λ z. (m.entries z ≡ []) × (m.from z ≡ f) × (m.origin z ≡ o)) it (entries, from, origin);
    each = each_one (λ _ u. u.spent ≡ false → Knows f o [] u) v (λ _. record { looks = omega arith; origin = refl; first = refl; held = λ _. refl });
    follows = each_one (λ _ u. All (Follows m.by []) (told u)) v (All-cons (Follows m.by []) (itself v) [] (([], refl), refl) (All-nil (Follows m.by [])));
    seen = (0, v, refl, inl refl);
    numbers = record {
      once = λ n lo hi. let one : ◌≡◌ {A = ℕ} (cond (1 == n) 1 0) 1 = ap (λ b. let k : ℕ = cond b 1 0 in k) (eq-eqb 1 n (omega arith)) in omega arith;
      no_other = λ n out. let none_has : ◌≡◌ {A = ℕ} (cond (1 == n) 1 0) 0 =
          ap (λ b. let k : ℕ = cond b 1 0 in k) (ne_eqb 1 n (λ e. ⊎_elim (λ (h : n ≡ 0). omega arith) (λ (h : 1 < n). omega arith) out)) in omega arith;
    };
    whose = All-nil (λ e. (0 < m.by e) × (m.by e ≤ 1));
  }

  first_seats : 0 < all → Seats all 1 (opened {E = E} f o all ∷ [])
  first_seats some_seat = let v : View E O = opened f o all in record {
    parts = omega arith;
    live = each_one (λ _ u. u.spent ≡ false → 0 < u.parts) v (λ _. some_seat);
    inside = each_one (λ _ u. u.inside ≡ true → u.spent ≡ false) v (λ _. refl);
    gone = each_one (λ _ u. u.spent ≡ true → u.olds ≡ []) v (λ _. refl);
    makers = omega arith;
    made = each_one (λ _ u. u.maker ≡ true → u.made ≡ 1) v (λ _. refl);
  }

  pub starts : (a : A) → 0 < all → f ≤ 2 ^ 62 → m.entries a ≡ [] → m.from a ≡ f → m.origin a ≡ o → Orderly m f o all (opening (0 ∷ 0 ∷ f ∷ []) (Some a ∷ []) (opened f o all))
  starts a some_seat small entries from origin = record {
    log = [];
    seats = 1;
    wide = refl;
    deep = refl;
    small = small;
    counted = omega arith;
    turns = first_turns a;
    history = first_history a entries from origin;
    seated = first_seats some_seat;
  }
