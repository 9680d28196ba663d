-- Pieces in two runs, of which each is written by itself.
use Rattle.std.specs.Prelude.{◌≡◌, ℕ, ◌+◌, ◌*◌, ◌-◌, ◌<◌, ◌≤◌, List, [], ◌∷◌, ◌++◌, length, Result, Ok, Err}
use Rattle.std.specs.List.{flat_map}
use Rattle.std.specs.Result.{OnOk}
use Rattle.std.proofs.Common.{arith, sym, ap, ◌∙◌, subst, append-nil, length-append}
use Rattle.std.proofs.lemmas.List.Concat.{flat_map-append}
use Rattle.cow_table.specs.Pieces.{IsCut}
use Rattle.cow_table.specs.Writes.{written}
use Rattle.cow_table.proofs.Writing.{written_two}

-- what follows from two facts of what went well
both_ok : {T E P Q S : Type 0} (r : Result T E) → (P → Q → S) → OnOk r P → OnOk r Q → OnOk r S
both_ok (Ok x) h p q = h p q
both_ok (Err e) h p q = p

module _ {X A : Type 0} (f : X → List A) where
  -- two runs of pieces, where the first has full ones alone
  pub record AreParts (front back : List X) (at count : ℕ) : Type 0 where
    pub front_cut : IsCut 4096 f front
    pub back_cut : IsCut 4096 f back
    pub before : at * 4096 ≡ length (flat_map f front)
    pub behind : count - at * 4096 ≡ length (flat_map f back)
    pub within : at * 4096 ≤ count

  parted : (front back : List X) → 0 < length back → IsCut 4096 f (front ++ back)
      → IsCut 4096 f front × IsCut 4096 f back × (length (flat_map f front) ≡ length front * 4096)
  parted [] back low cut = (tt, cut, omega arith)
  parted (x ∷ []) [] low cut = absurd (omega (arith, low))
  parted (x ∷ []) (y ∷ ys) low cut =
      let long : length (f x ++ []) ≡ length (f x) = ap length (append-nil (f x)) in
      ((omega (arith, cut.0), omega (arith, cut.0)), cut.1, omega (arith, long, cut.0))
  parted (x ∷ z ∷ zs) back low cut =
      let rest = parted (z ∷ zs) back low cut.1 in
      ((cut.0, rest.0), rest.1, omega (arith, cut.0, rest.2, length-append (f x) (flat_map f (z ∷ zs))))

  pub joined : (front back : List X) → IsCut 4096 f front → IsCut 4096 f back → length (flat_map f front) ≡ length front * 4096 → IsCut 4096 f (front ++ back)
  joined [] back c d e = d
  joined (x ∷ []) [] c d e = c
  joined (x ∷ []) (y ∷ ys) c d e =
      let long : length (f x ++ []) ≡ length (f x) = ap length (append-nil (f x)) in
      (omega (arith, long, e), d)
  joined (x ∷ z ∷ zs) back c d e = (c.0, joined (z ∷ zs) back c.1 d (omega (arith, c.0, e, length-append (f x) (flat_map f (z ∷ zs)))))

  -- the pieces are cut at a place where some are left
  pub parts_of : (xs front back : List X) (at count : ℕ) → xs ≡ front ++ back → length front ≡ at → at < length xs
      → IsCut 4096 f xs → count ≡ length (flat_map f xs) → AreParts front back at count
  parts_of xs front back at count e n low cut counted =
      let some : 0 < length back = omega (arith, low, n, ap length e, length-append front back) in
      let runs = parted front back some (subst (IsCut 4096 f) e cut) in
      let whole : length (flat_map f xs) ≡ length (flat_map f front) + length (flat_map f back) =
      ap (λ l. length (flat_map f l)) e ∙ ap length (flat_map-append f front back) ∙ length-append (flat_map f front) (flat_map f back) in
      record {
        front_cut = runs.0;
        back_cut = runs.1;
        before = omega (arith, runs.2, n);
        behind = omega (arith, runs.2, n, whole, counted);
        within = omega (arith, runs.2, n, whole, counted);
      }

  -- both runs were written
  pub both_written : {T E D : Type 0} (r : Result T E) (xs front back front' back' : List X) (at : ℕ) (places : List ℕ) (values : List (Result A D))
      → xs ≡ front ++ back → at ≡ length (flat_map f front)
      → OnOk r (flat_map f front' ≡ written 0 (flat_map f front) places values)
      → OnOk r (flat_map f back' ≡ written at (flat_map f back) places values)
      → OnOk r (flat_map f (front' ++ back') ≡ written 0 (flat_map f xs) places values)
  both_written r xs front back front' back' at places values e n =
      both_ok r (λ p q.
      flat_map-append f front' back'
      ∙ ap (λ l. l ++ flat_map f back') p
      ∙ ap (λ l. written 0 (flat_map f front) places values ++ l) q
      ∙ sym (written_two (flat_map f front) (flat_map f back) at places values n)
      ∙ ap (λ l. written 0 l places values) (sym (flat_map-append f front back))
      ∙ ap (λ l. written 0 (flat_map f l) places values) (sym e))

  -- as many items as before
  pub both_long : (front' back' : List X) (before behind count : ℕ) → length (flat_map f front') ≡ before → length (flat_map f back') ≡ behind → before + behind ≡ count
      → length (flat_map f (front' ++ back')) ≡ count
  both_long front' back' before behind count p q e =
      ap length (flat_map-append f front' back') ∙ length-append (flat_map f front') (flat_map f back') ∙ omega (arith, p, q, e)
