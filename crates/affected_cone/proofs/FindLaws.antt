-- What stands at the first place from a number on.

use Rattle.std.proofs.Common.{◌≡◌, ℕ, zero, suc, ◌+◌, ◌<◌, ◌≤◌, Bool, true, false, List, [], ◌∷◌, length, get_or, None, Some, refl, sym, ap, ◌∙◌, inl, inr, arith}
use Rattle.std.specs.Prelude.{nat_eq, find}
use Rattle.std.proofs.lemmas.Bool.{cases_lt, eq-eqb, ne_eqb}
use Rattle.std.proofs.lemmas.List.{get_or_default}
use Rattle.affected_cone.specs.declared.ends.EndSlacks.{EndSlacks}
use Rattle.affected_cone.specs.Rising.{AreRising, AreBounds}

abbrev pub no_end : EndSlacks
no_end = record { pin = 0; setup = None; hold = None }

find_at : (p : EndSlacks → Bool) (xs : List EndSlacks) (i : ℕ) (d : EndSlacks) → i < length xs → p (get_or xs i d) ≡ true → ((j : ℕ) → j < i → p (get_or xs j d) ≡ false)
    → find p xs ≡ Some (get_or xs i d)
find_at p [] i d low here before = absurd (omega (arith, low))
find_at p (x ∷ xs) zero d low here before = rw here refl
find_at p (x ∷ xs) (suc i) d low here before =
    let no_first : p x ≡ false = before 0 (omega arith) in
    rw no_first (find_at p xs i d (omega (arith, low)) here (λ j under. before (suc j) (omega (arith, under))))

find_none : (p : EndSlacks → Bool) (xs : List EndSlacks) (d : EndSlacks) → ((j : ℕ) → j < length xs → p (get_or xs j d) ≡ false) → find p xs ≡ None
find_none p [] d each = refl
find_none p (x ∷ xs) d each =
    let no_first : p x ≡ false = each 0 (omega arith) in
    rw no_first (find_none p xs d (λ j under. each (suc j) (omega (arith, under))))

module _ (ends : List EndSlacks) (pin at : ℕ) (b : AreBounds ends pin at at) where
  pub found_first : (end : EndSlacks) → at < length ends → end ≡ get_or ends at end → end.pin ≡ pin → Some end ≡ find (λ e. nat_eq e.pin pin) ends
  found_first end low is own =
      ap Some is
      ∙ sym (find_at (λ e. nat_eq e.pin pin) ends at end low (eq-eqb (get_or ends at end).pin pin (sym (ap (λ (e : EndSlacks). e.pin) is) ∙ own))
      (λ j under. ne_eqb (get_or ends j end).pin pin (λ e. (let less = b.before j end under in omega (arith, e, less)))))

  -- none has the number where another stands there
  pub found_other : (end : EndSlacks) → AreRising ends → at < length ends → end ≡ get_or ends at end → (end.pin ≡ pin → ⊥) → None ≡ find (λ e. nat_eq e.pin pin) ends
  found_other end up low is differs =
      sym (find_none (λ e. nat_eq e.pin pin) ends end (λ j under. ne_eqb (get_or ends j end).pin pin (other j under)))
    where
      other : (j : ℕ) → j < length ends → (get_or ends j end).pin ≡ pin → ⊥
      other j under e = elim (cases_lt j at) [
        | inl before ↦ (let less = b.before j end before in omega (arith, e, less))
        | inr from ↦
            let here = b.from at end (omega arith) low in
            let over = up.rise at j end from under in
            differs (ap (λ (x : EndSlacks). x.pin) is ∙ (let z : (get_or ends at end).pin ≡ pin = omega (arith, e, here, over) in z))
      ]

  pub found_none : (other : EndSlacks) → length ends ≤ at → None ≡ find (λ e. nat_eq e.pin pin) ends
  found_none other high =
      sym (find_none (λ e. nat_eq e.pin pin) ends other
      (λ j under. ne_eqb (get_or ends j other).pin pin (λ e. (let less = b.before j other (omega arith) in omega (arith, e, less)))))

-- one half keeps the bounds
module _ (ends : List EndSlacks) (up : AreRising ends) (pin low high : ℕ) (b : AreBounds ends pin low high) (middle : ℕ) (above : low ≤ middle) (below : middle < high) where
  pub upper_half : (end : EndSlacks) → end ≡ get_or ends middle end → end.pin < pin → AreBounds ends pin (middle + 1) high
  upper_half end is less = record {
    order = omega arith;
    within = b.within;
    before = λ k other under.
        (let within = b.within in
        let here : middle < length ends = omega arith in
        let rise = up.rise k middle other (omega arith) here in
        let same : (get_or ends middle other).pin ≡ end.pin = ap (λ (x : EndSlacks). x.pin) (get_or_default ends middle other end here ∙ sym is) in
        omega (arith, rise, same, less));
    from = b.from;
  }

  pub lower_half : (end : EndSlacks) → end ≡ get_or ends middle end → pin ≤ end.pin → AreBounds ends pin low middle
  lower_half end is over = record {
    order = above;
    within = (let within = b.within in omega arith);
    before = b.before;
    from = λ k other up_to under.
        (let within = b.within in
        let here : middle < length ends = omega arith in
        let rise = up.rise middle k other up_to under in
        let same : (get_or ends middle other).pin ≡ end.pin = ap (λ (x : EndSlacks). x.pin) (get_or_default ends middle other end here ∙ sym is) in
        omega (arith, rise, same, over));
  }
