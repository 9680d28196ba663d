-- Pins between first and last ones, along links that rise: where links differ at pins alone that are between in neither
-- of two sets of links, the same pins are between.

use Rattle.std.proofs.Common.{◌≡◌, ℕ, zero, suc, ◌+◌, ◌<◌, ◌≤◌, Bool, true, false, List, refl, sym, subst, ◌∙◌, inl, inr, arith}
use Rattle.std.specs.Prelude.{nat_eq, Contains, ◌&&◌, ◌||◌}
use Rattle.std.specs.List.{list_any}
use Rattle.std.proofs.lemmas.Bool.{cases_Bool, true≢false, and_parts, and_from, or_cases, or_left, or_right, eqb-true, eq-eqb}
use Rattle.timing_defs.proofs.Members.{any_in, any_back}
use Rattle.pin_graph.proofs.WalkLaws.{both_same}

-- links, first and last pins, and which pins are reached from first ones and reach last ones
pub record Walks : Type 0 where
  pub tails : ℕ → List ℕ
  pub heads : ℕ → List ℕ
  pub first : ℕ → Bool
  pub last : ℕ → Bool
  pub forth : ℕ → Bool
  pub back : ℕ → Bool
  pub level : ℕ → ℕ
  pub top : ℕ

abbrev pub is_between : Walks → ℕ → Bool
is_between w pin = w.forth pin && w.back pin

pub record AreWalks (w : Walks) : Type 0 where
  pub forth_is : (pin : ℕ) → w.forth pin ≡ (w.first pin || list_any w.forth (w.tails pin))
  pub back_is : (pin : ℕ) → w.back pin ≡ (w.last pin || list_any w.back (w.heads pin))
  pub heads_of : (pin from : ℕ) → Contains (w.tails pin) from → Contains (w.heads from) pin
  pub tails_of : (pin to : ℕ) → Contains (w.heads pin) to → Contains (w.tails to) pin
  pub rising : (pin from : ℕ) → Contains (w.tails pin) from → w.level from < w.level pin
  pub low : (pin : ℕ) → w.level pin < w.top

-- at pins that are left the links are the same, and so are first and last ones
pub record AreLeft (w v : Walks) (left : ℕ → Bool) : Type 0 where
  pub firsts : (pin : ℕ) → v.first pin ≡ w.first pin
  pub lasts : (pin : ℕ) → left pin ≡ true → v.last pin ≡ w.last pin
  pub tails : (pin : ℕ) → left pin ≡ true → v.tails pin ≡ w.tails pin
  pub heads : (pin : ℕ) → left pin ≡ true → (q : ℕ) → list_any (nat_eq q) (v.heads pin) ≡ list_any (nat_eq q) (w.heads pin)

module _ (w v : Walks) (are : AreWalks w) (are2 : AreWalks v) (left : ℕ → Bool) (same : AreLeft w v left)
    (off : (pin : ℕ) → left pin ≡ false → is_between v pin ≡ false) where
  left_at : (pin : ℕ) → v.forth pin ≡ true → v.back pin ≡ true → left pin ≡ true
  left_at pin f b = elim (cases_Bool (left pin)) [
    | inl e ↦ e
    | inr e ↦ absurd (true≢false (sym (and_from (v.forth pin) (v.back pin) f b) ∙ off pin e))
  ]

  -- a pin before one that is between is between where it is reached
  back_before : (pin from : ℕ) → Contains (v.tails pin) from → v.back pin ≡ true → v.back from ≡ true
  back_before pin from c b =
      are2.back_is from
      ∙ or_right (v.last from) (list_any v.back (v.heads from)) (any_in v.back (v.heads from) pin (are2.heads_of pin from c) b)

  forth_behind : (pin to : ℕ) → Contains (v.heads pin) to → v.forth pin ≡ true → v.forth to ≡ true
  forth_behind pin to c f =
      are2.forth_is to
      ∙ or_right (v.first to) (list_any v.forth (v.tails to)) (any_in v.forth (v.tails to) pin (are2.tails_of pin to c) f)

  forth_kept : (k pin : ℕ) → v.level pin < k → v.forth pin ≡ true → v.back pin ≡ true → w.forth pin ≡ true
  forth_kept zero pin low f b = absurd (omega (arith, low))
  forth_kept (suc k) pin low f b =
      are.forth_is pin
      ∙ elim (or_cases (v.first pin) (list_any v.forth (v.tails pin)) (sym (are2.forth_is pin) ∙ f)) [
        | inl h ↦ or_left (w.first pin) (list_any w.forth (w.tails pin)) (sym (same.firsts pin) ∙ h)
        | inr h ↦
            let r = any_back v.forth (v.tails pin) h in
            let under = are2.rising pin r.item r.within in
            let here = forth_kept k r.item (omega (arith, under, low)) r.passes (back_before pin r.item r.within b) in
            let there : Contains (w.tails pin) r.item = subst (λ (xs : List ℕ). Contains xs r.item) (same.tails pin (left_at pin f b)) r.within in
            or_right (w.first pin) (list_any w.forth (w.tails pin)) (any_in w.forth (w.tails pin) r.item there here)
      ]

  back_kept : (k pin : ℕ) → v.top ≤ v.level pin + k → v.forth pin ≡ true → v.back pin ≡ true → w.back pin ≡ true
  back_kept zero pin high f b = let low = are2.low pin in absurd (omega (arith, high, low))
  back_kept (suc k) pin high f b =
      are.back_is pin
      ∙ elim (or_cases (v.last pin) (list_any v.back (v.heads pin)) (sym (are2.back_is pin) ∙ b)) [
        | inl h ↦ or_left (w.last pin) (list_any w.back (w.heads pin)) (sym (same.lasts pin (left_at pin f b)) ∙ h)
        | inr h ↦
            let r = any_back v.back (v.heads pin) h in
            let over = are2.rising r.item pin (are2.tails_of pin r.item r.within) in
            let here = back_kept k r.item (omega (arith, over, high)) (forth_behind pin r.item r.within f) r.passes in
            let there : list_any (nat_eq r.item) (w.heads pin) ≡ true =
            sym (same.heads pin (left_at pin f b) r.item) ∙ any_in (nat_eq r.item) (v.heads pin) r.item r.within (eq-eqb r.item r.item refl) in
            let m = any_back (nat_eq r.item) (w.heads pin) there in
            or_right (w.last pin) (list_any w.back (w.heads pin))
            (any_in w.back (w.heads pin) m.item m.within (subst (λ (q : ℕ). w.back q ≡ true) (eqb-true r.item m.item m.passes) here))
      ]

  pub between_kept : (pin : ℕ) → is_between v pin ≡ true → is_between w pin ≡ true
  between_kept pin e =
      let parts = and_parts (v.forth pin) (v.back pin) e in
      and_from (w.forth pin) (w.back pin) (forth_kept (v.level pin + 1) pin (omega arith) parts.0 parts.1)
      (back_kept v.top pin (omega arith) parts.0 parts.1)

left_back : (w v : Walks) (left : ℕ → Bool) → AreLeft w v left → AreLeft v w left
left_back w v left same = record {
  firsts = λ pin. sym (same.firsts pin);
  lasts = λ pin e. sym (same.lasts pin e);
  tails = λ pin e. sym (same.tails pin e);
  heads = λ pin e q. sym (same.heads pin e q);
}

pub between_same : (w v : Walks) → AreWalks w → AreWalks v → (left : ℕ → Bool) → AreLeft w v left
    → ((pin : ℕ) → left pin ≡ false → (is_between w pin ≡ false) × (is_between v pin ≡ false))
    → (pin : ℕ) → is_between v pin ≡ is_between w pin
between_same w v are are2 left same off pin =
    both_same (is_between v pin) (is_between w pin)
    (between_kept w v are are2 left same (λ p e. (off p e).1) pin)
    (between_kept v w are2 are left (left_back w v left same) (λ p e. (off p e).0) pin)
