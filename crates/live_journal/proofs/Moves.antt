-- Each step of a pass keeps the rule of its cell.
use Rattle.std.proofs.Common.{◌≡◌, ◌≢◌, ℕ, zero, suc, List, [], ◌∷◌, set, Bool, true, false, true≢false, refl, sym, ◌∙◌, subst, ⊎_elim, le_refl, le_trans, zero-le, arith}
use Rattle.std.specs.Prelude.{◌||◌}
use mathlib.Core.Option.{some, some-ne-none, some-injective}
use lib.ListN.{get_elem?}
use Rattle.crossbeam_utils.specs.Register.{Turns, Forks, Merges}
use Rattle.atomic_table.proofs.Lists.{at_set, at_snoc, set_again}
use Rattle.live_journal.specs.declared.cells.Known.{Known}
use Rattle.live_journal.specs.declared.cells.View.{View}
use Rattle.live_journal.specs.Receipts.{nothing, both, keeping_pass, telling_pass, tells, takes, IsAtMost, Holds, Rises, Compares}

off : false ≡ true → ⊥
off e = true≢false (sym e)

pub atmost_self : (k : Known) → IsAtMost k k
atmost_self k = (le_refl k.upto, λ t. t)

pub atmost_trans : (a b c : Known) → IsAtMost a b → IsAtMost b c → IsAtMost a c
atmost_trans a b c h k = (le_trans h.0 k.0, λ t. k.1 (h.1 t))

pub nothing_atmost : (k : Known) → IsAtMost nothing k
nothing_atmost k = (zero-le, λ t. absurd (off t))

or_first : (a b : Bool) → a ≡ true → (a || b) ≡ true
or_first true b t = refl
or_first false b t = absurd (off t)

or_second : (a b : Bool) → b ≡ true → (a || b) ≡ true
or_second true b t = refl
or_second false b t = t

or_true : (X : Type 0) (a b : Bool) → (a ≡ true → X) → (b ≡ true → X) → (a || b) ≡ true → X
or_true X true b f g t = f refl
or_true X false b f g t = g t

pub first_of_both : (a b : Known) → IsAtMost a (both a b)
first_of_both a b = (grind arith, or_first a.torn b.torn)

pub second_of_both : (a b : Known) → IsAtMost b (both a b)
second_of_both a b = (grind arith, or_second a.torn b.torn)

pub both_atmost : (a b c : Known) → IsAtMost a c → IsAtMost b c → IsAtMost (both a b) c
both_atmost a b c h k = let low = h.0 in let high = k.0 in (grind (arith, low, high), or_true (c.torn ≡ true) a.torn b.torn h.1 k.1)

-- what the rule says of one pass
abbrev Fits : ℕ → Known → ℕ → View → Type 0
Fits seat x by v = (v.keeps ≡ true → (by ≡ seat) × (v.kept ≡ x)) × IsAtMost v.told x

fits_set : (seat : ℕ) (x : Known) (views : List View) (by : ℕ) (w : View) → ((j : ℕ) (u : View) → j ≢ by → get_elem? views j ≡ some u → Fits seat x j u)
    → Fits seat x by w → (j : ℕ) (u : View) → get_elem? (set views by w) j ≡ some u → Fits seat x j u
fits_set seat x views by w others mine j u e =
    ⊎_elim
    (λ (t : (j ≡ by) × (w ≡ u)). subst (λ (y : ℕ × View). Fits seat x y.0 y.1) (λ i. (sym t.0 i, t.1 i)) mine)
    (λ (t : (j ≢ by) × (get_elem? views j ≡ some u)). others j u t.0 t.1)
    (at_set views by j w u e)

tells_fits : (seat : ℕ) (x k : Known) (by : ℕ) → IsAtMost k x → Fits seat x by (telling_pass k)
tells_fits seat x k by h = ((λ t. absurd (off t)), h)

pub begins : (x : Known) → x ≡ nothing → Holds x (keeping_pass nothing ∷ [])
begins x new = (0, one)
  where
    one : (by : ℕ) (v : View) → get_elem? (keeping_pass nothing ∷ []) by ≡ some v → Fits 0 x by v
    one zero v e = subst (Fits 0 x 0) (some-injective _ _ e) ((λ _. (refl, sym new)), nothing_atmost x)
    one (suc by) v e = absurd (some-ne-none v (sym e))

pub rises : (by : ℕ) (v : View) (new : Known) → v.keeps ≡ true → IsAtMost v.kept new → Turns Holds by v (λ _. new) Rises
rises by v new keeps up x views h at =
    let mine = (h.1 by v at).0 keeps in
    let w = keeping_pass new in
    let grown : IsAtMost x new = subst (λ k. IsAtMost k new) mine.1 up in (
      w,
      (
        h.0,
        fits_set h.0 new views by w
            (λ j u apart e. ((λ k. absurd (apart (((h.1 j u e).0 k).0 ∙ sym mine.0))), atmost_trans u.told x new (h.1 j u e).1 grown))
            ((λ _. (mine.0, refl)), atmost_self new),
      ),
      refl,
    )

pub compares : (by : ℕ) (v : View) → v.keeps ≡ true → Turns Holds by v (λ x. x) Compares
compares by v keeps x views h at =
    let mine = h.1 by v at in
    let known = mine.0 keeps in
    let w = keeping_pass v.kept in (
      w,
      (h.0, fits_set h.0 x views by w (λ j u apart e. h.1 j u e) ((λ _. known), subst (IsAtMost v.kept) known.1 (atmost_self v.kept))),
      (refl, subst (IsAtMost v.told) (sym known.1) mine.1),
    )

pub parts : (by : ℕ) (v : View) → Forks Holds by v v (tells v)
parts by v x views h at = (
  h.0,
  λ j u e. ⊎_elim
      (λ was. h.1 j u (subst (λ l. get_elem? l j ≡ some u) (set_again views by v at) was))
      (λ (same : tells v ≡ u). subst (Fits h.0 x j) same (tells_fits h.0 x v.told j (h.1 by v at).1))
      (at_snoc (set views by v) (tells v) u j e),
)

pub takes_in : (by : ℕ) (v : View) (other : ℕ) (u : View) → Merges Holds by v other u (takes v u) (telling_pass nothing)
takes_in by v other u x views h at apart there =
    let w = takes v u in
    let mine = h.1 by v at in
    let theirs = ⊎_elim (λ (t : (other ≡ by) × (w ≡ u)). absurd (apart t.0)) (λ (t : (other ≢ by) × (get_elem? views other ≡ some u)). h.1 other u t.1) (at_set views by other w u there) in (
      h.0,
      fits_set h.0 x (set views by w) other (telling_pass nothing)
          (λ j y _ e. fits_set h.0 x views by w (λ i z _ e'. h.1 i z e') (mine.0, both_atmost v.told u.told x mine.1 theirs.1) j y e)
          (tells_fits h.0 x nothing other (nothing_atmost x)),
    )
