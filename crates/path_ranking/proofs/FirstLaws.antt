-- The first so many of a claim, under a map that keeps the order.

use Rattle.std.proofs.Common.{◌≡◌, ℕ, zero, suc, Bool, false, List, [], ◌∷◌, map, sym, ap, subst, ◌∙◌}
use Rattle.std.specs.Prelude.{All}
use Rattle.std.proofs.lemmas.List.Elements.{All-nil, All-cons}
use Rattle.timing_defs.specs.Firsts.{AreFirst}

-- each of the first is one of them
pub first_are : {X : Type 0} (before : X → X → Bool) (count : ℕ) (Is : X → Type 0) (xs : List X) → AreFirst before count Is xs → All Is xs
first_are before zero Is [] f = All-nil Is
first_are before zero Is (x ∷ xs) f = absurd f
first_are before (suc count) Is [] f = All-nil Is
first_are {X} before (suc count) Is (x ∷ xs) f =
    All-cons Is x xs f.0 (others xs (first_are before count (λ y. Is y × (y ≡ x → ⊥)) xs f.2))
  where
    others : (ys : List X) → All (λ y. Is y × (y ≡ x → ⊥)) ys → All Is ys
    others ys all = λ k d low. (all k d low).0

-- what a map is asked for: it leads from one claim onto another, keeps the order, and is one to one
pub record IsOnto {X Y : Type 0} (f : X → Y) (before : X → X → Bool) (after : Y → Y → Bool) (P : X → Type 0) (Q : Y → Type 0) : Type 0 where
  pub sound : (x : X) → P x → Q (f x)
  pub whole : (y : Y) → Q y → (x : X) × P x × (f x ≡ y)
  pub order : (a b : X) → P a → P b → after (f a) (f b) ≡ before a b
  pub apart : (a b : X) → P a → P b → f a ≡ f b → a ≡ b

pub first_mapped : {X Y : Type 0} (f : X → Y) (before : X → X → Bool) (after : Y → Y → Bool) (P : X → Type 0) (Q : Y → Type 0) → IsOnto f before after P Q
    → (count : ℕ) (xs : List X) → AreFirst before count P xs → AreFirst after count Q (map f xs)
first_mapped f before after P Q onto zero [] first = first
first_mapped f before after P Q onto zero (x ∷ xs) first = absurd first
first_mapped f before after P Q onto (suc count) [] first = λ y q. let w = onto.whole y q in first w.0 w.1
first_mapped {X} {Y} f before after P Q onto (suc count) (x ∷ xs) first = (
  onto.sound x first.0,
  λ y q. (let w = onto.whole y q in
      subst (λ (z : Y). after z (f x) ≡ false) w.2 (onto.order w.0 x w.1 first.0 ∙ first.1 w.0 w.1)),
  first_mapped f before after (λ y. P y × (y ≡ x → ⊥)) (λ y. Q y × (y ≡ f x → ⊥)) left count xs first.2,
)
  where
    left : IsOnto f before after (λ y. P y × (y ≡ x → ⊥)) (λ y. Q y × (y ≡ f x → ⊥))
    left = record {
      sound = λ a p. (onto.sound a p.0, λ e. p.1 (onto.apart a x p.0 first.0 e));
      whole = λ y q. (let w = onto.whole y q.0 in (w.0, (w.1, λ e. q.1 (sym w.2 ∙ ap f e)), w.2));
      order = λ a b p q. onto.order a b p.0 q.0;
      apart = λ a b p q e. onto.apart a b p.0 q.0 e;
    }
