-- The best of a claim that grows, over any order.

use Rattle.std.proofs.Common.{◌≡◌, Bool, true, false, if◌then◌else◌, ◌⊎◌, inl, inr, Option, Some, None, refl, subst}
use Rattle.std.specs.Cmp.{IsStrictWeakOrder}
use Rattle.std.proofs.lemmas.Bool.{cases_Bool}
use Rattle.std.proofs.lemmas.Option.{none-some, same_Some}
use Rattle.worst_walks.specs.Best.{BestOf, better}

pub alone : {X : Type 0} (before : X → X → Bool) → IsStrictWeakOrder before → (x : X) → before x x ≡ false
alone before order x = elim (cases_Bool (before x x)) [ inl here ↦ order.one_way x x here | inr off ↦ off ]

-- claims that hold of the same things have the same best
pub best_alike : {X : Type 0} (before : X → X → Bool) (P Q : X → Type 0) (o : Option X)
    → ((x : X) → P x → Q x) → ((x : X) → Q x → P x) → BestOf before P o → BestOf before Q o
best_alike before P Q None to from best = λ x q. best x (from x q)
best_alike before P Q (Some b) to from best = (to b best.0, λ x q. best.1 x (from x q))

-- a claim of at most one thing
pub best_one : {X : Type 0} (before : X → X → Bool) → IsStrictWeakOrder before → (o : Option X) → BestOf before (λ x. o ≡ Some x) o
best_one before order None = λ x e. none-some x e
best_one before order (Some b) = (refl, λ x e. subst (λ y. before y b ≡ false) (same_Some b x e) (alone before order b))

chosen : {X : Type 0} (before : X → X → Bool) (P Q : X → Type 0) (x y : X) (told : Bool) → IsStrictWeakOrder before → before y x ≡ told
    → BestOf before P (Some x) → BestOf before Q (Some y) → BestOf before (λ z. P z ⊎ Q z) (if told then Some y else Some x)
chosen before P Q x y true order e b c =
    (inr c.0, λ z h. elim h [ inl p ↦ order.chain z x y (b.1 z p) (order.one_way y x e) | inr q ↦ c.1 z q ])
chosen before P Q x y false order e b c =
    (inl b.0, λ z h. elim h [ inl p ↦ b.1 z p | inr q ↦ order.chain z y x (c.1 z q) e ])

-- the better of two bests is the best of both claims
pub best_both : {X : Type 0} (before : X → X → Bool) (P Q : X → Type 0) (o p : Option X) → IsStrictWeakOrder before
    → BestOf before P o → BestOf before Q p → BestOf before (λ x. P x ⊎ Q x) (better before o p)
best_both before P Q None None order b c = λ x h. elim h [ inl f ↦ b x f | inr g ↦ c x g ]
best_both before P Q None (Some y) order b c = (inr c.0, λ x h. elim h [ inl f ↦ absurd (b x f) | inr g ↦ c.1 x g ])
best_both before P Q (Some x) None order b c = (inl b.0, λ z h. elim h [ inl f ↦ b.1 z f | inr g ↦ absurd (c z g) ])
best_both before P Q (Some x) (Some y) order b c = chosen before P Q x y (before y x) order refl b c
