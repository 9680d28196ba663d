-- The slack of a pin is one.

use Rattle.std.proofs.Common.{◌≡◌, ℕ, ℤ, true, List, [], Option, None, Some, sym, ap, subst, ◌∙◌, arith}
use Rattle.std.specs.Prelude.{◌≤ℤ◌, Contains}
use Rattle.std.proofs.lemmas.Int.{ints}
use Rattle.timing_defs.specs.declared.kinds.Kind.{Kind}
use Rattle.timing_defs.specs.declared.design.Design.{Design}
use Rattle.timing_rules.specs.Tests.{Test}
use Rattle.timing_rules.specs.Paths.{Named, ends_at, path_slacks, IsSlack}

none_within : {X : Type 0} (xs : List X) (x : X) → xs ≡ [] → Contains xs x → ⊥
none_within xs x e c = let low = c.1 in let z : [] ≡ [] = ap (λ ys. ys) (sym e ∙ e) in gone (subst (λ ys. Contains ys x) e c)
  where
    gone : Contains [] x → ⊥
    gone k = let low = k.1 in omega (arith, low)

abbrev HasSlack : Design → Kind → List ℕ → ℤ → Type 0
HasSlack d kind pin s = (path : List Named) × (test : Test) × (ends_at pin path ≡ true) × Contains (path_slacks d kind path) (test, s)

same_least : (a b : ℤ) → a ≤ℤ b → b ≤ℤ a → a ≡ b
same_least a b h k = omega (arith, ints)

pub slack_one : (d : Design) (kind : Kind) (pin : List ℕ) (a b : Option ℤ) → IsSlack d kind pin a → IsSlack d kind pin b → a ≡ b
slack_one d kind pin None None p q = ap (λ (x : Option ℤ). x) (λ i. None)
slack_one d kind pin None (Some t) p q =
    absurd (none_within (path_slacks d kind q.0.0) (q.0.1, t) (p q.0.0 q.0.2) q.0.3)
slack_one d kind pin (Some s) None p q =
    absurd (none_within (path_slacks d kind p.0.0) (p.0.1, s) (q p.0.0 p.0.2) p.0.3)
slack_one d kind pin (Some s) (Some t) p q =
    ap Some (same_least s t (p.1 q.0.0 q.0.1 t q.0.2 q.0.3) (q.1 p.0.0 p.0.1 s p.0.2 p.0.3))
