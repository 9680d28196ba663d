-- Elements of lists by their places, and what holds of each session after one has moved.
use Rattle.std.proofs.Common.{◌≡◌, ◌≢◌, ℕ, zero, suc, Bool, true, List, [], ◌∷◌, ◌++◌, length, Some, slice_set, refl, sym, ap, subst, ◌∙◌}
use mathlib.Core.Logic.{dite}
use native.Mathlib.Decide.{ℕ_discrete}
use Rattle.std.specs.List.{slice_get, list_all}
use Rattle.std.proofs.lemmas.Bool.{and_parts}
use Rattle.std.proofs.lemmas.Option.{none-some, same_Some}
use Rattle.timing_defs.specs.declared.scripts.Script.{Script}
use Rattle.session_core.specs.declared.rows.CoreSession.{CoreSession}

module _ {X : Type 0} where
  pub get_set_same : (xs : List X) (i : ℕ) (x y : X) → slice_get xs i ≡ Some x → slice_get (slice_set xs i y) i ≡ Some y
  get_set_same [] i x y e = absurd (none-some x e)
  get_set_same (z ∷ zs) zero x y e = refl
  get_set_same (z ∷ zs) (suc i) x y e = get_set_same zs i x y e

  pub get_set_other : (xs : List X) (i j : ℕ) (y : X) → j ≢ i → slice_get (slice_set xs i y) j ≡ slice_get xs j
  get_set_other [] i j y ne = refl
  get_set_other (z ∷ zs) zero zero y ne = absurd (ne refl)
  get_set_other (z ∷ zs) zero (suc j) y ne = refl
  get_set_other (z ∷ zs) (suc i) zero y ne = refl
  get_set_other (z ∷ zs) (suc i) (suc j) y ne = get_set_other zs i j y (λ e. ne (ap suc e))

  pub get_end : (xs : List X) (x : X) → slice_get (xs ++ x ∷ []) (length xs) ≡ Some x
  get_end [] x = refl
  get_end (y ∷ ys) x = get_end ys x

  pub all_at : (p : X → Bool) (xs : List X) (i : ℕ) (x : X) → list_all p xs ≡ true → slice_get xs i ≡ Some x → p x ≡ true
  all_at p [] i x h e = absurd (none-some x e)
  all_at p (y ∷ ys) zero x h e = ap p (sym (same_Some y x e)) ∙ (and_parts (p y) (list_all p ys) h).0
  all_at p (y ∷ ys) (suc i) x h e = all_at p ys i x (and_parts (p y) (list_all p ys) h).1 e

-- a fact of each session with its script, after one was set
pub each_set : (K : ℕ → Script → CoreSession → Type 0) (scripts : List Script) (sessions : List CoreSession) (place : ℕ) (script : Script) (t u : CoreSession)
    → slice_get scripts place ≡ Some script → slice_get sessions place ≡ Some t → K place script u
    → ((p : ℕ) (c : Script) (v : CoreSession) → p ≢ place → slice_get scripts p ≡ Some c → slice_get sessions p ≡ Some v → K p c v)
    → (p : ℕ) (c : Script) (v : CoreSession) → slice_get scripts p ≡ Some c → slice_get (slice_set sessions place u) p ≡ Some v → K p c v
each_set K scripts sessions place script t u here there mine others p c v at_c at_v = dite (ℕ_discrete p place)
    (λ same.
    let script_is : script ≡ c = same_Some script c (sym here ∙ ap (slice_get scripts) (sym same) ∙ at_c) in
    let session_is : u ≡ v = same_Some u v (sym (get_set_same sessions place t u there) ∙ ap (slice_get (slice_set sessions place u)) (sym same) ∙ at_v) in
    subst (λ (x : ℕ × Script × CoreSession). K x.0 x.1 x.2) (λ i. (sym same i, script_is i, session_is i)) mine)
    (λ ne. others p c v ne at_c (sym (get_set_other sessions place p u ne) ∙ at_v))
