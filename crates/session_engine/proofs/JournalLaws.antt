-- Designs after a journal that grows.

use Rattle.std.proofs.Common.{◌≡◌, suc, List, [], ◌∷◌, ◌++◌, length, true, Some, refl, sym, ap, subst}
use Rattle.std.specs.Prelude.{IsSomeAnd, Bool}
use Rattle.std.specs.List.{slice_get, list_all}
use Rattle.std.proofs.lemmas.Bool.{and_parts}
use Rattle.timing_defs.specs.declared.design.Design.{Design}
use Rattle.timing_defs.specs.declared.edits.Entry.{Entry}
use Rattle.timing_rules.specs.Checks.{Accepts}
use Rattle.timing_rules.specs.Sessions.{DesignAfter}
use Rattle.timing_rules.proofs.LongerJournals.{after_longer}

module _ {X : Type 0} where
  get_end : (xs : List X) (x : X) → slice_get (xs ++ x ∷ []) (length xs) ≡ Some x
  get_end [] x = refl
  get_end (y ∷ ys) x = get_end ys x

  pub length_end : (xs : List X) (x : X) → length (xs ++ x ∷ []) ≡ suc (length xs)
  length_end [] x = refl
  length_end (y ∷ ys) x = ap suc (length_end ys x)

  pub all_end : (p : X → Bool) (xs : List X) (x : X) → list_all p xs ≡ true → p x ≡ true → list_all p (xs ++ x ∷ []) ≡ true
  all_end p [] x h e = rw e refl
  all_end p (y ∷ ys) x h e = rw ((and_parts (p y) (list_all p ys) h).0) (all_end p ys x ((and_parts (p y) (list_all p ys) h).1) e)

-- one more entry that is accepted
pub after_entry : (initial : Design) (journal : List Entry) (entry : Entry) (before d : Design)
    → DesignAfter initial journal (length journal) before → Accepts before entry.eco d
    → DesignAfter initial (journal ++ entry ∷ []) (length (journal ++ entry ∷ [])) d
after_entry initial journal entry before d h accepts =
    subst (λ n. DesignAfter initial (journal ++ entry ∷ []) n d) (sym (length_end journal entry)) (
      before,
      after_longer journal (entry ∷ []) initial (length journal) before h,
      subst (λ o. IsSomeAnd o (λ e. Accepts before e.eco d)) (sym (get_end journal entry)) accepts,
    )
