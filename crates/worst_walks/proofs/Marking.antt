-- Marking the first nodes.

use Rattle.std.proofs.Common.{◌≡◌, ℕ, ◌+◌, ◌<◌, Bool, true, false, ◌||◌, ◌==◌, inl, inr, List, length, take, get_or, refl, sym, ap, ◌∙◌}
use Rattle.std.specs.Prelude.{slice_set}
use Rattle.std.specs.List.{list_any}
use Rattle.std.proofs.lemmas.Bool.{cases_eq, or_right, eq-eqb, ne_eqb}
use Rattle.std.proofs.lemmas.List.{get_or-set_same, get_or-set_other}
use Rattle.std.proofs.lemmas.List.Folds.{list_any_more}
use Rattle.worst_walks.specs.declared.cones.Launch.{Launch}
use Rattle.worst_walks.specs.declared.cones.WalkEnd.{WalkEnd}
use Rattle.worst_walks.specs.Walks.{is_launched}
use Rattle.worst_walks.specs.Tables.{is_marked}

-- the marked nodes are those of the launches of some ends
pub record AreMarkedBy (ends : List WalkEnd) (count : ℕ) (marks : List Bool) : Type 0 where
  pub long : length marks ≡ count
  pub each : (n : ℕ) → is_marked marks n ≡ list_any (λ end. is_launched end.launches n) ends

or-false : (a : Bool) → (a || false) ≡ a
or-false true = refl
or-false false = refl

or-assoc : (a b c : Bool) → ((a || b) || c) ≡ (a || (b || c))
or-assoc true b c = refl
or-assoc false b c = refl

-- one mark more
pub marked_at : (marks : List Bool) (m n : ℕ) → m < length marks → is_marked (slice_set marks m true) n ≡ (is_marked marks n || (m == n))
marked_at marks m n low = elim (cases_eq n m) [
  | inl same ↦ let at : (m == n) ≡ true = eq-eqb m n (sym same) in
      ap (is_marked (slice_set marks m true)) same ∙ get_or-set_same marks m true false low ∙ sym (or_right (is_marked marks n) (m == n) at)
  | inr other ↦ let off : (m == n) ≡ false = ne_eqb m n (λ e. other (sym e)) in
      get_or-set_other marks m n true false other ∙ sym (ap (λ b. is_marked marks n || b) off ∙ or-false (is_marked marks n))
]

pub marked_more : (marks first : List Bool) (launches : List Launch) (i : ℕ) (d : Launch) → i < length launches
    → (get_or launches i d).node < length marks → ((n : ℕ) → is_marked marks n ≡ (is_marked first n || is_launched (take i launches) n))
    → (n : ℕ) → is_marked (slice_set marks ((get_or launches i d).node) true) n ≡ (is_marked first n || is_launched (take (i + 1) launches) n)
marked_more marks first launches i d low there h n =
    marked_at marks ((get_or launches i d).node) n there
    ∙ ap (λ b. b || ((get_or launches i d).node == n)) (h n)
    ∙ or-assoc (is_marked first n) (is_launched (take i launches) n) ((get_or launches i d).node == n)
    ∙ ap (λ b. is_marked first n || b) (sym (list_any_more (λ (launch : Launch). launch.node == n) launches i d low))
