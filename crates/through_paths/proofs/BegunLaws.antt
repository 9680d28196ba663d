-- How many pins are passed where walks begin, launch by launch.

use Rattle.std.proofs.Common.{◌≡◌, ℕ, ◌+◌, ◌<◌, ◌==◌, Bool, true, false, inl, inr, ◌||◌, if◌then◌else◌, List, [], ◌∷◌, ◌++◌, length, take, get_or, Option, refl, sym, ap, ◌∙◌}
use Rattle.std.specs.Prelude.{slice_index, slice_set}
use Rattle.std.specs.List.{list_any}
use Rattle.std.proofs.lemmas.Bool.{cases_eq, eq-eqb, ne_eqb}
use Rattle.std.proofs.lemmas.List.{get_or-set_same, get_or-set_other}
use Rattle.std.proofs.lemmas.List.Folds.{list_any_more}
use Rattle.worst_walks.specs.declared.cones.Launch.{Launch}
use Rattle.worst_walks.specs.declared.cones.WalkEnd.{WalkEnd}
use Rattle.worst_walks.specs.Walks.{is_launched}
use Rattle.through_paths.specs.Passing.{next_pass, pass_all, begun_at}

-- nodes behind others
pub pass_append : (nodes : List ℕ) (wanted : List (Option ℕ)) (s : ℕ) (ns ms : List ℕ) → pass_all nodes wanted s (ns ++ ms) ≡ pass_all nodes wanted (pass_all nodes wanted s ns) ms
pass_append nodes wanted s [] ms = refl
pass_append nodes wanted s (n ∷ ns) ms = pass_append nodes wanted (next_pass nodes wanted s n) ns ms

-- behind the nodes before a place, and behind the place
pub begun_by : (before : ℕ → List ℕ) (nodes : List ℕ) (wanted : List (Option ℕ)) (n passed after : ℕ) (list : List ℕ) → list ≡ before n → passed ≡ pass_all nodes wanted 0 list
    → after ≡ next_pass nodes wanted passed n → after ≡ begun_at before nodes wanted n
begun_by before nodes wanted n passed after list is e f =
    f ∙ ap (λ k. next_pass nodes wanted k n) (e ∙ ap (pass_all nodes wanted 0) is) ∙ sym (pass_append nodes wanted 0 (before n) (n ∷ []))

-- what is noted at a node: the launches' values, and else the old one
abbrev pub noted : (ℕ → ℕ) → List Launch → List ℕ → ℕ → ℕ
noted value launches first n = (if is_launched launches n then value n else slice_index first n)

chosen_or : (a b : Bool) (x y : ℕ) → (if b then x else (if a then x else y)) ≡ (if a || b then x else y)
chosen_or true true x y = refl
chosen_or true false x y = refl
chosen_or false true x y = refl
chosen_or false false x y = refl

noted_at : (begun : List ℕ) (m n v : ℕ) (value : ℕ → ℕ) → m < length begun → v ≡ value m → slice_index (slice_set begun m v) n ≡ (if m == n then value n else slice_index begun n)
noted_at begun m n v value low is = elim (cases_eq n m) [
  | inl same ↦ let at : (m == n) ≡ true = eq-eqb m n (sym same) in
      ap (slice_index (slice_set begun m v)) same ∙ get_or-set_same begun m v 0 low ∙ is ∙ ap value (sym same) ∙ sym (ap (λ (b : Bool). if b then value n else slice_index begun n) at)
  | inr other ↦ let off : (m == n) ≡ false = ne_eqb m n (λ e. other (sym e)) in
      get_or-set_other begun m n v 0 other ∙ sym (ap (λ (b : Bool). if b then value n else slice_index begun n) off)
]

-- one launch more
pub noted_more : (value : ℕ → ℕ) (begun first : List ℕ) (launches : List Launch) (i : ℕ) (d : Launch) (v : ℕ) → i < length launches
    → (get_or launches i d).node < length begun → v ≡ value (get_or launches i d).node → ((n : ℕ) → slice_index begun n ≡ noted value (take i launches) first n)
    → (n : ℕ) → slice_index (slice_set begun ((get_or launches i d).node) v) n ≡ noted value (take (i + 1) launches) first n
noted_more value begun first launches i d v low there is h n =
    noted_at begun (get_or launches i d).node n v value there is
    ∙ ap (λ k. if (get_or launches i d).node == n then value n else k) (h n)
    ∙ chosen_or (is_launched (take i launches) n) ((get_or launches i d).node == n) (value n) (slice_index first n)
    ∙ ap (λ (b : Bool). if b then value n else slice_index first n) (sym (list_any_more (λ (launch : Launch). launch.node == n) launches i d low))

-- what is noted of some ends
pub record AreNoted (value : ℕ → ℕ) (ends : List WalkEnd) (count : ℕ) (begun : List ℕ) : Type 0 where
  pub long : length begun ≡ count
  pub each : (n : ℕ) → list_any (λ end. is_launched end.launches n) ends ≡ true → slice_index begun n ≡ value n

-- one end more
pub ends_more : (value : ℕ → ℕ) (ends : List WalkEnd) (count : ℕ) (begun more : List ℕ) (i : ℕ) (d : WalkEnd) → i < length ends → AreNoted value (take i ends) count begun
    → length more ≡ length begun → ((n : ℕ) → slice_index more n ≡ noted value (get_or ends i d).launches begun n) → AreNoted value (take (i + 1) ends) count more
ends_more value ends count begun more i d low had long h = record {
  long = long ∙ had.long;
  each = λ n e. (h n ∙ by n (list_any (λ (end : WalkEnd). is_launched end.launches n) (take i ends)) (is_launched (get_or ends i d).launches n)
      (had.each n) (sym (list_any_more (λ (end : WalkEnd). is_launched end.launches n) ends i d low) ∙ e));
}
  where
    by : (n : ℕ) (a b : Bool) → (a ≡ true → slice_index begun n ≡ value n) → (a || b) ≡ true → (if b then value n else slice_index begun n) ≡ value n
    by n a true f e = refl
    by n true false f e = f refl
    by n false false f e = absurd (cc)
