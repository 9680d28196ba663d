-- Tables of the ends, one after the other.

use Rattle.std.proofs.Common.{◌≡◌, ℕ, zero, suc, ◌+◌, ◌<◌, ◌≤◌, inl, inr, List, [], ◌∷◌, ◌++◌, length, slice_index_or, Option, Some, refl, sym, ap, subst, ◌∙◌, arith}
use Rattle.std.specs.Prelude.{slice_get}
use Rattle.std.proofs.lemmas.Bool.{cases_eq}
use Rattle.std.proofs.lemmas.Option.{same_Some}
use Rattle.timing_defs.specs.Firsts.{AreFirst}
use Rattle.worst_walks.specs.declared.cones.WalkEnd.{WalkEnd}
use Rattle.worst_walks.specs.declared.cones.Cone.{Cone}
use Rattle.worst_walks.specs.declared.cones.Walk.{Walk}
use Rattle.worst_walks.specs.declared.tables.Entry.{Entry}
use Rattle.worst_walks.specs.Walks.{comes_before, IsWalk}
use Rattle.worst_walks.specs.Tables.{IsTable}
use Rattle.ranked_walks.specs.declared.branches.Branch.{Branch}
use Rattle.ranked_walks.specs.declared.branches.Tables.{Tables}
use Rattle.ranked_walks.specs.Outs.{AreEndTables}
use Rattle.ranked_walks.specs.Searching.{Nothing, IsSearched}
use Rattle.ranked_walks.proofs.Firsts.{first_all}

one_longer : {X : Type 0} (xs : List X) (x : X) → length (xs ++ x ∷ []) ≡ length xs + 1
one_longer [] x = refl
one_longer (y ∷ xs) x = let rest = one_longer xs x in omega arith

last_there : {X : Type 0} (xs : List X) (x d : X) → slice_index_or (xs ++ x ∷ []) (length xs) d ≡ x
last_there [] x d = refl
last_there (y ∷ xs) x d = last_there xs x d

others_there : {X : Type 0} (xs : List X) (x d : X) (i : ℕ) → i < length xs → slice_index_or (xs ++ x ∷ []) i d ≡ slice_index_or xs i d
others_there [] x d i low = absurd (omega arith)
others_there (y ∷ xs) x d zero low = refl
others_there (y ∷ xs) x d (suc i) low = others_there xs x d i (omega arith)

pub ends_more : (rank : ℕ → ℕ) (cone : Cone) (k : ℕ) (tables after : List (List (Option Entry))) (end : WalkEnd) (rows : List (Option Entry)) → AreEndTables rank cone k tables
    → slice_get cone.ends k ≡ Some end → IsTable rank cone end.node rows → after ≡ tables ++ rows ∷ [] → AreEndTables rank cone (k + 1) after
ends_more rank cone k tables after end rows h there t e =
    let long = h.long in record {
      long = ap length e ∙ one_longer tables rows ∙ ap (λ n. n + 1) long;
      rows = λ place other low at. elim (cases_eq place k) [
        | inl same ↦
            let is : end ≡ other = same_Some end other (sym there ∙ ap (slice_get cone.ends) (sym same) ∙ at) in
            let here : slice_index_or after place [] ≡ rows = ap (λ xs. slice_index_or xs place []) e ∙ subst (λ j. slice_index_or (tables ++ rows ∷ []) j [] ≡ rows) (long ∙ sym same) (last_there tables rows []) in
            subst (IsTable rank cone other.node) (sym here) (subst (λ (x : WalkEnd). IsTable rank cone x.node rows) is t)
        | inr off ↦
            let here : slice_index_or after place [] ≡ slice_index_or tables place [] = ap (λ xs. slice_index_or xs place []) e ∙ others_there tables rows [] place (omega arith) in
            subst (IsTable rank cone other.node) (sym here) (h.rows place other (omega arith) at)
      ];
    }

nothing_in : (bs : List Branch) → length bs ≡ 0 → bs ≡ []
nothing_in [] e = refl
nothing_in (b ∷ bs) e = absurd (omega arith)

-- the walks given, when no more are asked for or none is left
pub enough : (rank : ℕ → ℕ) (before : ℕ → List ℕ) (cone : Cone) (tables : Tables) (given : List Walk) (bs : List Branch) (count : ℕ) → IsSearched rank before cone tables given bs Nothing → length given ≡ count
    → AreFirst (comes_before rank before) count (IsWalk cone) given
enough rank before cone tables given bs count s e = subst (λ n. AreFirst (comes_before rank before) n (IsWalk cone) given) e s.first

pub no_more : (rank : ℕ → ℕ) (before : ℕ → List ℕ) (cone : Cone) (tables : Tables) (given : List Walk) (bs : List Branch) (count : ℕ) → IsSearched rank before cone tables given bs Nothing → length given ≤ count → length bs ≡ 0
    → AreFirst (comes_before rank before) count (IsWalk cone) given
no_more rank before cone tables given bs count s low none =
    first_all (comes_before rank before) (IsWalk cone) given count s.first low
    (λ w is left. elim ((subst (λ xs. IsSearched rank before cone tables given xs Nothing) (nothing_in bs none) s).covers w is left) [ inl one ↦ one | inr nothing ↦ nothing ])
