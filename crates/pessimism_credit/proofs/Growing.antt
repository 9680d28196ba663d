-- A clock tree with one row more, for callers that make one row by row.
use Rattle.std.proofs.Common.{◌≡◌, ℕ, suc, ◌+◌, List, [], ◌∷◌, ◌++◌, length, subst, arith}
use Rattle.sta_units.specs.Numbers.{Within}
use Rattle.pessimism_credit.specs.declared.rows.TreeRow.{TreeRow}
use Rattle.pessimism_credit.specs.Credit.{IsBefore, IsTreeFrom, IsTree}

grown : (k : ℕ) (rows : List TreeRow) (row : TreeRow) → IsTreeFrom k rows → IsBefore row.parent (k + length rows)
    → Within row.early.0 → Within row.late.0 → IsTreeFrom k (rows ++ row ∷ [])
grown k [] row t before early late =
    let here : k + 0 ≡ k = omega arith in
    (subst (λ (n : ℕ). IsBefore row.parent n) here before, early, late, tt)
grown k (first ∷ rows) row t before early late =
    let here : k + suc (length rows) ≡ suc k + length rows = omega arith in
    (t.0, t.1, t.2, grown (suc k) rows row t.3 (subst (λ (n : ℕ). IsBefore row.parent n) here before) early late)

pub tree_push : (rows : List TreeRow) (row : TreeRow) → IsTree rows → IsBefore row.parent (length rows)
    → Within row.early.0 → Within row.late.0 → IsTree (rows ++ row ∷ [])
tree_push rows row t before early late =
    let here : length rows ≡ 0 + length rows = omega arith in
    grown 0 rows row t (subst (λ (n : ℕ). IsBefore row.parent n) here before) early late
