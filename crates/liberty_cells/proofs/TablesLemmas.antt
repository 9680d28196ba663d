use Rattle.std.proofs.Common.{◌≡◌, ℕ, zero, suc, ◌+◌, ◌-◌, ◌<◌, ◌≤◌, List, [], ◌∷◌, ◌++◌, get_or, refl, ap, sym, append_assoc, append-nil, arith, ◌∙◌}
use Rattle.std.specs.Prelude.{ℤ, pos, slice_get}
use Rattle.std.specs.Option.{unwrap_or}
use Rattle.liberty_cells.specs.Tables.{column, columns}

-- the columns that are left begin with the next one
next_column : (at n : ℕ) (rows : List (List ℤ)) → at < n → columns at (n - at) rows ≡ column at rows ++ columns (at + 1) (n - (at + 1)) rows
unfolding columns
next_column at n rows h =
    let e : n - at ≡ suc (n - (at + 1)) = omega arith in
    rw e refl

-- with the next column there is one less
pub add_next : (values : List ℤ) (at n : ℕ) (rows : List (List ℤ)) → at < n → (values ++ column at rows) ++ columns (at + 1) (n - (at + 1)) rows ≡ values ++ columns at (n - at) rows
add_next values at n rows h =
    append_assoc values (column at rows) (columns (at + 1) (n - (at + 1)) rows) ∙ ap (λ x. values ++ x) (sym (next_column at n rows h))

-- behind the last column there is none
pub add_none : (values : List ℤ) (at n : ℕ) (rows : List (List ℤ)) → n ≤ at → values ++ columns at (n - at) rows ≡ values
unfolding columns
add_none values at n rows h =
    let e : n - at ≡ zero = omega arith in
    rw e (append-nil values)

-- an entry that is not there is 0
pub entry_or_zero : (row : List ℤ) (at : ℕ) → get_or row at (pos 0) ≡ unwrap_or (slice_get row at) (pos 0)
entry_or_zero [] at = refl
entry_or_zero (x ∷ row) zero = refl
entry_or_zero (x ∷ row) (suc at) = entry_or_zero row at
