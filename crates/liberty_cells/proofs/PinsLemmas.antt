use Rattle.std.proofs.Common.{◌≡◌, ℕ, List, [], ◌∷◌, ◌++◌, refl}
use Rattle.timing_defs.specs.declared.liberty_tree.Lexeme.{Lexeme}
use Rattle.liberty_cells.specs.Cells.{with_name, names_on}

-- the names of two lists are those of the second, begun with those of the first
pub names_append : (names : List (List ℕ)) (xs ys : List Lexeme) → names_on names (xs ++ ys) ≡ names_on (names_on names xs) ys
unfolding names_on
names_append names [] ys = refl
names_append names (x ∷ xs) ys = names_append (with_name names x.text) xs ys
