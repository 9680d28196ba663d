use Rattle.std.proofs.Common.{◌≡◌, ℕ, zero, suc, List, [], ◌∷◌, refl}
use Rattle.std.specs.Prelude.{option_map, slice_get}
use denote.Ref.{Bor}
use Rattle.timing_defs.specs.declared.liberty_tree.Tree.{Tree}
use Rattle.liberty_cells.specs.Statements.{told}

-- the group at a place of a list of references
pub get_told : (cells : List (Bor Tree)) (n : ℕ) → slice_get (told cells) n ≡ option_map (λ (r : Bor Tree). r.now) (slice_get cells n)
get_told [] n = refl
get_told (t ∷ cells) zero = refl
get_told (t ∷ cells) (suc n) = get_told cells n
