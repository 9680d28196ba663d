-- Sums and nodes in range.

use Rattle.std.proofs.Common.{◌≡◌, ℕ, zero, suc, ◌<◌, ◌≤◌, List, [], ◌∷◌, length, Some, refl, sym, subst, arith}
use Rattle.std.specs.Prelude.{slice_get, All}
use Rattle.worst_walks.specs.declared.cones.Cone.{Cone}
use Rattle.worst_walks.specs.Walks.{most_nodes, count_of, IsCone}
use Rattle.worst_walks.specs.Tables.{row_in, IsBounded}
use Rattle.worst_walks.proofs.Offers.{bounded_there}
use Rattle.ranked_walks.specs.declared.branches.Tables.{Tables}
use Rattle.ranked_walks.specs.Outs.{outs_in, rows_at, AreTables, IsOut}
use Rattle.ranked_walks.proofs.OutLaws.{outs_fine}

pub at_place : {X : Type 0} (xs : List X) (i : ℕ) → i < length xs → (x : X) × (slice_get xs i ≡ Some x)
at_place [] i low = absurd (omega arith)
at_place (x ∷ xs) zero low = (x, refl)
at_place (x ∷ xs) (suc i) low = at_place xs i (omega arith)

pub rows_bounded : (rank : ℕ → ℕ) (cone : Cone) (tables : Tables) (place : ℕ) (n : ℕ) → IsCone cone → AreTables rank cone tables → place < length cone.ends
    → IsBounded most_nodes (row_in (rows_at tables place) n)
rows_bounded rank cone tables place n good t low =
    let end = at_place cone.ends place low in
    bounded_there rank cone end.0.node (rows_at tables place) n good (t.rows place end.0 end.1)

pub outs_known : (rank : ℕ → ℕ) (cone : Cone) (tables : Tables) (count n : ℕ) → IsCone cone → AreTables rank cone tables → n < count_of cone → count_of cone ≤ count
    → All (IsOut count) (outs_in tables.outs n)
outs_known rank cone tables count n good t low there =
    subst (All (IsOut count)) (sym (t.outs.each n low)) (outs_fine cone count n (count_of cone) good (omega arith) there)
