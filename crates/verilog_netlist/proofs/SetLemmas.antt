-- Names that are added to a set.
use Rattle.std.proofs.Common.{◌≡◌, ℕ, List, [], ◌∷◌, length, refl, arith}
use Rattle.verilog_netlist.specs.Faults.{with_names}

-- no name changes nothing
pub with_none : (names more : List (List ℕ)) → length more ≡ 0 → with_names names more ≡ names
unfolding with_names
with_none names [] h = refl
with_none names (name ∷ more) h = absurd (omega arith)
