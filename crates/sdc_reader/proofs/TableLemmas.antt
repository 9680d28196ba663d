-- A map in the order of insertion is a table of values at ports.
use Rattle.std.proofs.Common.{◌≡◌, List, [], ◌∷◌, if◌then◌else◌, refl, ap}
use Rattle.indexmap.specs.IndexMap.{insert_entry}
use Rattle.sdc_reader.specs.declared.tables.Corner.{Corner}
use Rattle.sdc_reader.specs.declared.tables.Amount.{Amount}
use Rattle.sdc_reader.specs.Tables.{same_corner, written}

pub inserted : (corner : Corner) (amount : Amount) (entries : List (Corner × Amount))
    → insert_entry same_corner entries corner amount ≡ written corner amount entries
inserted corner amount [] = refl
inserted corner amount (entry ∷ entries) =
    ap (λ rest. if same_corner corner entry.0 then (entry.0, amount) ∷ entries else entry ∷ rest) (inserted corner amount entries)
