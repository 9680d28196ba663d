-- The names of cycles of numbers.

use Rattle.std.specs.Prelude.{ℕ, List, []}
use Rattle.std.specs.Option.{unwrap_or}
use Rattle.netlist_store.specs.Numbering.{Stored, name_at}

-- the name that a pin's number stands for
abbrev pub number_name : Stored → ℕ → List ℕ
number_name s n = unwrap_or (name_at s.pins n) []
