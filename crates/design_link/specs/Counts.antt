-- The names that numbers stand for, and how many of them there are.

use Rattle.std.specs.Prelude.{ℕ, nat_lt, Bool, true, false, if◌then◌else◌, List, [], ◌∷◌, ◌++◌, length, Option, Some, None}
use Rattle.std.specs.List.{filter_map, range_with_len}
use Rattle.timing_defs.specs.declared.design.Design.{Design}
use Rattle.timing_defs.specs.declared.faults.Large.{Large}
use Rattle.timing_defs.specs.declared.faults.Large.TheVariants.{Pins, Insts, Nets}
use Rattle.timing_defs.specs.Netlist.{pins}
use Rattle.timing_defs.specs.NetChecks.{most}
use Rattle.netlist_store.specs.Numbering.{name_at}

-- the names of the numbers below a bound, in the order of the numbers
abbrev pub names_below : List (Option (List ℕ)) → ℕ → List (List ℕ)
names_below names n = filter_map (name_at names) (range_with_len 0 n)

-- a list with one more name, where it is to be added and is there
abbrev pub with_name : Bool → Option (List ℕ) → List (List ℕ) → List (List ℕ)
with_name false name names = names
with_name true None names = names
with_name true (Some name) names = names ++ name ∷ []

-- more pins, instances or nets than are allowed
abbrev pub large_count : Design → Option Large
large_count d =
    (if nat_lt most (length (pins d)) then Some Pins else
    (if nat_lt most (length d.insts) then Some Insts else
    (if nat_lt most (length d.nets) then Some Nets else None)))
