-- What the net of a pin sees of it tells the pin's name, whether it drives, and its capacitance.

use Rattle.std.specs.Prelude.{ℕ, ℤ, pos, Bool, List, ◌∷◌, ◌++◌, Option, Some, None, find}
use Rattle.std.specs.Option.{option_map_or}
use Rattle.std.specs.Str.{bytes_eq}
use Rattle.timing_defs.specs.declared.kinds.Split.{Split}
use Rattle.timing_defs.specs.declared.kinds.Dir.{Dir}
use Rattle.timing_defs.specs.declared.kinds.Dir.TheVariants.{Input, Output}
use Rattle.timing_defs.specs.declared.library.Library.{Library}
use Rattle.timing_defs.specs.declared.constraints.PortLoad.{PortLoad}
use Rattle.timing_defs.specs.declared.parasitics.RcNode.{RcNode}
use Rattle.timing_defs.specs.declared.parasitics.RcNode.TheVariants.{Pin as rc_pin}
use Rattle.timing_defs.specs.declared.parasitics.RcCap.{RcCap}
use Rattle.timing_defs.specs.Netlist.{same_dir, cell_named, cell_pins}
use Rattle.timing_defs.specs.Wires.{port_load}
use Rattle.netlist_store.proofs.SeenPins.{Seen}

-- the name of a pin, by its instance's name and cell
abbrev pub name_by : Option (List ℕ × List ℕ) → List ℕ → List ℕ
name_by None own = own
name_by (Some inst) own = inst.0 ++ 58 ∷ own

abbrev pub seen_name : Seen → List ℕ
seen_name s = name_by s.owner s.own

abbrev pub seen_root : Seen → RcNode
seen_root s = rc_pin (seen_name s)

-- whether a pin drives its net
abbrev pub drives_by : Option (List ℕ × List ℕ) → Dir → Bool
drives_by None dir = same_dir dir Input
drives_by (Some inst) dir = same_dir dir Output

abbrev pub drives_seen : Seen → Bool
drives_seen s = drives_by s.owner s.dir

-- the capacitance of a pin, in the library of the split
abbrev pub cap_by : Library → List PortLoad → Split → Option (List ℕ × List ℕ) → List ℕ → ℤ
cap_by library loads split None own = port_load loads split own
cap_by library loads split (Some inst) own =
    option_map_or (λ p. p.cap.0) (find (λ p. bytes_eq p.name own) (cell_pins (cell_named library.cells inst.1))) (pos 0)

abbrev pub cap_seen : Library → List PortLoad → Split → Seen → ℤ
cap_seen library loads split s = cap_by library loads split s.owner s.own

abbrev pub charge_seen : Library → List PortLoad → Split → Seen → RcCap
charge_seen library loads split s = record { node = rc_pin (seen_name s); cap = record { 0 = cap_seen library loads split s } }
