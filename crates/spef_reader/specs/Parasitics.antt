-- The parasitics that a text of SPEF writes (IEEE 1481, "Detailed net"). In a text without faults
-- all names, nodes and values are known.
use Rattle.std.specs.Prelude.{ℕ, List, [], ◌∷◌, ◌++◌, if◌then◌else◌, Option, Some, None, nat_le, pos}
use Rattle.std.specs.List.{list_any}
use Rattle.sta_units.specs.Numbers.{limit}
use Rattle.sta_units.specs.declared.units.Af.{Af}
use Rattle.sta_units.specs.declared.units.Mo.{Mo}
use Rattle.timing_defs.specs.declared.parasitics.RcNode.{RcNode}
use Rattle.timing_defs.specs.declared.parasitics.RcCap.{RcCap}
use Rattle.timing_defs.specs.declared.parasitics.RcRes.{RcRes}
use Rattle.timing_defs.specs.declared.parasitics.NetRc.{NetRc}
use Rattle.timing_defs.specs.declared.parasitics.Parasitics.{Parasitics}
use Rattle.spef_reader.specs.declared.events.Event.{Event}
use Rattle.spef_reader.specs.declared.events.Event.TheVariants.{Net, Ground, Coupling, Resistor}
use Rattle.spef_reader.specs.Faults.{rows_of, is_resistance, lump_of, pins_on, is_own}

abbrev pub farads : ℕ → Af
farads n = record { 0 = pos n }

abbrev pub ohms : ℕ → Mo
ohms n = record { 0 = pos n }

abbrev pub cap_at : RcNode → ℕ → RcCap
cap_at node size = record { node = node; cap = farads size }

-- a capacitance between two nodes counts to ground at the first that is of the net (own)
abbrev pub counted_at : List (List ℕ) → RcNode → RcNode → RcNode
counted_at pins a b = (if is_own pins a then a else b)

-- the capacitances to ground, given the pins of the net
unfoldable pub caps_of : List (List ℕ) → List Event → List RcCap
caps_of pins [] = []
caps_of pins (Ground (Some a) (Some size) ∷ es) = cap_at a size ∷ caps_of pins es
caps_of pins (Coupling at (Some a) (Some b) (Some size) ∷ es) = cap_at (counted_at pins a b) size ∷ caps_of pins es
caps_of pins (e ∷ es) = caps_of pins es

unfoldable pub ress_of : List Event → List RcRes
ress_of [] = []
ress_of (Resistor (Some a) (Some b) (Some size) ∷ es) = record { a = a; b = b; res = ohms size } ∷ ress_of es
ress_of (e ∷ es) = ress_of es

abbrev pub small : Option ℕ → Option ℕ
small None = None
small (Some sum) = (if nat_le sum limit then Some sum else None)

-- a net without resistances is lumped and has no capacitances at nodes
abbrev pub net_rc : List ℕ → List Event → ℕ → NetRc
net_rc name rows lump =
    record { net = name; caps = (if list_any is_resistance rows then caps_of (pins_on [] rows) rows else []); ress = ress_of rows; lump = farads lump }

abbrev pub net_of : Option (List ℕ) → List Event → Option ℕ → List NetRc
net_of None rows lump = []
net_of (Some name) rows None = []
net_of (Some name) rows (Some lump) = net_rc name rows lump ∷ []

-- the nets, in the order of the text
unfoldable pub nets_of : List Event → List NetRc
nets_of [] = []
nets_of (Net at name place ∷ es) = net_of name (rows_of es) (small (lump_of (rows_of es))) ++ nets_of es
nets_of (e ∷ es) = nets_of es

-- the parasitics of a text without faults
abbrev pub parasitics_of : List Event → Parasitics
parasitics_of es = record { nets = nets_of es }
