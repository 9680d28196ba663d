-- The parasitics of a net by the name of its driver.

use Rattle.std.specs.Prelude.{ℕ, pos, int_lt, Bool, not, ◌&&◌, List, Option, None, option_map, option_and_then}
use Rattle.sta_units.specs.declared.units.Af.{Af}
use Rattle.sta_units.specs.Numbers.{is_within}
use Rattle.timing_defs.specs.declared.kinds.Dir.TheVariants.{Input}
use Rattle.timing_defs.specs.declared.parasitics.RcNode.TheVariants.{Pin as rc_pin}
use Rattle.timing_defs.specs.declared.parasitics.RcCap.{RcCap}
use Rattle.timing_defs.specs.declared.parasitics.NetRc.{NetRc}
use Rattle.timing_defs.specs.Documents.{is_net_rc}
use Rattle.timing_defs.specs.Netlist.{Pin}
use Rattle.timing_defs.specs.Wires.{sum_of, res_of}
use Rattle.timing_rules.specs.Connections.{has_items, as_items}

-- numbers and the total of the resistances are within their limits
abbrev pub is_fit : NetRc → Bool
is_fit rc = is_net_rc rc && is_within (sum_of res_of rc.ress)

-- a pin of this name, where nothing but the name counts
abbrev pub pin_called : List ℕ → Pin
pin_called name = record { owner = None; own = name; dir = Input }

abbrev pub root_cap : List ℕ → Af → RcCap
root_cap root cap = record { node = rc_pin root; cap = cap }

-- each capacitance is at a node, and there is one or a resistor
abbrev pub has_items_alone : NetRc → Bool
has_items_alone rc = not (int_lt (pos 0) rc.lump.0) && has_items rc

-- the parasitics as an edit gives them, by the driver's name
abbrev pub items_from : List ℕ → NetRc → NetRc
items_from root rc = as_items (pin_called root) rc

-- the parasitics that an edit would give a net, by the name of its driver and by those that it has
abbrev pub kept_from : Option (List ℕ) → Option NetRc → Option NetRc
kept_from root rc = option_and_then (λ name. option_map (items_from name) rc) root
