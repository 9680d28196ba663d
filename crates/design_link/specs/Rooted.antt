-- Trees of resistors from a root.

use Rattle.std.specs.Prelude.{ℕ, Bool, true, false, not, ◌&&◌, ◌||◌, List, ◌∷◌, Option, Some, None, is_some, pos}
use Rattle.std.specs.List.{list_all, filter_map}
use Rattle.timing_defs.specs.declared.parasitics.RcNode.{RcNode}
use Rattle.timing_defs.specs.declared.parasitics.RcNode.TheVariants.{Pin as rc_pin, Inner as rc_inner}
use Rattle.timing_defs.specs.declared.parasitics.NetRc.{NetRc}
use Rattle.timing_defs.specs.declared.rows.PinCap.{PinCap}
use Rattle.timing_defs.specs.Wires.{path_between, is_lumped}
use Rattle.timing_defs.specs.NetChecks.{named_nodes, has_cycle}
use Rattle.rc_tree.specs.declared.faults.RcFault.{RcFault}
use Rattle.rc_tree.specs.declared.faults.RcFault.TheVariants.{Loop, Unreached, TooLarge, OutOfRange, Memory}

-- a pin of no capacitance
abbrev pub bare : List ℕ → PinCap
bare name = record { pin = name; cap = record { 0 = pos 0 } }

abbrev pub bare_pin : RcNode → Option PinCap
bare_pin (rc_pin name) = Some (bare name)
bare_pin (rc_inner k) = None

-- a root and the pins that a net names
abbrev pub bare_pins : NetRc → List ℕ → List PinCap
bare_pins rc root = bare root ∷ filter_map bare_pin (named_nodes rc)

-- a net has no resistors, or they are a tree from a root to all nodes that it names
abbrev pub is_rooted : NetRc → List ℕ → Bool
is_rooted rc root =
    is_lumped rc || (not (has_cycle rc) && list_all (λ node. is_some (path_between rc.ress (rc_pin root) node)) (named_nodes rc))

-- whether a net is a tree all the same, by why no tree was made of it
abbrev pub rooted_by : RcFault → Option Bool
rooted_by Loop = Some false
rooted_by Unreached = Some false
rooted_by TooLarge = Some true
rooted_by OutOfRange = Some true
rooted_by Memory = None
