-- Resistors between nodes that are there.

use Rattle.std.specs.Prelude.{◌≡◌, true, List}
use Rattle.timing_defs.specs.declared.parasitics.RcNode.{RcNode}
use Rattle.timing_defs.specs.declared.parasitics.RcRes.{RcRes}
use Rattle.rc_tree.specs.Trees.{is_node, is_amount}

abbrev pub IsResistorOf : List RcNode → RcRes → Type 0
IsResistorOf nodes r = (is_node nodes r.a ≡ true) × (is_node nodes r.b ≡ true) × (is_amount r.res.0 ≡ true)
