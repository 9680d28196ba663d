-- Sets of nodes of a net, and what is read of its pins.

use Rattle.std.specs.Prelude.{◌≡◌, Bool, List, ◌++◌, map}
use Rattle.std.specs.List.{list_any}
use Rattle.timing_defs.specs.declared.parasitics.RcNode.{RcNode}
use Rattle.timing_defs.specs.declared.parasitics.RcNode.TheVariants.{Pin as rc_pin, Inner as rc_inner}
use Rattle.timing_defs.specs.Wires.{same_rc}
use Rattle.design_link.specs.declared.node_sets.NodeSet.{NodeSet}

abbrev pub is_node : List RcNode → RcNode → Bool
is_node nodes node = list_any (same_rc node) nodes

-- two lists have the same nodes
abbrev pub HaveSameNodes : List RcNode → List RcNode → Type 0
HaveSameNodes xs ys = (node : RcNode) → is_node xs node ≡ is_node ys node

-- the nodes of a set: pins, then inner nodes
abbrev pub nodes_in : NodeSet → List RcNode
nodes_in set = map rc_pin set.pins.keys ++ map rc_inner set.inners.keys
