use Rattle.std.proofs.Common.{◌≡◌, ℕ, ◌<◌, true, get_or}
use Rattle.design_link.specs.Nodes.{is_node, nodes_in}
use Rattle.design_link.proofs.NetNodeLaws.{pin_node}
use Rattle.design_link.proofs.rc_pins.are_pins_in.Given as goal

abbrev pub invariant-loop-pin : goal.invariant-loop-pin
invariant-loop-pin l = (k : ℕ) → k < l.pin-index → is_node (nodes_in l.ends) (pin_node l.store (get_or l.pin-items k 0)) ≡ true
