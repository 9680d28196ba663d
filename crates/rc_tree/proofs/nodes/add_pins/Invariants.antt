use Rattle.std.proofs.Common.{map, take}
use Rattle.timing_defs.specs.declared.parasitics.RcNode.TheVariants.{Pin as rc_pin}
use Rattle.rc_tree.specs.Numbering.{numbered, IsJoined}
use Rattle.rc_tree.proofs.nodes.add_pins.Given as goal

abbrev pub invariant-loop-pin : goal.invariant-loop-pin
invariant-loop-pin l = IsJoined (numbered l.initial.nodes) (map (λ p. rc_pin p.pin) (take l.pin-index l.pins)) (numbered l.nodes)
