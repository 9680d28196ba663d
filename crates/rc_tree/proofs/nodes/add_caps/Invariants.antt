use Rattle.std.proofs.Common.{map, take}
use Rattle.rc_tree.specs.Numbering.{numbered, IsJoined}
use Rattle.rc_tree.proofs.nodes.add_caps.Given as goal

abbrev pub invariant-loop-cap : goal.invariant-loop-cap
invariant-loop-cap l = IsJoined (numbered l.initial.nodes) (map (λ c. c.node) (take l.cap-index l.caps)) (numbered l.nodes)
