use Rattle.std.proofs.Common.{take, ◌∷◌, []}
use Rattle.std.specs.List.{flat_map}
use Rattle.rc_tree.specs.Numbering.{numbered, IsJoined}
use Rattle.rc_tree.proofs.nodes.add_resistors.Given as goal

abbrev pub invariant-loop-resistor : goal.invariant-loop-resistor
invariant-loop-resistor l = IsJoined (numbered l.initial.nodes) (flat_map (λ r. r.a ∷ r.b ∷ []) (take l.resistor-index l.resistors)) (numbered l.nodes)
