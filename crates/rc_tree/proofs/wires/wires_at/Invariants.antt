use Rattle.std.proofs.Common.{◌≡◌, map, take}
use Rattle.rc_tree.specs.Wiring.{wire_at}
use Rattle.rc_tree.proofs.wires.wires_at.Given as goal

abbrev pub invariant-loop-place : goal.invariant-loop-place
invariant-loop-place l = l.wires ≡ map (wire_at l.delays l.seconds) (take l.place-index l.places)
