use Rattle.node_rows.proofs.UpToLaws.{AreFine}
use Rattle.node_rows.proofs.pin_wires.Wires.of.Given as goal

abbrev pub invariant-loop-net : goal.invariant-loop-net
invariant-loop-net g l = AreFine l.store l.wires l.net
