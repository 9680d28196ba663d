use Rattle.std.proofs.Common.{drop}
use Rattle.node_rows.specs.RenewedNets.{HaveNetsBut}
use Rattle.node_rows.proofs.wire_updates.renew_nets.Given as goal

abbrev pub invariant-loop-name : goal.invariant-loop-name
invariant-loop-name l = HaveNetsBut l.store (drop l.name-index l.names) l.wires
