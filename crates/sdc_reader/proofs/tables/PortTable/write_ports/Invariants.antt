use Rattle.std.proofs.Common.{◌≡◌, drop}
use Rattle.sdc_reader.specs.Tables.{at_ports}
use Rattle.sdc_reader.proofs.tables.PortTable.write_ports.Given as goal

abbrev pub invariant-loop-port : goal.invariant-loop-port
invariant-loop-port l =
    at_ports l.flags l.amount (drop l.port-index l.ports) l.self ≡ at_ports l.flags l.amount l.ports l.initial.self
