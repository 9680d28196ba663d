use Rattle.std.proofs.Common.{◌≡◌, drop}
use Rattle.sdc_reader.specs.Tables.{loads_at}
use Rattle.sdc_reader.proofs.tables.PortTable.write_loads.Given as goal

abbrev pub invariant-loop-port : goal.invariant-loop-port
invariant-loop-port l =
    loads_at l.flags l.amount (drop l.port-index l.ports) l.self ≡ loads_at l.flags l.amount l.ports l.initial.self
