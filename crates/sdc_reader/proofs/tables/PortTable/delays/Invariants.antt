use Rattle.std.proofs.Common.{◌≡◌, ◌++◌, map}
use Rattle.sdc_reader.specs.Tables.{delay_of}
use Rattle.sdc_reader.proofs.tables.PortTable.delays.Given as goal

abbrev pub invariant-loop-corner : goal.invariant-loop-corner
invariant-loop-corner l = l.delays ++ map delay_of l.corner-iterator ≡ map delay_of l.initial.corner-iterator
