use Rattle.std.proofs.Common.{◌≡◌, ◌++◌, map}
use Rattle.sdc_reader.specs.Tables.{load_of}
use Rattle.sdc_reader.proofs.tables.PortTable.loads.Given as goal

abbrev pub invariant-loop-corner : goal.invariant-loop-corner
invariant-loop-corner l = l.loads ++ map load_of l.corner-iterator ≡ map load_of l.initial.corner-iterator
