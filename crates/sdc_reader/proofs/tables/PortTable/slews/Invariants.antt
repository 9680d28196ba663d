use Rattle.std.proofs.Common.{◌≡◌, ◌++◌, map}
use Rattle.sdc_reader.specs.Tables.{slew_of}
use Rattle.sdc_reader.proofs.tables.PortTable.slews.Given as goal

abbrev pub invariant-loop-corner : goal.invariant-loop-corner
invariant-loop-corner l = l.slews ++ map slew_of l.corner-iterator ≡ map slew_of l.initial.corner-iterator
