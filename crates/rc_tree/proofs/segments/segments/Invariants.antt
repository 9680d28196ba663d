use Rattle.std.proofs.Common.{take}
use Rattle.rc_tree.specs.Numbering.{numbered}
use Rattle.rc_tree.specs.Growth.{AreSegments}
use Rattle.rc_tree.proofs.segments.segments.Given as goal

abbrev pub invariant-loop-resistor : goal.invariant-loop-resistor
invariant-loop-resistor l = AreSegments (numbered l.nodes) (take l.resistor-index l.resistors) l.segments
