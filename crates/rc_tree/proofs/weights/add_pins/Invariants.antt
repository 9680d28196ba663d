use Rattle.std.proofs.Common.{take, map, ◌+◌, ◌*◌, ◌^◌}
use Rattle.rc_tree.specs.Numbering.{numbered}
use Rattle.rc_tree.specs.Weights.{AreAdded, AreUnder, charge_of}
use Rattle.rc_tree.proofs.weights.add_pins.Given as goal

abbrev pub invariant-loop-pin : goal.invariant-loop-pin
invariant-loop-pin l = AreAdded (numbered l.nodes) l.forest (map charge_of (take l.pin-index l.pins)) l.initial.all.items l.all.items × AreUnder (2 ^ 104 + l.pin-index * 2 ^ 40) l.all.items
