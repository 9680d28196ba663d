use Rattle.std.proofs.Common.{take, ◌*◌, ◌^◌}
use Rattle.rc_tree.specs.Numbering.{numbered}
use Rattle.rc_tree.specs.Weights.{AreAdded, AreUnder}
use Rattle.rc_tree.proofs.weights.add_caps.Given as goal

abbrev pub invariant-loop-cap : goal.invariant-loop-cap
invariant-loop-cap l = AreAdded (numbered l.nodes) l.forest (take l.cap-index l.caps) l.initial.all.items l.all.items × AreUnder (l.cap-index * 2 ^ 40) l.all.items
