use Rattle.std.proofs.Common.{◌≡◌, take}
use Rattle.std.specs.List.{filter_map}
use Rattle.edit_reach.specs.Besides.{tested_under}
use Rattle.edit_reach.proofs.dirty.tested_insts.Given as goal

abbrev pub invariant-loop-node : goal.invariant-loop-node
invariant-loop-node l = l.insts ≡ filter_map (tested_under l.store) (take l.node-index l.nodes)
