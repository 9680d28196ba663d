use Rattle.std.proofs.Common.{◌≡◌, false, take}
use Rattle.std.specs.List.{list_any}
use Rattle.affected_cone.specs.Updated.{is_placed}
use Rattle.affected_cone.proofs.trees.any_placed.Given as goal

abbrev pub invariant-loop-node : goal.invariant-loop-node
invariant-loop-node l = list_any (is_placed l.graph) (take l.node-index l.nodes) ≡ false
