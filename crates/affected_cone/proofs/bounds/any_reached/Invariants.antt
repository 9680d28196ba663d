use Rattle.std.proofs.Common.{◌≡◌, false, take}
use Rattle.std.specs.List.{list_any}
use Rattle.affected_cone.specs.Bounds.{is_other_reached}
use Rattle.affected_cone.proofs.bounds.any_reached.Given as goal

abbrev pub invariant-loop-other : goal.invariant-loop-other
invariant-loop-other l = list_any (is_other_reached l.carried.nodes.keys l.pin) (take l.other-index l.pins) ≡ false
