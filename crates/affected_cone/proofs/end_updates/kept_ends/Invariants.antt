use Rattle.std.proofs.Common.{◌≡◌, take}
use Rattle.std.specs.List.{filter_map}
use Rattle.affected_cone.specs.Renewed.{kept_end}
use Rattle.affected_cone.proofs.EndCuts.{IsCut}
use Rattle.affected_cone.proofs.end_updates.kept_ends.Given as goal

abbrev pub invariant-loop-end : goal.invariant-loop-end
invariant-loop-end l = (l.kept ≡ filter_map (kept_end l.dirty) (take l.end-index l.ends)) × IsCut l.dirty l.rest l.ends l.end-index
