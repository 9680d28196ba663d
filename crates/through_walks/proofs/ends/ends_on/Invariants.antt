use Rattle.std.proofs.Common.{◌≡◌, map, take}
use Rattle.through_walks.specs.Layers.{end_on}
use Rattle.through_walks.proofs.ends.ends_on.Given as goal

abbrev pub invariant-loop-end : goal.invariant-loop-end
invariant-loop-end l = l.made ≡ map (end_on l.stops l.stages l.begun) (take l.end-index l.ends)
