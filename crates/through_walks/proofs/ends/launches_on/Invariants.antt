use Rattle.std.proofs.Common.{◌≡◌, map, take}
use Rattle.through_walks.specs.Layers.{launch_on}
use Rattle.through_walks.proofs.ends.launches_on.Given as goal

abbrev pub invariant-loop-launch : goal.invariant-loop-launch
invariant-loop-launch l = l.made ≡ map (launch_on l.stops l.stages l.begun) (take l.launch-index l.launches)
