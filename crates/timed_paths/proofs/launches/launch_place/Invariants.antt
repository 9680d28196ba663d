use Rattle.std.proofs.Common.{take, ◌<◌}
use Rattle.timed_paths.proofs.LaunchLaws.{IsPlace}
use Rattle.timed_paths.proofs.launches.launch_place.Given as goal

abbrev pub invariant-loop-at : goal.invariant-loop-at
invariant-loop-at l = IsPlace l.store.design l.nodes (take l.at l.nodes) l.launch × (l.launch < l.at)
