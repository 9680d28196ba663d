use Rattle.std.proofs.Common.{◌≡◌, drop, None}
use Rattle.timed_paths.specs.TestNumbers.{last_same}
use Rattle.timed_paths.proofs.credits.last_common.Given as goal

abbrev pub invariant-loop-at : goal.invariant-loop-at
invariant-loop-at l = last_same l.last (drop l.at l.path) (drop l.at l.walk) ≡ last_same None l.path l.walk
