use Rattle.std.proofs.Common.{◌≡◌, length}
use Rattle.carried_times.specs.Sides.{AreTold}
use Rattle.carried_times.proofs.walking.walked.Given as goal

abbrev pub invariant-loop-node : goal.invariant-loop-node
invariant-loop-node g l = (length l.times ≡ l.node-index) × AreTold l.before l.after l.graph l.seeds.keys l.nodes.keys l.times
