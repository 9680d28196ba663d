use Rattle.std.proofs.Common.{take, None, ◌≡◌}
use Rattle.std.specs.Prelude.{option_and_then}
use Rattle.timing_rules.specs.Stages.{stages}
use Rattle.timed_paths.specs.Numbers.{number_named, last_named}
use Rattle.timed_paths.proofs.stages.stages_of.Given as goal

abbrev pub invariant-loop-node : goal.invariant-loop-node
invariant-loop-node g l = record {
  made : l.made ≡ stages l.sources.store.now.design l.split (take l.node-index l.nodes);
  before : l.before ≡ option_and_then (number_named l.sources.store.now) (last_named None (take l.node-index l.nodes));
}
