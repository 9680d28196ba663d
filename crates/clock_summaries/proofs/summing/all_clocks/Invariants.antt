use Rattle.std.proofs.Common.{◌≡◌, take}
use Rattle.timing_rules.specs.Summaries.{clock_summaries}
use Rattle.clock_summaries.proofs.summing.all_clocks.Given as goal

abbrev pub invariant-loop-at : goal.invariant-loop-at
invariant-loop-at l = l.rows ≡ clock_summaries 0 (take l.at l.store.design.constraints.clocks) l.captured
