use Rattle.std.proofs.Common.{filter, take}
use Rattle.timing_rules.specs.Rows.{clock_edges}
use Rattle.timing_rules.specs.Summaries.{reaches_register, AreSkewsOf}
use Rattle.slack_summaries.proofs.skewing.all_skews.Given as goal

abbrev pub invariant-loop-at : goal.invariant-loop-at
invariant-loop-at l =
    AreSkewsOf l.search.store.now.design (filter (reaches_register l.search.store.now.design) (clock_edges 0 (take l.at l.search.store.now.design.constraints.clocks))) l.skews
