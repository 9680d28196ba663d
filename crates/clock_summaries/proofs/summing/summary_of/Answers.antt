use Rattle.clock_summaries.proofs.summing.summary_of.Goals as goal

pub returns : goal.returns
returns c = record { rows = c.in_ok-clocks.ensures; untested = c.untested_count.ensures }
