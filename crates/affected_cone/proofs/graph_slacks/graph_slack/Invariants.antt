use Rattle.std.proofs.Common.{◌≡◌, None, drop}
use Rattle.timing_defs.specs.declared.kinds.Split.TheVariants.{Early}
use Rattle.timing_rules.specs.Rows.{outermost, clock_edges}
use Rattle.affected_cone.specs.GraphSlacks.{slack_between}
use Rattle.affected_cone.proofs.graph_slacks.graph_slack.Given as goal

abbrev pub invariant-loop-at : goal.invariant-loop-at
invariant-loop-at l =
    outermost Early (slack_between l.split l.row l.back) l.best (clock_edges l.at (drop l.at l.clocks))
    ≡ outermost Early (slack_between l.split l.row l.back) None (clock_edges 0 l.clocks)
