use Rattle.std.proofs.Common.{Option, subst}
use Rattle.timing_defs.specs.RowTimes.{edge_of}
use Rattle.slack_summaries.specs.declared.skewing.SkewEnds.{SkewEnds}
use Rattle.slack_summaries.specs.Skews.{AreEnds}
use Rattle.slack_summaries.proofs.SkewLaws.{skew_told}
use Rattle.slack_summaries.proofs.skewing.edge_skew.Goals as goal

pub returns-in_ok-skew-in-Some : goal.returns-in_ok-skew-in-Some
returns-in_ok-skew-in-Some c =
    skew_told c.args.search.now.store.now c.laws.ensures.numbered c.laws.ensures.linked (edge_of c.args.edge) c.in-Some.ends c.in_ok-skew-in-Some.skew
    (subst (λ (o : Option SkewEnds). AreEnds c.args.search.now.store.now (edge_of c.args.edge) o) c.in-Some.is c.skew_ends.ensures) c.in_ok-skew-in-Some.ensures
