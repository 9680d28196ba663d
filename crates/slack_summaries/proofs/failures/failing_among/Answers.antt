use Rattle.slack_summaries.proofs.FailingLaws.{failing_cut}
use Rattle.slack_summaries.proofs.failures.failing_among.Goals as goal

pub returns-then-negative-most : goal.returns-then-negative-most
returns-then-negative-most c =
    failing_cut c.args.store.now c.args.analysis.now.stored c.requires c.laws.ensures.numbered c.laws.ensures.linked c.args.analysis.now.ends c.laws-2.ensures.ends c.args.kind c.args.most
    c.in_ok-rows.rows c.as_slice.result.now c.in_ok-rows.ensures c.as_slice.ensures c.negative_count-negative.result c.negative_count-negative.ensures c.if-negative-most.true c.listed_count.result
    c.listed_count.ensures c.first_rows.result c.first_rows.ensures
