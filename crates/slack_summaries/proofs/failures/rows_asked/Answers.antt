use Rattle.slack_summaries.proofs.FailingLaws.{worst_of}
use Rattle.slack_summaries.proofs.failures.rows_asked.Goals as goal

pub returns-in-Ok-Ends : goal.returns-in-Ok-Ends
returns-in-Ok-Ends c =
    worst_of c.args.analysis.now.stored.design c.args.kind c.args.count c.args.q.now c.in-Ok-Ends.field-0 c.requires.asked (cc (c.in-Ok-Ends.field-0-is, c.in-Ok-Ends.rows-is))
    c.in-Ok-Ends.ensures.told
