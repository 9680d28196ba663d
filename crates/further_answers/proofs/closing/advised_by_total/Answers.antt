use Rattle.std.proofs.Common.{refl}
use Rattle.further_answers.proofs.closing.advised_by_total.Goals as goal

pub returns-clause-told : goal.returns-clause-told
returns-clause-told g c = (c.in_ok-report.ensures.there, (c.in_ok-report.report, c.in_ok-report.ensures.report, refl))
