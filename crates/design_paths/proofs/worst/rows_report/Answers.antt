use Rattle.design_paths.proofs.RowReports.{told_for}
use Rattle.design_paths.proofs.worst.rows_report.Goals as goal

pub returns-in-Ok : goal.returns-in-Ok
returns-in-Ok c =
    told_for c.args.store.now.design c.args.analysis.now.stored.design c.args.kind c.args.most c.in-Ok.report (λ i. (c.requires i).design)
    c.in-Ok.ensures.told
