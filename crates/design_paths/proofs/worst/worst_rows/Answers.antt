use Rattle.design_paths.proofs.RowReports.{rows_told, told_ends}
use Rattle.design_paths.proofs.worst.worst_rows.Goals as goal

pub rows_of-requires : goal.rows_of-requires
rows_of-requires c =
    told_ends c.args.store.now.design c.args.kind c.args.most c.in_ok-report.report c.in_ok-report.ensures

pub returns : goal.returns
returns c =
    rows_told c.args.store.now.design c.args.kind c.args.most c.in_ok-report.report c.rows_of.result c.in_ok-report.ensures c.rows_of.ensures
