use Rattle.std.proofs.Common.{ap, ◌∙◌}
use Rattle.timing_defs.specs.declared.reports.Report.TheVariants.{Times}
use Rattle.timing_defs.specs.Netlist.{Node}
use Rattle.timing_rules.specs.Rows.{row}
use Rattle.timing_defs.specs.RowTimes.{times_in}
use Rattle.affected_cone.proofs.NodeAnswers.{node_told, row_is, row_low}
use Rattle.affected_cone.proofs.asking.arrivals.Goals as goal

pub row-requires : goal.row-requires
row-requires c = row_low c.args.known.now.store.now c.in_ok-node.node c.args.known.now.arrivals.now.rows c.in_ok-node.ensures.node.below c.requires.analysis.rows

pub returns-clause-told : goal.returns-clause-told
returns-clause-told c =
    node_told c.args.known.now.store.now c.args.pin.now c.args.tran c.in_ok-node.node c.in_ok-node.ensures.node
    (λ (n : Node). Times (times_in c.args.split (row c.args.known.now.store.now.design n))) c.in_ok-report.report
    (λ n at. c.in_ok-report.ensures
    ∙ ap Times
    (c.times_in.ensures
    ∙ ap (times_in c.args.split)
    (row_is c.args.known.now.store.now c.in_ok-node.node c.in_ok-node.ensures.node.below n at c.args.known.now.arrivals.now.rows c.requires.analysis.rows c.row.result.now c.row.ensures)))
