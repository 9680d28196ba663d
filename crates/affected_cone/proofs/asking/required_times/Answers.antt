use Rattle.std.proofs.Common.{ap, ◌∙◌}
use Rattle.timing_defs.specs.declared.reports.Report.TheVariants.{Times}
use Rattle.timing_defs.specs.Netlist.{Node}
use Rattle.timing_rules.specs.Required.{back_row}
use Rattle.timing_defs.specs.RowTimes.{back_times}
use Rattle.affected_cone.proofs.NodeAnswers.{node_told, back_is, back_low}
use Rattle.affected_cone.proofs.asking.required_times.Goals as goal

pub row-requires : goal.row-requires
row-requires c = back_low c.args.known.now.store.now c.in_ok-node.node c.args.known.now.required.now.rows c.in_ok-node.ensures.node.below c.requires.analysis.backs

pub returns-clause-told : goal.returns-clause-told
returns-clause-told c =
    node_told c.args.known.now.store.now c.args.pin.now c.args.tran c.in_ok-node.node c.in_ok-node.ensures.node
    (λ (n : Node). Times (back_times c.args.split (back_row c.args.known.now.store.now.design n))) c.in_ok-report.report
    (λ n at. c.in_ok-report.ensures
    ∙ ap Times
    (c.as_slice.ensures
    ∙ c.times.ensures
    ∙ ap (back_times c.args.split)
    (back_is c.args.known.now.store.now c.in_ok-node.node c.in_ok-node.ensures.node.below n at c.args.known.now.required.now.rows c.requires.analysis.backs c.row.result.now c.row.ensures)))
