use Rattle.std.proofs.Common.{ap, ◌∙◌}
use Rattle.timing_defs.specs.Netlist.{Node}
use Rattle.timing_rules.specs.Rows.{slew}
use Rattle.timing_defs.specs.RowTimes.{slew_in}
use Rattle.timing_rules.specs.Reports.{fs_value}
use Rattle.affected_cone.proofs.NodeAnswers.{node_told, row_is, row_low}
use Rattle.affected_cone.proofs.asking.slew.Goals as goal

pub row-requires : goal.row-requires
row-requires c = row_low c.args.known.now.store.now c.in_ok-node.node c.args.known.now.arrivals.now.rows c.in_ok-node.ensures.node.below c.requires.analysis.rows

pub returns-clause-told : goal.returns-clause-told
returns-clause-told c =
    node_told c.args.known.now.store.now c.args.pin.now c.args.tran c.in_ok-node.node c.in_ok-node.ensures.node (λ (n : Node). fs_value (slew c.args.known.now.store.now.design c.args.split n))
    c.value_report.result
    (λ n at. c.value_report.ensures
    ∙ ap fs_value
    (c.slew_in.ensures
    ∙ ap (slew_in c.args.split)
    (row_is c.args.known.now.store.now c.in_ok-node.node c.in_ok-node.ensures.node.below n at c.args.known.now.arrivals.now.rows c.requires.analysis.rows c.row.result.now c.row.ensures)))
