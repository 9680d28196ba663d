use Rattle.std.proofs.Common.{ap, ◌∙◌}
use Rattle.timing_defs.specs.declared.constraints.Constraints.{Constraints}
use Rattle.timing_rules.specs.Reports.{fs_value}
use Rattle.affected_cone.proofs.NodeAnswers.{row_is, back_is, slack_is}
use Rattle.affected_cone.proofs.WithinLaws.{row_within}
use Rattle.affected_cone.proofs.asking.slack_at.Goals as goal

pub graph_slack-requires-clause-row : goal.graph_slack-requires-clause-row
graph_slack-requires-clause-row c =
    row_within c.args.known.now.store.now c.args.known.now.graph.now c.requires.known.graph c.laws.ensures.numbered c.laws.ensures.linked c.laws-2.ensures _ c.requires.known.tables.wires
    c.requires.known.analysis.fine c.args.node c.requires.node.at c.requires.node.told c.row-row.result.now
    (row_is c.args.known.now.store.now c.args.node c.requires.node.below c.requires.node.at c.requires.node.told c.args.known.now.arrivals.now.rows c.requires.known.analysis.rows
    c.row-row.result.now c.row-row.ensures)

pub returns : goal.returns
returns c = λ n at.
    (c.value_report.ensures
    ∙ ap fs_value
    (c.graph_slack.ensures
    ∙ slack_is c.args.known.now.store.now.design c.args.split n c.row-row.result.now c.row-back.result.now c.as_slice-clocks.result.now
    (row_is c.args.known.now.store.now c.args.node c.requires.node.below n at c.args.known.now.arrivals.now.rows c.requires.known.analysis.rows c.row-row.result.now c.row-row.ensures)
    (back_is c.args.known.now.store.now c.args.node c.requires.node.below n at c.args.known.now.required.now.rows c.requires.known.analysis.backs c.row-back.result.now
    c.row-back.ensures)
    (c.as_slice-clocks.ensures ∙ ap (λ (k : Constraints). k.clocks) c.constraints.ensures)))
