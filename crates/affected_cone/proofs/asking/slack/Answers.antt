use Rattle.timing_defs.specs.Netlist.{Node}
use Rattle.timing_rules.specs.Required.{graph_slack}
use Rattle.timing_rules.specs.Reports.{fs_value}
use Rattle.affected_cone.proofs.NodeAnswers.{node_told}
use Rattle.affected_cone.proofs.asking.slack.Goals as goal

pub slack_at-requires-clause-node : goal.slack_at-requires-clause-node
slack_at-requires-clause-node c = record {
  at = record { pin = c.in_ok-node.ensures.node.pin; tran = c.args.tran };
  told = c.in_ok-node.ensures.node.told;
  below = c.in_ok-node.ensures.node.below;
}

pub returns-clause-told : goal.returns-clause-told
returns-clause-told c =
    node_told c.args.known.now.store.now c.args.pin.now c.args.tran c.in_ok-node.node c.in_ok-node.ensures.node
    (λ (n : Node). fs_value (graph_slack c.args.known.now.store.now.design c.args.split n)) c.slack_at.result (λ n at. c.slack_at.ensures n at)
