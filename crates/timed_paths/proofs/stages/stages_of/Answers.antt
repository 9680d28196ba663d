use Rattle.std.proofs.Common.{◌≡◌, take, None, sym, ap, ◌∙◌}
use Rattle.std.specs.Prelude.{option_and_then}
use Rattle.netlist_store.specs.Numbering.{Stored}
use Rattle.timing_rules.specs.Stages.{named_node}
use Rattle.timed_paths.specs.Numbers.{number_named, last_named}
use Rattle.timed_paths.proofs.StageLaws.{last_more, stages_more}
use Rattle.timed_paths.proofs.stages.stages_of.Goals as goal

pub loop-node-preserved : goal.loop-node-preserved
loop-node-preserved g c = record {
  made =
      stages_more c.args.nodes.now c.loop-node.node-index c.node-item.result c.loop-node-test.true c.node-item.is c.args.sources.now.store.now.design c.args.split c.loop-node.made c.push.new.self
      c.in_ok-stage.stage c.loop-node.invariant.made (c.in_ok-stage.ensures (last_named None (take c.loop-node.node-index c.args.nodes.now)) c.loop-node.invariant.before) c.in_ok-push.ensures.ok;
  before =
      c.number_of-number.ensures.value ∙ ap (λ (z : Stored). number_named z (named_node c.node-item.result)) c.requires.sources.graph
      ∙ sym (ap (option_and_then (number_named c.args.sources.now.store.now)) (last_more c.args.nodes.now c.loop-node.node-index c.node-item.result c.loop-node-test.true c.node-item.is));
}
