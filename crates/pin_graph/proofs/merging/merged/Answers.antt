use Rattle.std.proofs.Common.{◌∙◌, length, ap, arith}
use Rattle.pin_graph.specs.declared.fans.End.TheVariants.{To}
use Rattle.pin_graph.proofs.FanLaws.{is_room, room_holds}
use Rattle.pin_graph.proofs.MergeLaws.{fan_low, so_far_more, so_far_all}
use Rattle.pin_graph.proofs.merging.merged.Goals as goal

pub at-requires : goal.at-requires
at-requires c = is_room To c.args.n c.args.raw.now c.in_ok-fan.fan c.in_ok-fan.ensures c.loop-node.node c.loop-node-test.true

pub add_joined-requires : goal.add_joined-requires
add_joined-requires c =
    fan_low c.args.n c.args.raw.now c.loop-node.node (length c.deref_mut.result.now) c.at.result.now c.requires
    (c.at.ensures ∙ room_holds To c.args.n c.args.raw.now c.in_ok-fan.fan c.in_ok-fan.ensures c.loop-node.node c.loop-node-test.true)
    (omega (arith, ap length c.deref_mut.ensures.value, c.loop-node.invariant.long))

pub loop-node-preserved : goal.loop-node-preserved
loop-node-preserved c = record {
  merged =
      so_far_more c.args.n c.args.raw.now c.loop-node.node c.at.result.now c.loop-node.arcs c.add_joined.new.arcs c.requires c.loop-node.invariant.merged
      (c.at.ensures ∙ room_holds To c.args.n c.args.raw.now c.in_ok-fan.fan c.in_ok-fan.ensures c.loop-node.node c.loop-node-test.true)
      c.in_ok-add_joined.ensures;
  long = c.loop-node.invariant.long;
}

pub returns : goal.returns
returns c = so_far_all c.args.n c.args.raw.now c.loop-node.arcs c.loop-node.node c.loop-node.invariant.merged (omega arith)
