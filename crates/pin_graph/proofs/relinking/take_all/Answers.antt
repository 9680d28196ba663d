use Rattle.std.proofs.Common.{length}
use Rattle.pin_graph.proofs.RelinkLaws.{fans_as, item_low, none_taken, taken_more, taken_all}
use Rattle.pin_graph.proofs.relinking.take_all.Goals as goal

pub loop-arc-init : goal.loop-arc-init
loop-arc-init c = none_taken (length c.args.outs.now.later) c.args.node c.args.outs.now c.requires.fans

pub take_out-requires-clause-fans : goal.take_out-requires-clause-fans
take_out-requires-clause-fans c = fans_as (length c.args.outs.now.later) (length c.loop-arc.outs.later) c.loop-arc.outs c.loop-arc.invariant.fans.count c.loop-arc.invariant.fans

pub take_out-requires-clause-from : goal.take_out-requires-clause-from
take_out-requires-clause-from c =
    item_low (length c.args.outs.now.later) (length c.loop-arc.outs.later) c.args.old.now c.loop-arc.arc-index _ c.requires.within c.loop-arc-test.true c.loop-arc.invariant.fans.count

pub loop-arc-preserved : goal.loop-arc-preserved
loop-arc-preserved c =
    taken_more (length c.args.outs.now.later) c.args.node c.args.old.now c.loop-arc.arc-index _ c.args.outs.now c.loop-arc.outs c.take_out.new.outs c.loop-arc-test.true
    c.loop-arc.invariant (c.requires.within c.loop-arc.arc-index _ c.loop-arc-test.true) c.in_ok-take_out.ensures

pub returns : goal.returns
returns c = taken_all (length c.args.outs.now.later) c.args.node c.args.old.now c.loop-arc.arc-index c.args.outs.now c.loop-arc.outs c.loop-arc.invariant c.loop-arc-test.false
