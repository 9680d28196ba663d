use Rattle.std.proofs.Common.{length}
use Rattle.pin_graph.proofs.RelinkLaws.{fans_as, item_low, none_put, put_more, put_done}
use Rattle.pin_graph.proofs.relinking.put_all.Goals as goal

pub loop-arc-init : goal.loop-arc-init
loop-arc-init c = none_put (length c.args.outs.now.later) c.args.outs.now c.requires.fans

pub put_out-requires-clause-fans : goal.put_out-requires-clause-fans
put_out-requires-clause-fans c = fans_as (length c.args.outs.now.later) (length c.loop-arc.outs.later) c.loop-arc.outs c.loop-arc.invariant.fans.count c.loop-arc.invariant.fans

pub put_out-requires-clause-from : goal.put_out-requires-clause-from
put_out-requires-clause-from c =
    item_low (length c.args.outs.now.later) (length c.loop-arc.outs.later) c.args.new.now c.loop-arc.arc-index _ c.requires.within c.loop-arc-test.true c.loop-arc.invariant.fans.count

pub loop-arc-preserved : goal.loop-arc-preserved
loop-arc-preserved c =
    put_more (length c.args.outs.now.later) c.args.new.now c.loop-arc.arc-index _ c.args.outs.now c.loop-arc.outs c.put_out.new.outs c.loop-arc-test.true
    c.loop-arc.invariant (c.requires.within c.loop-arc.arc-index _ c.loop-arc-test.true) c.in_ok-put_out.ensures

pub returns : goal.returns
returns c = put_done (length c.args.outs.now.later) c.args.new.now c.loop-arc.arc-index c.args.outs.now c.loop-arc.outs c.loop-arc.invariant c.loop-arc-test.false
