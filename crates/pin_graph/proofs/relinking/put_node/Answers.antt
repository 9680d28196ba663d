use Rattle.std.proofs.Common.{◌∙◌, length}
use Rattle.pin_graph.proofs.RelinkLaws.{fans_as, taken_low, put_low, put_as}
use Rattle.pin_graph.proofs.MergeLaws.{ok_map}
use Rattle.pin_graph.proofs.relinking.put_node.Goals as goal

pub at-requires-clause-fans : goal.at-requires-clause-fans
at-requires-clause-fans c = c.requires.both.in_fan

pub take_all-requires-clause-fans : goal.take_all-requires-clause-fans
take_all-requires-clause-fans c = fans_as (length c.args.ins.now.later) (length c.args.outs.now.later) c.args.outs.now c.requires.both.out_fan.count c.requires.both.out_fan

pub take_all-requires-clause-within : goal.take_all-requires-clause-within
take_all-requires-clause-within c =
    taken_low (length c.args.ins.now.later) (length c.args.outs.now.later) c.args.node c.args.ins.now c.args.outs.now c.at.result.now
    c.requires.both c.requires.node c.requires.both.out_fan.count c.at.ensures

pub put_all-requires-clause-fans : goal.put_all-requires-clause-fans
put_all-requires-clause-fans c = fans_as (length c.args.outs.now.later) (length c.take_all.new.outs.later) c.take_all.new.outs c.in_ok-take_all.ensures.fans.count c.in_ok-take_all.ensures.fans

pub put_all-requires-clause-within : goal.put_all-requires-clause-within
put_all-requires-clause-within c =
    put_low (length c.args.ins.now.later) (length c.take_all.new.outs.later) c.args.node c.args.arcs c.as_slice.result.now c.requires.within
    (c.in_ok-take_all.ensures.fans.count ∙ c.requires.both.out_fan.count) c.as_slice.ensures

pub returns : goal.returns
returns c =
    ok_map c.set.result
    (λ made. put_as (length c.args.ins.now.later) (length c.args.outs.now.later) (length c.take_all.new.outs.later) c.args.node c.args.arcs c.as_slice.result.now c.at.result.now
    c.args.ins.now c.set.new.self c.args.outs.now c.take_all.new.outs c.put_all.new.outs c.requires.both c.requires.node c.requires.within c.requires.once
    c.requires.both.out_fan.count c.at.ensures c.in_ok-take_all.ensures (c.in_ok-take_all.ensures.fans.count ∙ c.requires.both.out_fan.count) c.as_slice.ensures c.in_ok-put_all.ensures made)
    c.set.ensures
