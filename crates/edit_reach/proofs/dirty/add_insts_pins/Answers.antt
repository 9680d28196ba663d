use Rattle.std.proofs.Common.{get_or}
use Rattle.std.proofs.lemmas.List.{get_or_default}
use Rattle.edit_reach.specs.Besides.{inst_pins_at}
use Rattle.edit_reach.proofs.Beside.{flat_more}
use Rattle.edit_reach.proofs.dirty.add_insts_pins.Goals as goal

pub loop-inst-preserved : goal.loop-inst-preserved
loop-inst-preserved c =
    flat_more (inst_pins_at c.args.store.now) c.args.pins.now c.loop-inst.pins c.add_inst_pins.new.pins c.args.insts.now c.loop-inst.inst-index (get_or c.args.insts.now c.loop-inst.inst-index 0)
    c.loop-inst-test.true (get_or_default c.args.insts.now c.loop-inst.inst-index 0 _ c.loop-inst-test.true) c.loop-inst.invariant c.in_ok-add_inst_pins.ensures
