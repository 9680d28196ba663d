use Rattle.timing_defs.specs.Wires.{first_some}
use Rattle.timing_defs.specs.Edits.{link_inst}
use Rattle.design_link.proofs.LinkLaws.{first_more, first_none, stops}
use Rattle.design_link.proofs.Results.{handed_on}
use Rattle.design_link.proofs.linking.check_insts.Goals as goal

pub loop-inst-preserved : goal.loop-inst-preserved
loop-inst-preserved c =
    first_more (link_inst c.args.early.now c.args.late.now) c.args.insts.now c.loop-inst.inst-index c.inst-item.result c.loop-inst-test.true c.inst-item.is c.loop-inst.invariant
    (c.in_ok-check_inst.ensures c.args.early.now c.in_ok-table.ensures.agree)

pub returns-in_err-check_inst : goal.returns-in_err-check_inst
returns-in_err-check_inst c =
    handed_on c.from_residual-in_err-check_inst.result c.in_err-check_inst.field-0.0 (first_some (link_inst c.args.early.now c.args.late.now) c.args.insts.now) c.from_residual-in_err-check_inst.ensures.1
    (stops (link_inst c.args.early.now c.args.late.now) c.args.insts.now c.loop-inst.inst-index c.inst-item.result c.in_err-check_inst.field-0.0 c.loop-inst-test.true c.inst-item.is c.loop-inst.invariant
    (c.in_err-check_inst.ensures c.args.early.now c.in_ok-table.ensures.agree))

pub returns : goal.returns
returns c = first_none (link_inst c.args.early.now c.args.late.now) c.args.insts.now c.loop-inst.inst-index c.loop-inst-test.false c.loop-inst.invariant
