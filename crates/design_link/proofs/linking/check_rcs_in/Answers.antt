use Rattle.timing_defs.specs.Wires.{first_some}
use Rattle.timing_defs.specs.Edits.{link_net}
use Rattle.design_link.proofs.LinkLaws.{first_more, first_none, stops}
use Rattle.design_link.proofs.Results.{handed_on}
use Rattle.design_link.proofs.linking.check_rcs_in.Goals as goal

pub loop-rc-preserved : goal.loop-rc-preserved
loop-rc-preserved c =
    first_more (link_net c.args.nets.now.keys) c.args.rcs.now c.loop-rc.rc-index c.rc-item.result c.loop-rc-test.true c.rc-item.is c.loop-rc.invariant c.in_ok-check_rc.ensures

pub returns-in_err-check_rc : goal.returns-in_err-check_rc
returns-in_err-check_rc c =
    handed_on c.from_residual.result c.in_err-check_rc.field-0.0 (first_some (link_net c.args.nets.now.keys) c.args.rcs.now) c.from_residual.ensures.1
    (stops (link_net c.args.nets.now.keys) c.args.rcs.now c.loop-rc.rc-index c.rc-item.result c.in_err-check_rc.field-0.0 c.loop-rc-test.true c.rc-item.is c.loop-rc.invariant
    c.in_err-check_rc.ensures)

pub returns : goal.returns
returns c = first_none (link_net c.args.nets.now.keys) c.args.rcs.now c.loop-rc.rc-index c.loop-rc-test.false c.loop-rc.invariant
