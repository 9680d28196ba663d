use Rattle.timing_defs.specs.Wires.{first_some}
use Rattle.timing_defs.specs.Edits.{link_pin}
use Rattle.design_link.proofs.LinkLaws.{first_more, first_none, stops}
use Rattle.design_link.proofs.Results.{handed_on}
use Rattle.design_link.proofs.linking.check_conns.Goals as goal

pub loop-at-preserved : goal.loop-at-preserved
loop-at-preserved c =
    first_more (link_pin c.args.inst.now c.args.cell.now) c.args.conns.now c.loop-at.at c.index-conns-at.result c.loop-at-test.true c.index-conns-at.is c.loop-at.invariant
    c.in_ok-check_conn.ensures

pub returns-in_err-check_conn : goal.returns-in_err-check_conn
returns-in_err-check_conn c =
    handed_on c.from_residual.result c.in_err-check_conn.field-0.0 (first_some (link_pin c.args.inst.now c.args.cell.now) c.args.conns.now) c.from_residual.ensures.1
    (stops (link_pin c.args.inst.now c.args.cell.now) c.args.conns.now c.loop-at.at c.index-conns-at.result c.in_err-check_conn.field-0.0 c.loop-at-test.true c.index-conns-at.is c.loop-at.invariant
    c.in_err-check_conn.ensures)

pub returns : goal.returns
returns c = first_none (link_pin c.args.inst.now c.args.cell.now) c.args.conns.now c.loop-at.at c.loop-at-test.false c.loop-at.invariant
