use Rattle.netlist_store.proofs.RcLaws.{next_numbers}
use Rattle.netlist_store.proofs.building.rc_numbers.Goals as goal

pub loop-rc-preserved : goal.loop-rc-preserved
loop-rc-preserved c =
    next_numbers c.args.nets.now c.args.rcs.now c.loop-rc.rc-index c.rc-item.result c.loop-rc.numbers c.add_rc_number.new.numbers
    c.loop-rc-test.true c.rc-item.is c.in_ok-add_rc_number.ensures c.loop-rc.invariant
