use Rattle.netlist_store.specs.Numbering.{number_of}
use Rattle.netlist_store.proofs.PinsOfInst.{lost_end}
use Rattle.netlist_store.proofs.pin_edits.without_lost_pins.Goals as goal

pub returns-clause-gone : goal.returns-clause-gone
returns-clause-gone c =
    lost_end c.args.inst.now c.args.stay.now c.args.pins.now c.loop-pin.pin-index c.loop-pin-test.false
    (number_of c.loop-pin.after) (number_of c.args.names) c.loop-pin.invariant.gone
