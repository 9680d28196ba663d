use Rattle.timing_defs.specs.declared.library.CellPin.{CellPin}
use Rattle.pin_graph.specs.Joins.{own_number}
use Rattle.pin_graph.proofs.ArcLaws.{mapped_more}
use Rattle.pin_graph.proofs.seeding.add_own_pins.Goals as goal

pub loop-pin-preserved : goal.loop-pin-preserved
loop-pin-preserved c =
    mapped_more (λ (pin : CellPin). own_number c.args.store.now c.args.inst.now pin.name) c.args.pins.now c.loop-pin.pins c.add_number.new.numbers
    c.as_slice-pin-items.result.now c.loop-pin.pin-index c.pin-item.result c.in_ok-number.number
    c.loop-pin-test.true c.pin-item.is c.in_ok-number.ensures c.loop-pin.invariant c.in_ok-add_number.ensures
