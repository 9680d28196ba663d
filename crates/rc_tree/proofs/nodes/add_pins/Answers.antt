use Rattle.timing_defs.specs.declared.parasitics.RcNode.TheVariants.{Pin as rc_pin}
use Rattle.rc_tree.specs.Numbering.{numbered}
use Rattle.rc_tree.proofs.Listing.{joined_map}
use Rattle.rc_tree.proofs.nodes.add_pins.Goals as goal

pub loop-pin-preserved : goal.loop-pin-preserved
loop-pin-preserved c =
    joined_map (λ p. rc_pin p.pin) (numbered c.args.nodes.now) (numbered c.loop-pin.nodes) (numbered c.insert_pin.new.self) c.args.pins.now c.loop-pin.pin-index c.pin-item.result
    c.loop-pin-test.true c.pin-item.is c.loop-pin.invariant c.in_ok-insert_pin.ensures
