use Rattle.std.proofs.Common.{◌∷◌, []}
use Rattle.rc_tree.specs.Numbering.{numbered}
use Rattle.rc_tree.proofs.Listing.{joined_flat}
use Rattle.rc_tree.proofs.nodes.add_resistors.Goals as goal

pub loop-resistor-preserved : goal.loop-resistor-preserved
loop-resistor-preserved c =
    joined_flat (λ r. r.a ∷ r.b ∷ []) (numbered c.args.nodes.now) (numbered c.loop-resistor.nodes) (numbered c.add_ends.new.nodes) c.args.resistors.now c.loop-resistor.resistor-index c.resistor-item.result
    c.loop-resistor-test.true c.resistor-item.is c.loop-resistor.invariant c.in_ok-add_ends.ensures
