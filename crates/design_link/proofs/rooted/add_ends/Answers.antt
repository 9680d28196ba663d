use Rattle.design_link.proofs.RootedLaws.{both_added}
use Rattle.design_link.proofs.rooted.add_ends.Goals as goal

pub returns : goal.returns
returns c =
    both_added c.args.resistor.now.a c.args.resistor.now.b c.args.pins.now c.add_node.new.pins c.add_node-2.new.pins c.in_ok-add_node.ensures c.in_ok-add_node-2.ensures
