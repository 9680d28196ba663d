use Rattle.rc_tree.proofs.Listing.{pin_number_is}
use Rattle.rc_tree.proofs.nodes.Nodes.pin_number.Goals as goal

pub returns : goal.returns
returns c = pin_number_is c.args.self.now.pins c.args.self.now.inners c.args.pin.now c.place.result c.place.ensures.index c.place.ensures.found
