use Rattle.std.proofs.Common.{sym}
use Rattle.rc_tree.proofs.Listing.{pin_there, pin_new}
use Rattle.rc_tree.proofs.nodes.Nodes.insert_pin.Goals as goal

pub returns-in-Some : goal.returns-in-Some
returns-in-Some c = pin_there c.args.self.now.pins c.args.self.now.inners c.args.pin.now (sym c.in-Some.ensures.found)

pub returns-in_ok-copied-in-None : goal.returns-in_ok-copied-in-None
returns-in_ok-copied-in-None c =
    pin_new c.args.self.now.pins c.push.new.self c.args.self.now.inners c.args.pin.now c.in_ok-copied-in-None.field-0 c.push.result c.in_ok-copied-in-None.ensures (sym c.in-None.ensures.found) c.push.ensures
