use Rattle.std.proofs.Common.{◌∙◌}
use Rattle.design_link.proofs.NodeLaws.{pin_there}
use Rattle.design_link.proofs.node_sets.NodeSet.has_pin.Goals as goal

pub returns : goal.returns
returns c = c.contains.ensures ∙ pin_there c.args.self.now.pins.keys c.args.self.now.inners.keys c.args.pin.now
