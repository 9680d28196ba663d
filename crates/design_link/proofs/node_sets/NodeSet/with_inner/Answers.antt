use Rattle.design_link.proofs.NodeLaws.{inner_more}
use Rattle.design_link.proofs.node_sets.NodeSet.with_inner.Goals as goal

pub returns-in-Ok : goal.returns-in-Ok
returns-in-Ok c = inner_more c.args.self.pins.keys c.args.self.inners.keys c.insert.new.self.keys c.args.inner c.in-Ok.ensures.keys
