use Rattle.rc_tree.proofs.Listing.{apart}
use Rattle.rc_tree.proofs.nodes.Nodes.len.Goals as goal

pub returns-clause-apart : goal.returns-clause-apart
returns-clause-apart c = apart c.args.self.now.pins c.args.self.now.inners c.len.ensures.unique c.len-2.ensures.unique
