use Rattle.std.proofs.Common.{sym}
use Rattle.rc_tree.proofs.Listing.{inner_there, inner_new}
use Rattle.rc_tree.proofs.nodes.Nodes.insert_inner.Goals as goal

pub returns-in-Some : goal.returns-in-Some
returns-in-Some c = inner_there c.args.self.now.pins c.args.self.now.inners c.args.inner (sym c.in-Some.ensures.found)

pub returns-in-None : goal.returns-in-None
returns-in-None c = inner_new c.args.self.now.pins c.args.self.now.inners c.push.new.self c.args.inner c.push.result (sym c.in-None.ensures.found) c.push.ensures
