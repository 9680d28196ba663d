use Rattle.rc_tree.proofs.Keeping.{distinct_pushed}
use Rattle.rc_tree.proofs.keys.push_first.Goals as goal

pub returns-clause-distinct : goal.returns-clause-distinct
returns-clause-distinct g c = distinct_pushed g.T.PartialEq.eq g.met.T.Eq.laws c.args.first.now.items c.push.new.self.items c.args.key c.push.result c.requires.distinct c.requires.absent c.push.ensures.items
