use Rattle.rc_tree.proofs.Keeping.{distinct_inserted}
use Rattle.rc_tree.proofs.keys.push_more.Goals as goal

pub returns-clause-distinct : goal.returns-clause-distinct
returns-clause-distinct g c =
    distinct_inserted g.T.PartialEq.eq g.met.T.Eq.laws c.args.first.now c.args.more.now.keys c.insert.new.self.keys c.args.key c.insert.result c.requires.distinct c.requires.absent c.insert.ensures.keys c.insert.ensures.err
