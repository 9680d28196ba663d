use Rattle.arc_delays.proofs.TableLaws.{delays_there}
use Rattle.arc_delays.proofs.tables.ArcDelays.of.Goals as goal

pub returns-clause-all : goal.returns-clause-all
returns-clause-all c =
    delays_there c.args.graph.now c.args.store.now c.requires.graph c.laws.ensures.numbered c.laws.ensures.linked c.laws-2.ensures c.requires.within
    c.args.table c.requires.each
