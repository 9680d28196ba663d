use Rattle.level_workers.proofs.Joins.{ok_more}
use Rattle.arrival_engine.proofs.PassLaws.{ready_of}
use Rattle.arrival_engine.proofs.tables.Arrivals.full.Goals as goal

pub returns-clause-ready : goal.returns-clause-ready
returns-clause-ready g c =
    ok_more c.with_tables.result (λ a all. ready_of c.args.graph.now c.args.store.now c.requires.graph a.rows all) c.with_tables.ensures.ready
