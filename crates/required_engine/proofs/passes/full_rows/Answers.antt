use Rattle.required_engine.proofs.PassLaws.{full_told, full_ready, near_told}
use Rattle.required_engine.proofs.passes.full_rows.Goals as goal

pub returns-clause-fine : goal.returns-clause-fine
returns-clause-fine g c =
    (full_told c.args.graph.now c.args.store.now c.requires.graph c.laws.ensures.numbered c.laws.ensures.linked c.all_levels.new.rows
    c.in_ok-all_levels.ensures.done).1

pub returns-clause-within : goal.returns-clause-within
returns-clause-within g c =
    near_told c.args.graph.now c.args.store.now c.requires.graph c.laws.ensures.numbered c.laws.ensures.linked c.laws-2.ensures c.all_levels.new.rows
    c.in_ok-all_levels.ensures.done

pub returns-clause-ready : goal.returns-clause-ready
returns-clause-ready g c =
    full_ready c.args.graph.now c.args.store.now c.requires.graph c.laws.ensures.numbered c.laws.ensures.linked c.laws-2.ensures c.all_levels.new.rows
    c.in_ok-all_levels.ensures.done
