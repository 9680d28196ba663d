use Rattle.affected_cone.proofs.EndNumbers.{end_named}
use Rattle.affected_cone.proofs.ends.end_slacks.Goals as goal

pub worst_slacks-requires-clause-endpoint : goal.worst_slacks-requires-clause-endpoint
worst_slacks-requires-clause-endpoint c =
    end_named c.args.search.now.store.now c.laws.ensures.numbered c.laws.ensures.linked c.args.pin c.pin_name-name.result.now c.requires.pin c.pin_name-name.ensures
