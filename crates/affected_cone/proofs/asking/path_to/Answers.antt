use Rattle.affected_cone.proofs.EndNumbers.{end_named}
use Rattle.affected_cone.proofs.asking.path_to.Goals as goal

pub worst_path-requires-clause-endpoint : goal.worst_path-requires-clause-endpoint
worst_path-requires-clause-endpoint c =
    end_named c.args.known.now.store.now c.laws.ensures.numbered c.laws.ensures.linked c.in_ok-_number._number c.args.pin.now c.in_ok-_number.ensures.end.end
    c.in_ok-_number.ensures.end.told
