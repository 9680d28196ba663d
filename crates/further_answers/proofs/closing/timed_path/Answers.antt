use Rattle.affected_cone.proofs.EndNumbers.{end_named}
use Rattle.further_answers.proofs.closing.timed_path.Goals as goal

pub timing-requires-clause-endpoint : goal.timing-requires-clause-endpoint
timing-requires-clause-endpoint c =
    end_named c.args.search.now.store.now c.laws.ensures.numbered c.laws.ensures.linked c.in_ok-_number._number c.args.pin.now c.in_ok-_number.ensures.end.end
    c.in_ok-_number.ensures.end.told
