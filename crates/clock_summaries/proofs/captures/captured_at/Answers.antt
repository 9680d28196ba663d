use Rattle.affected_cone.proofs.EndNumbers.{end_named}
use Rattle.clock_summaries.proofs.CaptureLaws.{captured_told}
use Rattle.clock_summaries.proofs.captures.captured_at.Goals as goal

pub worst_path-requires-clause-endpoint : goal.worst_path-requires-clause-endpoint
worst_path-requires-clause-endpoint c =
    end_named c.args.search.now.store.now c.laws.ensures.numbered c.laws.ensures.linked c.args.pin c.pin_name-name.result.now c.requires.pin c.pin_name-name.ensures

pub returns : goal.returns
returns c =
    captured_told c.args.search.now.store.now c.args.kind c.args.pin c.pin_name-name.result.now c.in_ok-path.path c.captured_by-captured.result c.pin_name-name.ensures
    c.in_ok-path.ensures c.captured_by-captured.ensures
