use Rattle.std.proofs.Common.{map, length, ap, ◌∙◌}
use Rattle.level_cone.proofs.Puts.{length-put_all}
use Rattle.pin_graph.specs.RowTables.{back_numbered}
use Rattle.required_engine.proofs.PutBacks.{froms_there}
use Rattle.required_engine.proofs.renewing.renew_level.Goals as goal

pub wait_before_all-requires-clause-count : goal.wait_before_all-requires-clause-count
wait_before_all-requires-clause-count g c =
    ap length c.in_ok-take_turn.ensures.rows
    ∙ length-put_all c.args.rows.now c.args.nodes.now (map (back_numbered c.args.graph.now.stored) c.args.nodes.now)
    ∙ c.requires.done.count

pub wait_before_all-requires-clause-low : goal.wait_before_all-requires-clause-low
wait_before_all-requires-clause-low g c =
    froms_there c.args.graph.now c.args.store.now c.requires.graph c.laws.ensures.numbered c.laws.ensures.linked c.laws-2.ensures
