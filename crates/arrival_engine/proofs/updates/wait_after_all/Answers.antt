use Rattle.std.proofs.Common.{◌||◌, ◌&&◌, get_or, ap, ◌∙◌, rules}
use Rattle.level_cone.specs.Waiting.{waits}
use Rattle.level_cone.specs.Cone.{stands_in}
use Rattle.timing_defs.specs.declared.rows.NodeRow.{NodeRow}
use Rattle.pin_graph.specs.Graphs.{level_at}
use Rattle.pin_graph.specs.RowTables.{row_numbered}
use Rattle.arrival_engine.specs.Updated.{is_moved, heads_of}
use Rattle.arrival_engine.proofs.TurnLaws.{row_here, marks_more}
use Rattle.arrival_engine.proofs.updates.wait_after_all.Goals as goal

pub loop-at-preserved : goal.loop-at-preserved
loop-at-preserved c = λ k n.
    let row = row_here (row_numbered c.args.graph.now.stored) c.args.nodes.now c.args.answers.now c.loop-at.at 0 c.index-answers-at.result c.requires.rows (search rules) in
    c.in_ok-wait_after.ensures k n
    ∙ ap (λ (r : NodeRow). waits c.loop-at.waiting k n || (is_moved c.args.base.now.stored c.args.rows.now (get_or c.args.nodes.now c.loop-at.at 0) r
    && stands_in (level_at c.args.graph.now) (heads_of c.args.graph.now (get_or c.args.nodes.now c.loop-at.at 0)) k n)) row
    ∙ marks_more (λ m. is_moved c.args.base.now.stored c.args.rows.now m (row_numbered c.args.graph.now.stored m) && stands_in (level_at c.args.graph.now) (heads_of c.args.graph.now m) k n)
    (waits c.args.waiting.now k n) (waits c.loop-at.waiting k n) c.args.nodes.now c.loop-at.at 0 (search rules) (c.loop-at.invariant k n)
