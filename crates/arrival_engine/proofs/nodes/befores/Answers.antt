use Rattle.std.proofs.Common.{rules}
use Rattle.level_workers.proofs.Joins.{map-more}
use Rattle.arrival_engine.specs.Analysed.{IsBefore}
use Rattle.arrival_engine.proofs.nodes.befores.Goals as goal

pub loop-arc-preserved : goal.loop-arc-preserved
loop-arc-preserved c =
    map-more (IsBefore c.args.graph.now c.args.rows.now) c.arcs_in-arcs.result.now c.loop-arc.arc-index _ c.loop-arc.found.items c.push.new.self.items
    c.before-in-loop-arc.result c.loop-arc-test.true (search rules) c.loop-arc.invariant c.before-in-loop-arc.ensures (search rules)
