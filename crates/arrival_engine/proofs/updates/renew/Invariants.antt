use Rattle.std.proofs.Common.{ℕ, ◌≡◌, ◌+◌, ◌≤◌}
use Rattle.timing_rules.specs.Cones.{forward_count}
use Rattle.level_cone.specs.Waiting.{room}
use Rattle.arrival_engine.proofs.RenewLaws.{IsEdit, IsRenewed}
use Rattle.arrival_engine.proofs.updates.renew.Given as goal

abbrev pub invariant-loop-waiting : goal.invariant-loop-waiting
invariant-loop-waiting g l = (ticks : ℕ) × (l.steps ≡ l.fn.steps + ticks)
    × (ticks ≤ forward_count l.base.stored.design l.graph.stored.design (record { insts = l.touched.insts; nets = l.touched.nets }))
    × ((edit : IsEdit l.base l.graph (record { insts = l.touched.insts; nets = l.touched.nets }))
    → IsRenewed l.base l.graph (record { insts = l.touched.insts; nets = l.touched.nets }) edit l.tables.rows l.tables.delays l.waiting ticks)

abbrev pub decreases-loop-waiting : goal.decreases-loop-waiting
decreases-loop-waiting g l = room l.waiting
