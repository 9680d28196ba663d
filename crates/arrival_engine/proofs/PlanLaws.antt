-- A plan is made of the tables of a store and of its graph.

use Rattle.std.proofs.Common.{◌≡◌}
use Rattle.node_rows.specs.declared.settings.Setting.{Setting}
use Rattle.pin_graph.specs.Graphs.{Graphed}
use Rattle.arrival_engine.specs.Analysed.{IsPlan}
use Rattle.arrival_engine.specs.Planned.{ArePlanned}

pub plan_over : (setting : Setting) (g : Graphed) → g.stored ≡ setting.store.now → ArePlanned setting.store.now setting.wires.now setting.ports.now → IsPlan setting g
plan_over setting g same plan = record {
  tables = record { wires = plan.wires; ports = plan.ports };
  nets = plan.nets;
  same = same;
}
