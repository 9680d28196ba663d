use Rattle.std.proofs.Common.{sym, subst}
use Rattle.node_rows.specs.declared.pin_wires.Wires.{Wires}
use Rattle.node_rows.specs.declared.ports.Ports.{Ports}
use Rattle.node_rows.specs.WireTables.{AreWires}
use Rattle.node_rows.specs.PortTables.{ArePorts}
use Rattle.std.specs.Arc.{arc_value}
use Rattle.arrival_engine.proofs.UpdatedLaws.{ports_kept}
use Rattle.arrival_engine.proofs.tables.Arrivals.wires_after.Goals as goal

pub update-requires-clause-ports : goal.update-requires-clause-ports
update-requires-clause-ports c =
    subst (λ (p : Ports). ArePorts c.args.store.now.design.constraints p) (sym c.deref-2.ensures)
    (ports_kept c.args.base.now c.args.store.now (record { insts = c.args.touched.now.insts; nets = c.args.touched.now.nets }) c.requires.made (arc_value c.args.self.now.ports) c.requires.was.ports)

pub returns-clause-plan : goal.returns-clause-plan
returns-clause-plan c = record {
  wires = subst (λ (w : Wires). AreWires c.args.store.now w) (sym c.in_ok-shared.ensures) c.in_ok-wires.ensures.wires;
  ports = ports_kept c.args.base.now c.args.store.now (record { insts = c.args.touched.now.insts; nets = c.args.touched.now.nets }) c.requires.made (arc_value c.args.self.now.ports) c.requires.was.ports;
  nets = c.in_ok-wires.ensures.fine;
}
