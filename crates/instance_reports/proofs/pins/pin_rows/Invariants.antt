use Rattle.std.proofs.Common.{◌≡◌, take, map}
use Rattle.timing_defs.specs.Netlist.{cell_pin}
use Rattle.timing_rules.specs.Connections.{pin_report}
use Rattle.instance_reports.proofs.pins.pin_rows.Given as goal

abbrev pub invariant-loop-pin : goal.invariant-loop-pin
invariant-loop-pin l = l.rows ≡ map (λ pin. pin_report l.inst (cell_pin l.inst pin)) (take l.pin-index l.pins)
