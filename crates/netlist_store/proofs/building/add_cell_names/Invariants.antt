use Rattle.std.proofs.Common.{◌≡◌, ◌++◌, take, map}
use Rattle.timing_defs.specs.Netlist.{name_of, cell_pin}
use Rattle.netlist_store.proofs.building.add_cell_names.Given as goal

abbrev pub invariant-loop-pin : goal.invariant-loop-pin
invariant-loop-pin l = l.names ≡ l.initial.names ++ map (λ pin. name_of (cell_pin l.inst pin)) (take l.pin-index l.cell.pins)
