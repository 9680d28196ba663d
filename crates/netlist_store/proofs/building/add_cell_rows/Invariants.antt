use Rattle.std.proofs.Common.{◌≡◌, ◌++◌, take, map}
use Rattle.timing_defs.specs.Netlist.{cell_pin}
use Rattle.netlist_store.specs.Building.{row_of}
use Rattle.netlist_store.proofs.building.add_cell_rows.Given as goal

abbrev pub invariant-loop-pin : goal.invariant-loop-pin
invariant-loop-pin l =
    l.rows ≡ l.initial.rows ++ map (λ pin. row_of l.names.insts l.names.nets (cell_pin l.inst pin)) (take l.pin-index l.cell.pins)
