use Rattle.std.proofs.Common.{◌≡◌, ◌++◌, take}
use Rattle.std.specs.List.{flat_map}
use Rattle.netlist_store.specs.Building.{of_inst_pins, row_of}
use Rattle.netlist_store.proofs.building.pin_rows.Given as goal

abbrev pub invariant-loop-inst : goal.invariant-loop-inst
invariant-loop-inst l =
    l.rows ≡ l.initial.rows ++ flat_map (of_inst_pins (row_of l.names.insts l.names.nets) l.frame.late.cells) (take l.inst-index l.insts)
