use Rattle.std.proofs.Common.{◌≡◌, ◌++◌, take}
use Rattle.std.specs.List.{flat_map}
use Rattle.timing_defs.specs.Netlist.{name_of}
use Rattle.netlist_store.specs.Building.{of_inst_pins}
use Rattle.netlist_store.proofs.building.pin_names.Given as goal

abbrev pub invariant-loop-inst : goal.invariant-loop-inst
invariant-loop-inst l = l.names ≡ l.initial.names ++ flat_map (of_inst_pins name_of l.cells.cells) (take l.inst-index l.insts)
