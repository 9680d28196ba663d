use Rattle.std.proofs.Common.{◌≡◌, ◌++◌, take}
use Rattle.std.specs.List.{flat_map}
use Rattle.edit_reach.specs.Besides.{inst_pins_at}
use Rattle.edit_reach.proofs.dirty.add_insts_pins.Given as goal

abbrev pub invariant-loop-inst : goal.invariant-loop-inst
invariant-loop-inst l = l.pins ≡ l.initial.pins ++ flat_map (inst_pins_at l.store) (take l.inst-index l.insts)
