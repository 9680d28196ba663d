use Rattle.std.proofs.Common.{◌≡◌, take}
use Rattle.std.specs.List.{filter_map}
use Rattle.netlist_store.specs.Numbering.{number_of}
use Rattle.netlist_store.proofs.building.rc_numbers.Given as goal

abbrev pub invariant-loop-rc : goal.invariant-loop-rc
invariant-loop-rc l = l.numbers ≡ filter_map (λ rc. number_of l.nets rc.net) (take l.rc-index l.rcs)
