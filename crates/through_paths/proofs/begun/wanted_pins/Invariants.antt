use Rattle.std.proofs.Common.{◌≡◌, map, take}
use Rattle.netlist_store.specs.Numbering.{number_of}
use Rattle.through_paths.proofs.begun.wanted_pins.Given as goal

abbrev pub invariant-loop-pin : goal.invariant-loop-pin
invariant-loop-pin l = l.wanted ≡ map (number_of l.store.pins) (take l.pin-index l.pins)
