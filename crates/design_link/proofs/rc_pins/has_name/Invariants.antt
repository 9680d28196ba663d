use Rattle.std.proofs.Common.{◌≡◌, false, take}
use Rattle.std.specs.List.{list_any}
use Rattle.netlist_store.specs.Numbering.{name_at, is_named}
use Rattle.design_link.proofs.rc_pins.has_name.Given as goal

abbrev pub invariant-loop-pin : goal.invariant-loop-pin
invariant-loop-pin l = list_any (λ pin. is_named l.name (name_at l.store.pins pin)) (take l.pin-index l.pins) ≡ false
