use Rattle.std.proofs.Common.{◌≡◌, ℕ, List, Some, true, take}
use Rattle.std.specs.Prelude.{◌&&◌}
use Rattle.std.specs.List.{list_all}
use Rattle.timing_defs.specs.NetChecks.{is_pin_of}
use Rattle.netlist_store.specs.Numbering.{name_at}
use Rattle.design_link.proofs.rc_pins.are_ends_on.Given as goal

abbrev pub invariant-loop-resistor : goal.invariant-loop-resistor
invariant-loop-resistor l =
    (word : List ℕ) → name_at l.store.nets l.net ≡ Some word
    → list_all (λ r. is_pin_of l.store.design word r.a && is_pin_of l.store.design word r.b) (take l.resistor-index l.ress) ≡ true
