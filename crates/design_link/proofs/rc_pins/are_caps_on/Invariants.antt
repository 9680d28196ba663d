use Rattle.std.proofs.Common.{◌≡◌, ℕ, List, Some, true, take}
use Rattle.std.specs.List.{list_all}
use Rattle.timing_defs.specs.NetChecks.{is_pin_of}
use Rattle.netlist_store.specs.Numbering.{name_at}
use Rattle.design_link.proofs.rc_pins.are_caps_on.Given as goal

abbrev pub invariant-loop-cap : goal.invariant-loop-cap
invariant-loop-cap l =
    (word : List ℕ) → name_at l.store.nets l.net ≡ Some word
    → list_all (λ c. is_pin_of l.store.design word c.node) (take l.cap-index l.caps) ≡ true
