use Rattle.std.proofs.Common.{◌≡◌, ℕ, ◌<◌, true, get_or}
use Rattle.design_link.proofs.NetNodeLaws.{pin_node}
use Rattle.design_link.proofs.RcPinLaws.{is_end}
use Rattle.design_link.proofs.rc_pins.are_pins_at.Given as goal

abbrev pub invariant-loop-pin : goal.invariant-loop-pin
invariant-loop-pin l = (k : ℕ) → k < l.pin-index → is_end l.ress (pin_node l.store (get_or l.pin-items k 0)) ≡ true
