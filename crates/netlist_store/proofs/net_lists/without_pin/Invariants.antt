use Rattle.std.proofs.Common.{◌≡◌, ◌++◌, drop, filter, not, nat_eq}
use Rattle.netlist_store.proofs.net_lists.without_pin.Given as goal

abbrev pub invariant-loop-other : goal.invariant-loop-other
invariant-loop-other l = l.left ++ filter (λ p. not (nat_eq l.pin p)) (drop l.other-index l.pins) ≡ filter (λ p. not (nat_eq l.pin p)) l.pins
