use Rattle.std.proofs.Common.{◌≡◌, ◌≤◌, length}
use Rattle.design_link.specs.Counts.{names_below}
use Rattle.design_link.proofs.counts.pin_count.Given as goal

abbrev pub invariant-loop-pin : goal.invariant-loop-pin
invariant-loop-pin l = record { is : l.count ≡ length (names_below l.store.pins l.pin); low : l.count ≤ l.pin }
