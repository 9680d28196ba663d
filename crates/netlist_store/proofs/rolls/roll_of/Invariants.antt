use Rattle.std.proofs.Common.{◌≡◌, take}
use Rattle.netlist_store.proofs.rolls.roll_of.Given as goal

abbrev pub invariant-loop-number : goal.invariant-loop-number
invariant-loop-number l = l.roll ≡ take l.number-index l.numbers
