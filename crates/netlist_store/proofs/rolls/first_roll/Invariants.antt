use Rattle.std.proofs.Common.{◌≡◌}
use Rattle.netlist_store.specs.Building.{first_numbers}
use Rattle.netlist_store.proofs.rolls.first_roll.Given as goal

abbrev pub invariant-loop-number : goal.invariant-loop-number
invariant-loop-number l = l.roll ≡ first_numbers l.number
