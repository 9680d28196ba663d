use Rattle.std.proofs.Common.{take, pos, ◌≡◌, ◌≤◌, ◌*◌, ◌^◌}
use Rattle.timing_defs.specs.Wires.{sum_of, res_of}
use Rattle.rc_tree.proofs.weights.total_resistance.Given as goal

abbrev pub invariant-loop-resistor : goal.invariant-loop-resistor
invariant-loop-resistor l = (pos l.total ≡ sum_of res_of (take l.resistor-index l.resistors)) × (l.total ≤ l.resistor-index * 2 ^ 40)
