use Rattle.std.proofs.Common.{take, pos, ◌≡◌, ◌≤◌, ◌*◌, ◌^◌}
use Rattle.timing_defs.specs.Wires.{sum_of, res_of}
use Rattle.net_reports.proofs.wires.total_resistance.Given as goal

abbrev pub invariant-loop-res : goal.invariant-loop-res
invariant-loop-res l = (pos l.total ≡ sum_of res_of (take l.res-index l.ress)) × (l.total ≤ l.res-index * 2 ^ 40)
