use Rattle.std.proofs.Common.{take, pos, ◌≡◌, ◌≤◌, ◌*◌, ◌^◌}
use Rattle.timing_defs.specs.Wires.{sum_of}
use Rattle.timing_defs.specs.declared.parasitics.RcCap.{RcCap}
use Rattle.node_rows.proofs.loads.caps_load.Given as goal

abbrev pub invariant-loop-cap : goal.invariant-loop-cap
invariant-loop-cap l = (pos l.total ≡ sum_of (λ (c : RcCap). c.cap.0) (take l.cap-index l.caps)) × (l.total ≤ l.cap-index * 2 ^ 40)
