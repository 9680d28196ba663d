use Rattle.std.proofs.Common.{take, pos, ◌≡◌, ◌≤◌, ◌*◌, ◌^◌}
use Rattle.timing_defs.specs.Wires.{sum_of}
use Rattle.timing_defs.specs.declared.rows.PinCap.{PinCap}
use Rattle.rc_tree.proofs.weights.total_pins.Given as goal

abbrev pub invariant-loop-pin : goal.invariant-loop-pin
invariant-loop-pin l = (pos l.total ≡ sum_of (λ (p : PinCap). p.cap.0) (take l.pin-index l.pins)) × (l.total ≤ l.pin-index * 2 ^ 40)
