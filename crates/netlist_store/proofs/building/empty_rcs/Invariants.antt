use Rattle.std.proofs.Common.{◌≡◌, None, replicate}
use Rattle.netlist_store.proofs.building.empty_rcs.Given as goal

abbrev pub invariant-loop-i : goal.invariant-loop-i
invariant-loop-i l = l.rows ≡ replicate l._i None
