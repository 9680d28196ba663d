use Rattle.std.proofs.Common.{◌≡◌, ℕ, Some, length}
use Rattle.std.specs.List.{slice_get}
use Rattle.netlist_store.proofs.rolls.widened.Given as goal

abbrev pub invariant-loop-i : goal.invariant-loop-i
invariant-loop-i l =
    ((n p : ℕ) → slice_get l.initial.after n ≡ Some p → slice_get l.after n ≡ Some p) × (length l.after ≡ l._i)
