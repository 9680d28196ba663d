use Rattle.std.proofs.Common.{◌≡◌, ℕ, length}
use Rattle.netlist_store.specs.Stores.{at}
use Rattle.netlist_store.proofs.row_edits.widen.Given as goal

abbrev pub invariant-loop-i : goal.invariant-loop-i
invariant-loop-i g l = ((n : ℕ) → at l.rows n ≡ at l.initial.rows n) × (length l.rows ≡ l._i)
